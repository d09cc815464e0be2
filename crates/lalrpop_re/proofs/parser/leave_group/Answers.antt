use Rattle.lalrpop_re.proofs.parser.leave_group.Goals as goal

pub returns-clause-flags : goal.returns-clause-flags
returns-clause-flags c = c.set_flags.ensures.flags
