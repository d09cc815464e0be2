use Rattle.lalrpop_rule_file.proofs.passed_end.has_passed_end.Goals as goal

pub returns-in-PatternWith : goal.returns-in-PatternWith
returns-in-PatternWith c = rw c.in-PatternWith.is c.passes_end-in-PatternWith.ensures
