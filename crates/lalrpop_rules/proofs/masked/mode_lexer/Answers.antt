use Rattle.lalrpop_rules.proofs.masked.mode_lexer.Goals as goal

pub returns-clause-no_clash : goal.returns-clause-no_clash
returns-clause-no_clash c = rw (← c.in_ok-trees.ensures.trees, ← c.in_ok-precedences.ensures.items) c.new.ensures.no_clash
