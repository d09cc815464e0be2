use Rattle.std.proofs.Common.{take}
use Rattle.bajofeki_c.specs.Built.{AreNamed}
use Rattle.bajofeki_c.proofs.held.named_rules.Given as goal

-- the rules so far
abbrev pub invariant-loop-rule : goal.invariant-loop-rule
invariant-loop-rule l = AreNamed (take l.rule-index l.rules) l.all.items
