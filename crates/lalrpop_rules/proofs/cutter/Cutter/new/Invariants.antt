use Rattle.lalrpop_rules.specs.Internal.Cutting.{AreUncut}
use Rattle.lalrpop_rules.proofs.cutter.Cutter.new.Given as goal

abbrev pub invariant-loop-mode : goal.invariant-loop-mode
invariant-loop-mode l = AreUncut l.lexer l.text l.mode l.cuts.items
