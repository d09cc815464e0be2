use Rattle.std.proofs.Common.{ℕ, List}
use Rattle.lalrpop_emit.specs.ByteCut.{IsCutOf}
use Rattle.lalrpop_emit.specs.NumberedRules.{NumberedRules}
use Rattle.rules_tests.proofs.emit.cut_lines.Given as goal

abbrev pub invariant-lines : goal.invariant-lines
invariant-lines l = (n : NumberedRules) × ((text : List ℕ) × IsCutOf n text l.cutter)
