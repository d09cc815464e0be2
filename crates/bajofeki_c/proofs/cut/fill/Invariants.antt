use Rattle.std.proofs.Common.{◌-◌, ◌≤◌, length}
use Rattle.lalrpop_emit.specs.ByteCut.{IsCutOf}
use Rattle.bajofeki_c.specs.Cut.{AreFilled}
use Rattle.bajofeki_c.proofs.cut.fill.Given as goal

-- the pieces so far are written
abbrev pub invariant-filling : goal.invariant-filling
invariant-filling l = record {
  within : l.count ≤ length l.out;
  cut : IsCutOf l.lexer.numbers l.text l.cutter;
  filled : AreFilled l.lexer l.text l.initial.cutter l.initial.out l.count l.out l.cutter;
}

abbrev pub decreases-filling : goal.decreases-filling
decreases-filling l = length l.out - l.count
