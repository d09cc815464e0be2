use Rattle.std.proofs.Common.{ℕ, ◌≤◌, take}
use Rattle.std.specs.List.{Contains}
use Rattle.lalrpop_build.specs.Internal.Boundaries.{AreRising, AreEndsOf}
use Rattle.lalrpop_build.proofs.alphabet.cells.ends_of.Given as goal

abbrev pub invariant-loop-block : goal.invariant-loop-block
invariant-loop-block l = record {
  rising : AreRising l.boundaries.items;
  within : (v : ℕ) → Contains l.boundaries.items v → v ≤ 4294967296;
  ends : AreEndsOf (take l.block-index l.blocks) l.boundaries.items;
}
