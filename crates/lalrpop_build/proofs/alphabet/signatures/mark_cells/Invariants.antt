use Rattle.std.proofs.Common.{◌≡◌, ◌<◌, ◌≤◌}
use Rattle.lalrpop_build.specs.Internal.Signatures.{Marked}
use Rattle.lalrpop_build.proofs.alphabet.signatures.mark_cells.Given as goal

abbrev pub invariant-loop-cell : goal.invariant-loop-cell
invariant-loop-cell l = record {
  marked : Marked l.fn.signatures.items l.signatures.items (λ k n. (n ≡ l.number) × (l.from ≤ k) × (k < l.cell));
  within : l.from < l.cell → l.cell ≤ l.until;
}
