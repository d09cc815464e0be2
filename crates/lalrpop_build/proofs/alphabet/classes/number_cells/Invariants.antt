use Rattle.std.proofs.Common.{◌≡◌, ℕ, ◌+◌, ◌≤◌, length, slice_get, Some}
use Rattle.std.specs.Prelude.{◌↔◌}
use Rattle.lalrpop_build.specs.declared.alphabet.signatures.Signature.{Signature}
use Rattle.lalrpop_build.specs.Internal.Alphabet.{HasBoundary}
use Rattle.lalrpop_build.specs.Internal.Numbered.{AreNumbered, AreClassed}
use Rattle.lalrpop_build.proofs.alphabet.classes.number_cells.Given as goal

abbrev pub invariant-loop-signature : goal.invariant-loop-signature
invariant-loop-signature l = record {
  rest : (k : ℕ) (s : Signature) → slice_get l.signature-iterator.rest.items k ≡ Some s → slice_get l.fn.cell_signatures.signatures.items (length l.cells.items + k) ≡ Some s;
  places : length l.cells.items + length l.signature-iterator.rest.items ≡ length l.fn.cell_signatures.signatures.items;
  same_length : length l.numbering.groups.items ≡ length l.fn.cell_signatures.groups.items;
  boundaries : (n k : ℕ) → HasBoundary l.numbering.groups.items n k ↔ HasBoundary l.fn.cell_signatures.groups.items n k;
  few : l.numbering.count ≤ length l.cells.items;
  numbered : AreNumbered l.numbering.known l.numbering.groups.items l.numbering.count;
  classed : AreClassed l.boundaries l.fn.cell_signatures.signatures.items l.cells.items l.numbering.groups.items l.numbering.count;
}
