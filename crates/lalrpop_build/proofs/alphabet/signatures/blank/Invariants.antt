use Rattle.std.proofs.Common.{◌≡◌, ℕ, length, slice_get, Some}
use Rattle.std.specs.List.{Contains}
use Rattle.lalrpop_build.specs.declared.alphabet.signatures.Signature.{Signature}
use Rattle.lalrpop_build.proofs.alphabet.signatures.blank.Given as goal

abbrev pub invariant-loop : goal.invariant-loop
invariant-loop l = record {
  len : length l.signatures.items ≡ l.counter;
  none : (k : ℕ) (s : Signature) → slice_get l.signatures.items k ≡ Some s → (n : ℕ) → Contains s.lists.items n → ⊥;
}
