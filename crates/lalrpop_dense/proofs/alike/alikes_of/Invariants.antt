use Rattle.std.proofs.Common.{◌≡◌, ℕ, length, Some}
use Rattle.std.specs.Prelude.{slice_get}
use Rattle.lalrpop_dense.specs.Internal.Alikes.{IsAlike}
use Rattle.lalrpop_dense.specs.declared.alike.Alike.{Alike}
use Rattle.lalrpop_dense.proofs.alike.alikes_of.Given as goal

-- the states below the number have one each
abbrev pub invariant-loop-number : goal.invariant-loop-number
invariant-loop-number l = record {
  same_length : length l.alikes.items ≡ l.number;
  each : (p : ℕ) (a : Alike) → slice_get l.alikes.items p ≡ Some a → IsAlike l.dfa p a;
}
