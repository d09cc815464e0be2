-- If no word is ambiguous, the greatest of the strongest trees is the only one.
use Rattle.std.proofs.Common.{◌≡◌, ℕ, ◌<◌, ◌⊎◌, inl, inr, List, Some, None, arith}
use Rattle.std.specs.Prelude.{Option, IfSome}
use Rattle.std.specs.Option.{option_map}
use Rattle.std.specs.Str.{chars}
use Rattle.std.proofs.lemmas.Bool.{cases_order}
use Rattle.lalrpop_hir.specs.Tree.{Tree}
use Rattle.lalrpop_hir.specs.Winners.{IsStrongest, IsHighestStrongest, IsOnlyStrongest}
use Rattle.lalrpop_hir.specs.Clash.{NoClash}
use Rattle.lalrpop_hir.specs.Longest.{IsLongest}

pub IsOnlyStrongest-from_greatest : (ts : List Tree) (ps w : List ℕ) (i : ℕ) → NoClash ts ps → IsHighestStrongest ts ps w i → IsOnlyStrongest ts ps w i
IsOnlyStrongest-from_greatest ts ps w i none greatest = (greatest.0, λ j top. by_order j top (cases_order j i))
  where
    by_order : (j : ℕ) → IsStrongest ts ps w j → (j ≡ i) ⊎ ((j < i) ⊎ (i < j)) → j ≡ i
    by_order j top (inl same) = same
    by_order j top (inr (inl less)) = absurd (none w (i, j, (less, greatest.0, top)))
    by_order j top (inr (inr more)) = absurd (omega (arith, greatest.1 j top))

-- the same for a longest match, whose prefix is what `shown` gives of the answer
pub IsOnlyStrongest-from_longest : {A : Type 0} (shown : A → List ℕ) (ts : List Tree) (ps text : List ℕ) (found : Option (ℕ × A)) → NoClash ts ps
    → IsLongest ts ps text (option_map (λ m. (m.0, shown m.1)) found) → IfSome found (λ m. IsOnlyStrongest ts ps (chars (shown m.1)) m.0)
IsOnlyStrongest-from_longest shown ts ps text None none longest = tt
IsOnlyStrongest-from_longest shown ts ps text (Some m) none longest = IsOnlyStrongest-from_greatest ts ps (chars (shown m.1)) m.0 none longest.2
