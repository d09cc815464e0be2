-- The strongest of some trees, and the one that ties with it.
use Rattle.std.specs.Prelude.{◌≡◌, ℕ, ◌<◌, ◌≤◌, ◌==◌, cond, nat_lt, List, [], map, slice_index, Option, Some, None, MatchOption}
use Rattle.std.specs.List.{Contains, filter}
use Rattle.lalrpop_dfa.specs.Ascending.{Item}
use Rattle.lalrpop_hir.specs.States.{accept_state}
use Rattle.lalrpop_build.specs.declared.build.best.Best.{Best}

-- the trees that a set accepts, in the order of its items
abbrev pub accepts : List Item → List ℕ
accepts s = map (λ x. x.0) (filter (λ x. x.1 == accept_state) s)

-- those of them with the precedence p
abbrev pub accepts_with : List ℕ → List Item → ℕ → List ℕ
accepts_with ps s p = filter (λ i. slice_index ps i == p) (accepts s)

-- i is one of the strongest of the trees
abbrev pub IsStrong : List ℕ → List ℕ → ℕ → Type 0
IsStrong ps is i = Contains is i × ((j : ℕ) → Contains is j → slice_index ps j ≤ slice_index ps i)

-- b names the greatest of the strongest trees, and the second greatest if there are two or more
pub record IsBestOf (ps is : List ℕ) (b : Best) : Type 0 where
  pub strong : IsStrong ps is b.index
  pub weight : slice_index ps b.index ≡ b.precedence
  pub above : (j : ℕ) → IsStrong ps is j → j ≤ b.index
  pub tied : MatchOption b.tied
      ((j : ℕ) → IsStrong ps is j → j ≡ b.index)
      (λ second. IsStrong ps is second × (second < b.index) × ((j : ℕ) → IsStrong ps is j → j < b.index → j ≤ second))

-- the same, where there may be no trees
abbrev pub IsBest : List ℕ → List ℕ → Option Best → Type 0
IsBest ps is None = is ≡ []
IsBest ps is (Some b) = IsBestOf ps is b

-- the best after one more tree, which is greater than those before
abbrev pub raised : Option Best → ℕ → ℕ → Best
raised None i p = record { index = i; precedence = p; tied = None }
raised (Some b) i p =
    cond (nat_lt b.precedence p) (record { index = i; precedence = p; tied = None })
    (cond (b.precedence == p) (record { index = i; precedence = p; tied = Some b.index }) b)
