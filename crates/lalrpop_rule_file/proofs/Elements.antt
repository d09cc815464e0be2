-- Elements of which something holds, one after another.
use Rattle.std.proofs.Common.{◌≡◌, ℕ, ◌+◌, ◌<◌, ◌≤◌, inl, inr, List, length, get_or, ap, sym, subst, ◌∙◌, arith, eq-or-lt_of_le}
use Rattle.std.specs.Prelude.{Some, slice_get}
use Rattle.std.proofs.lemmas.Option.{slice_get-get_or, slice_get_within}

-- it holds of none of the first elements, this many
abbrev pub NoneBefore : {X : Type 0} → (X → Type 0) → List X → ℕ → Type 0
NoneBefore {X} is xs k = (j : ℕ) (x : X) → j < k → slice_get xs j ≡ Some x → is x → ⊥

-- it holds of one element
abbrev pub One : {X : Type 0} → (X → Type 0) → List X → Type 0
One {X} is xs = (j : ℕ) × ((x : X) × ((slice_get xs j ≡ Some x) × is x))

element_at : {X : Type 0} (xs : List X) (k : ℕ) (x : X) → k < length xs → x ≡ get_or xs k x → slice_get xs k ≡ Some x
element_at xs k x within item = slice_get-get_or xs k x within ∙ ap Some (sym item)

pub none_more : {X : Type 0} (is : X → Type 0) (xs : List X) (k : ℕ) (x : X) → k < length xs → x ≡ get_or xs k x → NoneBefore is xs k → ¬ is x → NoneBefore is xs (k + 1)
none_more is xs k x within item none lacks j y below at holds =
    let least : j ≤ k = omega arith in
    elim (eq-or-lt_of_le least) [
      | inl e ↦
          let both : Some y ≡ Some x = sym at ∙ ap (slice_get xs) e ∙ element_at xs k x within item in
          let same : y ≡ x = cc in
          lacks (subst is same holds)
      | inr less ↦ none j y less at holds
    ]

pub one_here : {X : Type 0} (is : X → Type 0) (xs : List X) (k : ℕ) (x : X) → k < length xs → x ≡ get_or xs k x → is x → One is xs
one_here is xs k x within item holds = (k, (x, (element_at xs k x within item, holds)))

pub none_at_all : {X : Type 0} (is : X → Type 0) (xs : List X) (k : ℕ) → NoneBefore is xs k → length xs ≤ k → ¬ One is xs
none_at_all is xs k none all (j, (x, (at, holds))) = none j x (omega (arith, all, slice_get_within xs j x at)) at holds
