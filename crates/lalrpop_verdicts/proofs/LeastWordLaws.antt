-- The least words of trees, told to each tree one after the other.
use Rattle.std.proofs.Common.{◌≡◌, ◌≢◌, ℕ, zero, suc, ◌<◌, ◌≤◌, ◌⊎◌, inl, inr, List, [], ◌∷◌, length, slice_set, Global, Vec, arith, subst, sym, ap, ◌∙◌, refl, ⊎_elim}
use Rattle.std.specs.Prelude.{slice_get, Option, Some, None, option_map}
use Rattle.std.specs.List.{Contains}
use Rattle.std.proofs.lemmas.Bool.{cases_eq}
use Rattle.std.proofs.lemmas.Option.{slice_get_within}
use Rattle.lalrpop_hir.proofs.Contained.{contains_none, contains_cases, contains_later}
use Rattle.lalrpop_dfa.specs.Dfa.{Row}
use Rattle.lalrpop_dfa.specs.Witness.{IsLeast}
use Rattle.lalrpop_verdicts.specs.WonWord.{WonWord}
use Rattle.lalrpop_verdicts.specs.Internal.WonWords.{AreWonWords, IsBoth, IsLeastWon}

-- each word in the list is the word of its tree, and each tree with a word has it in the list, or waits for it
pub record AreTold (all left : List WonWord) (words : List (Option (Vec ℕ Global))) : Type 0 where
  pub right : (i : ℕ) (w : Vec ℕ Global) → slice_get words i ≡ Some (Some w) → (x : WonWord) × (Contains all x × (x.by ≡ i) × (x.word ≡ w.items))
  pub told : (x : WonWord) → Contains all x → Contains left x ⊎ (slice_get words x.by ≢ Some None)
  pub inside : (x : WonWord) → Contains left x → Contains all x

set_there : {X : Type 0} (xs : List X) (i : ℕ) (x : X) → i < length xs → slice_get (slice_set xs i x) i ≡ Some x
set_there [] i x l = absurd (omega (arith, l))
set_there (z ∷ xs) zero x l = refl
set_there (z ∷ xs) (suc i) x l = set_there xs i x (omega (arith, l))

set_elsewhere : {X : Type 0} (xs : List X) (i j : ℕ) (x : X) → j ≢ i → slice_get (slice_set xs i x) j ≡ slice_get xs j
set_elsewhere [] i j x other = refl
set_elsewhere (z ∷ xs) zero zero x other = absurd (other refl)
set_elsewhere (z ∷ xs) zero (suc j) x other = refl
set_elsewhere (z ∷ xs) (suc i) zero x other = refl
set_elsewhere (z ∷ xs) (suc i) (suc j) x other = set_elsewhere xs i j x (λ same. other (ap (λ n. suc n) same))

-- at first no word is told
pub none_told : (all : List WonWord) (words : List (Option (Vec ℕ Global))) → ((i : ℕ) (o : Option (Vec ℕ Global)) → slice_get words i ≡ Some o → o ≡ None) → AreTold all all words
none_told all words none = record {
  right = λ i w at. (let e : Some w ≡ None = none i (Some w) at in cc);
  told = λ x has. inl has;
  inside = λ x has. has;
}

module _ (all rest : List WonWord) (words : List (Option (Vec ℕ Global))) (x : WonWord) (h : AreTold all (x ∷ rest) words) where
  x_inside : Contains all x
  x_inside = h.inside x (0, omega arith, refl)

  -- a word is told
  pub one_told : (w : Vec ℕ Global) → x.word ≡ w.items → x.by < length words → AreTold all rest (slice_set words x.by (Some w))
  one_told w same within = record {
    right = λ i v at. ⊎_elim (λ (e : i ≡ x.by). let f : Some (Some w) ≡ Some (Some v) = sym (set_there words x.by (Some w) within) ∙ (subst (λ k. slice_get (slice_set words x.by (Some w)) k ≡ Some (Some v)) e at) in
        let g : w ≡ v = cc in (x, (x_inside, sym e, same ∙ ap (λ u. u.items) g)))
        (λ (ne : i ≢ x.by). h.right i v (sym (set_elsewhere words x.by i (Some w) ne) ∙ at))
        (cases_eq i x.by);
    told = λ y has. ⊎_elim (λ (e : y.by ≡ x.by). inr (λ none. let f : Some (Some w) ≡ Some None = sym (set_there words x.by (Some w) within) ∙ subst (λ k. slice_get (slice_set words x.by (Some w)) k ≡ Some None) e none in cc))
        (λ (ne : y.by ≢ x.by). elim (h.told y has) [
          | inl waits ↦ elim (contains_cases x rest y waits) [
            | inl same2 ↦ absurd (ne (ap (λ z. z.by) (sym same2)))
            | inr later ↦ inl later
          ]
          | inr told ↦ inr (λ none. told (sym (set_elsewhere words x.by y.by (Some w) ne) ∙ none))
        ])
        (cases_eq y.by x.by);
    inside = λ y has. h.inside y (contains_later x rest y has);
  }

  -- a tree outside the list is passed
  pub one_passed : length words ≤ x.by → AreTold all rest words
  one_passed outside = record {
    right = h.right;
    told = λ y has. elim (h.told y has) [
      | inl waits ↦ elim (contains_cases x rest y waits) [
        | inl same ↦ inr (λ none. omega (arith, slice_get_within words y.by None none, ap (λ z. z.by) same, outside))
        | inr later ↦ inl later
      ]
      | inr told ↦ inr told
    ];
    inside = λ y has. h.inside y (contains_later x rest y has);
  }

-- once all are told, each place has the least word of its tree
pub all_told : (d : List Row) (all : List WonWord) (words : List (Option (Vec ℕ Global))) → AreWonWords d d all → AreTold all [] words
    → (i : ℕ) (o : Option (Vec ℕ Global)) → slice_get words i ≡ Some o → IsLeastWon d i (option_map (λ w. w.items) o)
all_told d all words won h i None at = λ w both. (let (x, (has, by)) = won.all i w both in
    elim (h.told x has) [ inl waits ↦ contains_none x waits | inr told ↦ told (subst (λ k. slice_get words k ≡ Some None) (sym by) at) ])
all_told d all words won h i (Some w) at =
    let (x, (has, by, same)) = h.right i w at in
    subst (λ v. IsLeast (IsBoth d d i) v) same (subst (λ k. IsLeast (IsBoth d d k) x.word) by (won.each x has))

module _ (all s t : List WonWord) (words : List (Option (Vec ℕ Global))) (x : WonWord) (place : ℕ) (h : AreTold all s words) (turn : s ≡ x ∷ t) where
  waiting : AreTold all (x ∷ t) words
  waiting = subst (λ l. AreTold all l words) turn h

  pub told_turn : (b : ℕ) (w : Vec ℕ Global) → record { by = b; word = w.items } ≡ x → place ≡ b → place < length words → AreTold all t (slice_set words place (Some w))
  told_turn b w view is within =
      let same : place ≡ x.by = is ∙ ap (λ (y : WonWord). y.by) view in
      let word : x.word ≡ w.items = ap (λ (y : WonWord). y.word) (sym view) in
      subst (λ k. AreTold all t (slice_set words k (Some w))) (sym same) (one_told all t words x waiting w word (omega (arith, within, same)))

  pub passed_turn : (b : ℕ) (w : Vec ℕ Global) → record { by = b; word = w.items } ≡ x → place ≡ b → length words ≤ place → AreTold all t words
  passed_turn b w view is outside =
      let same : place ≡ x.by = is ∙ ap (λ (y : WonWord). y.by) view in
      one_passed all t words x waiting (omega (arith, outside, same))

pub length_kept : {X : Type 0} (xs : List X) (i : ℕ) (x : X) → length (slice_set xs i x) ≡ length xs
length_kept [] i x = refl
length_kept (y ∷ ys) zero x = refl
length_kept (y ∷ ys) (suc i) x = ap (λ n. suc n) (length_kept ys i x)
