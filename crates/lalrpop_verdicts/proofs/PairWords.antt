-- Reading a pair's word off, from its end.
use Rattle.std.proofs.Common.{◌≡◌, ℕ, suc, ◌<◌, inl, inr, List, [], ◌∷◌, ◌++◌, length, reverse, sym, ap, ◌∙◌, arith, append_assoc}
use Rattle.std.specs.Prelude.{slice_get, Option, Some, None}
use Rattle.std.proofs.lemmas.List.{reverse-append, append-nil}
use Rattle.std.proofs.lemmas.Option.{slice_get_cases}
use Rattle.lalrpop_dfa.specs.Dfa.{Row}
use Rattle.lalrpop_verdicts.specs.declared.pairs.Pair.{Pair}
use Rattle.lalrpop_verdicts.specs.declared.pairs.Follow.{Follow}
use Rattle.lalrpop_verdicts.specs.Internal.Pairs.{ArePairs, IsOneMore}

-- the word of the place, and then the values backwards
abbrev pub IsRestOf : List (List ℕ) → Option ℕ → List ℕ → List ℕ → Type 0
IsRestOf words None values w = w ≡ reverse values
IsRestOf words (Some k) values w = (v : List ℕ) → slice_get words k ≡ Some v → w ≡ v ++ reverse values

abbrev pub IsWithin : List Pair → Option ℕ → Type 0
IsWithin pairs None = Unit {0}
IsWithin pairs (Some k) = k < length pairs

abbrev pub AreValues : List Pair → ℕ → Option ℕ → List ℕ → Type 0
AreValues pairs number place values = (follow : Follow) (l r : List Row) (h : ArePairs follow l r pairs) (w : List ℕ) → slice_get h.words number ≡ Some w → IsRestOf h.words place values w

abbrev pub rank : Option ℕ → ℕ
rank None = 0
rank (Some k) = suc k

word_there : (words : List (List ℕ)) (pairs : List Pair) (k : ℕ) → length words ≡ length pairs → k < length pairs → (w : List ℕ) × (slice_get words k ≡ Some w)
word_there words pairs k same l = elim (slice_get_cases words k).1 [
  | inl w ↦ (w.0, w.2)
  | inr past ↦ absurd (omega (arith, past.0))
]

pub first_values : (pairs : List Pair) (number : ℕ) (values : List ℕ) → values ≡ [] → AreValues pairs number (Some number) values
first_values pairs number values none follow l r h w e v f =
    let same : w ≡ v = (let g : Some w ≡ Some v = sym e ∙ f in cc) in
    same ∙ rw none (sym (append-nil v))

module _ (pairs : List Pair) (k : ℕ) (x : Pair) (at : slice_get pairs k ≡ Some x) (within : k < length pairs) where
  origin_of_word : (follow : Follow) (l r : List Row) (h : ArePairs follow l r pairs) → (w : List ℕ) × ((slice_get h.words k ≡ Some w) × IsOneMore h.words k x.from x.value w)
  origin_of_word follow l r h = let w = word_there h.words pairs k h.same_length within in (w.0, (w.1, h.origins k x w.0 at w.1))

  one_back : (words : List (List ℕ)) (v w values values2 : List ℕ) (from : Option ℕ) → IsOneMore words k from x.value v → w ≡ v ++ reverse values → values2 ≡ values ++ x.value ∷ [] → IsRestOf words from values2 w
  one_back words v w values values2 None one e more =
      let turned : reverse values2 ≡ x.value ∷ reverse values = ap reverse more ∙ reverse-append values (x.value ∷ []) in
      e ∙ ap (λ (u : List ℕ). u ++ reverse values) one ∙ sym turned
  one_back words v w values values2 (Some j) one e more = λ u f.
      let turned : reverse values2 ≡ x.value ∷ reverse values = ap reverse more ∙ reverse-append values (x.value ∷ []) in
      e ∙ ap (λ (y : List ℕ). y ++ reverse values) (one.1 u f) ∙ append_assoc u (x.value ∷ []) (reverse values) ∙ sym (ap (λ (y : List ℕ). u ++ y) turned)

  pub values_back : (number : ℕ) (values values2 : List ℕ) → AreValues pairs number (Some k) values → values2 ≡ values ++ x.value ∷ [] → AreValues pairs number x.from values2
  values_back number values values2 before more follow l r h w e =
      let o = origin_of_word follow l r h in
      one_back h.words o.0 w values values2 x.from o.1.1 (before follow l r h w e o.0 o.1.0) more

  lower : (words : List (List ℕ)) (v : List ℕ) (from : Option ℕ) → IsOneMore words k from x.value v → rank from < suc k
  lower words v None one = omega arith
  lower words v (Some j) one = omega (arith, one.0)

  pub rank_falls : (follow : Follow) (l r : List Row) → ArePairs follow l r pairs → rank x.from < suc k
  rank_falls follow l r h = let o = origin_of_word follow l r h in lower h.words o.0 x.from o.1.1

within_by_rank : (pairs : List Pair) (from : Option ℕ) (k : ℕ) → rank from < suc k → k < length pairs → IsWithin pairs from
within_by_rank pairs None k l w = tt
within_by_rank pairs (Some j) k l w = omega arith

pub within_back : (pairs : List Pair) (k : ℕ) (x : Pair) → slice_get pairs k ≡ Some x → k < length pairs → (follow : Follow) (l r : List Row) → ArePairs follow l r pairs → IsWithin pairs x.from
within_back pairs k x at within follow l r h = within_by_rank pairs x.from k (rank_falls pairs k x at within follow l r h) within

pub values_done : (pairs : List Pair) (number : ℕ) (values result : List ℕ) → number < length pairs → AreValues pairs number None values → result ≡ reverse values
    → (follow : Follow) (l r : List Row) (h : ArePairs follow l r pairs) → slice_get h.words number ≡ Some result
values_done pairs number values result within all turned follow l r h =
    let w = word_there h.words pairs number h.same_length within in
    let e : w.0 ≡ result = all follow l r h w.0 w.1 ∙ sym turned in
    w.1 ∙ ap (λ (x : List ℕ). Some x) e
