-- The first number with a property, once all numbers are expanded.
use Rattle.std.proofs.Common.{◌≡◌, ℕ, ◌<◌, ◌≤◌, ⊎_elim, List, length, sym, subst, arith, true}
use Rattle.std.proofs.lemmas.Bool.{cases_lt}
use Rattle.lalrpop_hir.specs.Word.{Shortlex}
use Rattle.lalrpop_build.specs.Internal.BreadthFirst.{ShortlexAtMost, Automaton, after, DeadStays, nth, IsBreadthFirst, word}
use Rattle.lalrpop_hir.proofs.Words.{Shortlex-irreflexive, Shortlex-transitive}
use Rattle.lalrpop_build.proofs.WordOrder.{at_most_less}
use Rattle.lalrpop_build.proofs.BreadthFirst.{words_ascend, word_reaches, settled_all}

-- Q is a property that dead sets lack
module _ {S : Type 0} (m : Automaton S) (stays : DeadStays m) (sets : List S) (origins : List (ℕ × ℕ)) (h : IsBreadthFirst m sets origins (length sets) 0)
    (Q : S → Type 0) (alive : (s : S) → m.dead s ≡ true → Q s → ⊥) where
  -- a word whose set has the property leads to a number with the property, whose own word is at most it
  pub number_of : (w : List ℕ) → Q (after m m.start w) → (k : ℕ) × ((k < length sets) × Q (nth m sets k) × ShortlexAtMost (word origins k) w)
  number_of w there =
      ⊎_elim
      (λ (dead : m.dead (after m m.start w) ≡ true). absurd (alive (after m m.start w) dead there))
      (λ (found : (i : ℕ) × (i < length sets) × (nth m sets i ≡ after m m.start w) × ShortlexAtMost (word origins i) w).
      (found.0, (found.1, subst Q (sym found.2) there, found.3)))
      (settled_all m stays sets origins h w)

  -- the word of a number with the property has it
  pub own_word : (k : ℕ) → k < length sets → Q (nth m sets k) → Q (after m m.start (word origins k))
  own_word k l here = subst Q (sym (word_reaches m sets origins (length sets) 0 h k l)) here

  -- no word less than that of the first number with the property has it
  pub first_least : (k : ℕ) → k < length sets → ((i : ℕ) → i < k → Q (nth m sets i) → ⊥) → (v : List ℕ) → Shortlex v (word origins k) → Q (after m m.start v) → ⊥
  first_least k l none v less there =
      let (i, (il, here, most)) = number_of v there in
      let low : Shortlex (word origins i) (word origins k) = at_most_less (word origins i) v (word origins k) most less in
      ⊎_elim
      (λ (a : i < k). none i a here)
      (λ (a : k ≤ i).
      ⊎_elim
      (λ (b : k < i). Shortlex-irreflexive (word origins i) (Shortlex-transitive (word origins i) (word origins k) (word origins i) low (words_ascend m sets origins (length sets) 0 h k i b il)))
      (λ (b : i ≤ k). let e : i ≡ k = omega arith in Shortlex-irreflexive (word origins k) (subst (λ (j : ℕ). Shortlex (word origins j) (word origins k)) e low))
      (cases_lt k i))
      (cases_lt i k)
