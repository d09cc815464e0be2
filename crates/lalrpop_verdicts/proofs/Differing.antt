-- The least word that tells two automata apart leads to the first pair of states that is apart.
use Rattle.std.proofs.Common.{◌≡◌, ◌≢◌, ℕ, List, length, Option, Some, None, Bool, true, false, not, eqb, slice_get, refl, sym, ap, ◌∙◌, subst, arith}
use Rattle.std.proofs.lemmas.Bool.{eqb-true, eq-eqb, both_ways, not-true, not-false}
use Rattle.std.specs.Prelude.{◌↔◌}
use Rattle.std.specs.Option.{option_eq}
use Rattle.std.proofs.lemmas.Option.{slice_get_within}
use Rattle.lalrpop_dfa.specs.Dfa.{Row, StoredState, AreStored, after}
use Rattle.lalrpop_dfa.specs.declared.Kind.{Kind}
use Rattle.lalrpop_dfa.specs.Witness.{IsLeast}
use Rattle.lalrpop_verdicts.specs.Answers.{accepted_by, accepted_at, answer}
use Rattle.lalrpop_verdicts.specs.Differences.{label_of, TellsApart}
use Rattle.lalrpop_verdicts.specs.Internal.Pairs.{LeadTo, ArePairs, NoneBefore}
use Rattle.lalrpop_verdicts.specs.Internal.Apart.{AreApart}
use Rattle.lalrpop_verdicts.specs.declared.pairs.Pair.{Pair}
use Rattle.lalrpop_verdicts.specs.declared.pairs.Follow.{Follow}
use Rattle.lalrpop_verdicts.specs.declared.pairs.Follow.TheVariants.{All}
use Rattle.lalrpop_verdicts.proofs.FirstPair.{at_place, no_word, least_word}

-- what a state after a word accepts is the answer to the word
pub accepted_after : (d : List Row) (p : ℕ) (w : List ℕ) → after d w ≡ p → accepted_at (slice_get d p) ≡ answer d w
accepted_after d p w e = ap (λ q. accepted_at (slice_get d q)) (sym e)

-- what a stored state of this kind accepts
pub accepted_stored : (d : List Row) (states : List StoredState) (p : ℕ) (s : StoredState) (k : Kind) → AreStored d states
    → slice_get states p ≡ Some s → k ≡ s.kind → accepted_by k ≡ accepted_at (slice_get d p)
accepted_stored d states p s k stored at is =
    let (r, row) = at_place d p (let l = slice_get_within states p s at in omega (arith, stored.same_length)) in
    ap accepted_by (is ∙ (stored.each p r s row at).kind) ∙ ap accepted_at (sym row)

module _ (l : List Row) (ls : List ℕ) (r : List Row) (rs : List ℕ) (pairs : List Pair) (h : ArePairs All l r pairs) where
  -- a word tells apart just if it leads to a pair that is apart
  apart_word : (p : Pair) (w : List ℕ) → LeadTo All l r p.left p.right w → TellsApart l ls r rs w ↔ AreApart l ls r rs p
  apart_word p w lead =
      let by_left = accepted_after l p.left w lead.left in
      let by_right = accepted_after r p.right w lead.right in (
        λ tells e. tells.2 (ap (label_of ls) (sym by_left) ∙ e ∙ ap (label_of rs) by_right),
        λ apart. (lead.text, lead.some, λ e. apart (ap (label_of ls) by_left ∙ e ∙ ap (label_of rs) (sym by_right))),
      )

  -- if no pair is apart, no word tells apart
  pub none_apart : NoneBefore (AreApart l ls r rs) pairs (length pairs) → (w : List ℕ) → ¬ TellsApart l ls r rs w
  none_apart = no_word l r pairs h (TellsApart l ls r rs) (AreApart l ls r rs) (λ w tells. (tells.0, tells.1)) apart_word

  -- the first pair that is apart has the least word that tells apart
  pub least_apart : (n : ℕ) (p : Pair) (w : List ℕ) → slice_get pairs n ≡ Some p → slice_get h.words n ≡ Some w → AreApart l ls r rs p → NoneBefore (AreApart l ls r rs) pairs n
      → IsLeast (TellsApart l ls r rs) w
  least_apart = least_word l r pairs h (TellsApart l ls r rs) (AreApart l ls r rs) (λ w tells. (tells.0, tells.1)) apart_word

  -- the states of a pair accept the answers to its word
  pub answers_of : (n : ℕ) (p : Pair) (w : List ℕ) → slice_get pairs n ≡ Some p → slice_get h.words n ≡ Some w
      → (accepted_at (slice_get l p.left) ≡ answer l w) × (accepted_at (slice_get r p.right) ≡ answer r w)
  answers_of n p w at word =
      let lead = (h.each n p w at word).holds in (accepted_after l p.left w lead.left, accepted_after r p.right w lead.right)

-- ---- what the walk over the pairs knows

-- two labels that a test tells apart differ, and two that it doesn't are equal
equal_labels : (a b : Option ℕ) → option_eq eqb a b ≡ true → a ≡ b
equal_labels None None e = refl
equal_labels None (Some y) e = cc
equal_labels (Some x) None e = cc
equal_labels (Some x) (Some y) e = ap (λ (z : ℕ). Some z) (eqb-true x y e)

label_equals_itself : (a : Option ℕ) → option_eq eqb a a ≡ true
label_equals_itself None = refl
label_equals_itself (Some x) = eq-eqb x x refl

pub labels_differ : (a b : Option ℕ) (t : Bool) → t ≡ not (option_eq eqb a b) → t ≡ true → a ≢ b
labels_differ a b t test is same =
    both_ways (option_eq eqb a b) (not-true (option_eq eqb a b) (sym test ∙ is))
    (subst (λ (z : Option ℕ). option_eq eqb a z ≡ true) same (label_equals_itself a))

pub labels_agree : (a b : Option ℕ) (t : Bool) → t ≡ not (option_eq eqb a b) → t ≡ false → a ≡ b
labels_agree a b t test is = equal_labels a b (not-false (option_eq eqb a b) (sym test ∙ is))

-- the pair is apart just if the labels are that were computed for it
pub apart_by_labels : (l : List Row) (ls : List ℕ) (r : List Row) (rs : List ℕ) (p : Pair) (a b : Option ℕ)
    → a ≡ label_of ls (accepted_at (slice_get l p.left)) → b ≡ label_of rs (accepted_at (slice_get r p.right)) → a ≢ b → AreApart l ls r rs p
apart_by_labels l ls r rs p a b by_left by_right differ = λ e. differ (by_left ∙ e ∙ sym by_right)

pub alike_by_labels : (l : List Row) (ls : List ℕ) (r : List Row) (rs : List ℕ) (p : Pair) (a b : Option ℕ)
    → a ≡ label_of ls (accepted_at (slice_get l p.left)) → b ≡ label_of rs (accepted_at (slice_get r p.right)) → a ≡ b → ¬ AreApart l ls r rs p
alike_by_labels l ls r rs p a b by_left by_right same = λ apart. apart (sym by_left ∙ same ∙ by_right)

-- the word has the place n among the words, whichever pairs these are
abbrev pub HasPlace : List Pair → ℕ → List ℕ → Type 0
HasPlace pairs n w = (follow : Follow) (l r : List Row) → (h : ArePairs follow l r pairs) → slice_get h.words n ≡ Some w
