-- The first pair of states with a property is met by the least word with the property that it stands for.
use Rattle.std.proofs.Common.{◌≡◌, ◌≢◌, ℕ, ◌+◌, ◌<◌, ◌≤◌, ◌⊎◌, inl, inr, List, [], length, slice_get, Some, refl, sym, ap, ◌∙◌, subst, arith}
use Rattle.std.specs.Prelude.{◌↔◌}
use Rattle.std.proofs.lemmas.Bool.{cases_lt, cases_order}
use Rattle.std.proofs.lemmas.Option.{slice_get_within, slice_get_cases}
use Rattle.lalrpop_hir.specs.Word.{Shortlex}
use Rattle.lalrpop_hir.proofs.Words.{Shortlex-transitive}
use Rattle.lalrpop_dfa.specs.Dfa.{Row, after}
use Rattle.lalrpop_dfa.specs.Witness.{IsLeast}
use Rattle.lalrpop_verdicts.specs.Answers.{IsTextWord}
use Rattle.lalrpop_verdicts.specs.Internal.Pairs.{LeadTo, ArePairs, NoneBefore}
use Rattle.lalrpop_verdicts.specs.declared.pairs.Pair.{Pair}
use Rattle.lalrpop_verdicts.specs.declared.pairs.Follow.TheVariants.{All}

-- an element stands at each place within a list
pub at_place : {A : Type 0} (xs : List A) (k : ℕ) → k < length xs → (x : A) × (slice_get xs k ≡ Some x)
at_place xs k l = elim (slice_get_cases xs k).1 [ inl h ↦ (h.0, h.2) | inr h ↦ absurd (omega (arith, h.0)) ]

module _ (l r : List Row) (pairs : List Pair) (h : ArePairs All l r pairs) (P : List ℕ → Type 0) (Q : Pair → Type 0)
    (text : (w : List ℕ) → P w → IsTextWord w × (w ≢ []))
    (same : (x : Pair) (w : List ℕ) → LeadTo All l r x.left x.right w → P w ↔ Q x) where
  -- the word leads to the pair
  abbrev Leads : Pair → List ℕ → Type 0
  Leads x w = LeadTo All l r x.left x.right w

  -- each word with the property leads to a pair with it
  pair_of : (w : List ℕ) → P w → (k : ℕ) × (x : Pair) × ((slice_get pairs k ≡ Some x) × Leads x w × Q x)
  pair_of w p =
      let given = text w p in
      let follow : LeadTo All l r (after l w) (after r w) w = record { text = given.0; some = given.1; followed = λ u v e ne dead. dead; left = refl; right = refl } in
      let (k, x, found) = h.all (after l w) (after r w) w follow in
      let lead : Leads x w = record { text = given.0; some = given.1; followed = follow.followed; left = sym found.1; right = sym found.2 } in
      (k, x, (found.0, lead, (same x w lead).0 p))

  -- if no pair has it, no word has it
  pub no_word : NoneBefore Q pairs (length pairs) → (w : List ℕ) → ¬ P w
  no_word none w p = (let (k, x, found) = pair_of w p in none k x (slice_get_within pairs k x found.0) found.0 found.2)

  -- no word that leads to a later pair, or the same one, is less than the word at the place n
  not_less : (n : ℕ) (w u : List ℕ) → slice_get h.words n ≡ Some w → (k : ℕ) (x : Pair) (v : List ℕ)
      → n ≤ k → slice_get pairs k ≡ Some x → slice_get h.words k ≡ Some v → Leads x u → ¬ Shortlex u w
  not_less n w u word k x v far at at_word lead less = (h.each k x v at at_word).least u (by_order (cases_order n k)) lead
    where
      by_order : (n ≡ k) ⊎ ((n < k) ⊎ (k < n)) → Shortlex u v
      by_order (inl same) = let e : w ≡ v = cc in subst (Shortlex u) e less
      by_order (inr (inl before)) = Shortlex-transitive u w v less (h.ordered n k w v before word at_word)
      by_order (inr (inr behind)) = absurd (omega arith)

  -- the word of the first pair with it is the least word with it
  pub least_word : (n : ℕ) (x : Pair) (w : List ℕ) → slice_get pairs n ≡ Some x → slice_get h.words n ≡ Some w → Q x → NoneBefore Q pairs n → IsLeast P w
  least_word n x w at word q none_before = record { holds = (same x w (h.each n x w at word).holds).1 q; least = least }
    where
      least : (u : List ℕ) → Shortlex u w → ¬ P u
      least u less p =
          let (k, y, found) = pair_of u p in
          let (v, at_word) = at_place h.words k (let t = slice_get_within pairs k y found.0 in omega (arith, h.same_length)) in
          elim (cases_lt k n) [
            | inl before ↦ none_before k y before found.0 found.2
            | inr from ↦ not_less n w u word k y v from found.0 at_word found.1 less
          ]

module _ (Q : Pair → Type 0) where
  -- one more pair without the property
  pub none_more : (pairs : List Pair) (n : ℕ) (x : Pair) → NoneBefore Q pairs n → slice_get pairs n ≡ Some x → ¬ Q x → NoneBefore Q pairs (n + 1)
  none_more pairs n x none_before at not_here k y less at_k q = by_order (cases_lt k n)
    where
      by_order : (k < n) ⊎ (n ≤ k) → ⊥
      by_order (inl before) = none_before k y before at_k q
      by_order (inr from) =
          let here : k ≡ n = omega arith in
          let e : Some y ≡ Some x = sym at_k ∙ ap (slice_get pairs) here ∙ at in
          let same : y ≡ x = cc in
          not_here (subst Q same q)

  -- none at all, where the walk came to the end
  pub none_to_end : (pairs seen : List Pair) (n : ℕ) → NoneBefore Q seen n → length seen ≤ n → seen ≡ pairs → NoneBefore Q pairs (length pairs)
  none_to_end pairs seen n none_before end same =
      subst (λ (ps : List Pair). NoneBefore Q ps (length ps)) same (λ k x less at. none_before k x (omega (arith, less, end)) at)
