-- No less is cut anew than has to be.
use Rattle.std.proofs.Common.{◌≡◌, ℕ, ◌+◌, ◌-◌, ◌<◌, ◌≤◌, List, ◌++◌, length, take, drop, arith, sym, ap, subst, ◌∙◌}
use Rattle.std.specs.Prelude.{slice_get, Some}
use Rattle.std.proofs.lemmas.List.{take_at, drop_at, take-append-le}
use Rattle.bajofeki_rules.specs.Stack.{Stack, start}
use Rattle.lalrpop_rules.specs.Modes.{ModeRules}
use Rattle.bajofeki.specs.Internal.Kept.{AreWithin, reach_of}
use Rattle.bajofeki.specs.declared.kept.Kept.{Kept}
use Rattle.bajofeki.specs.declared.change.Change.{Change}
use Rattle.bajofeki.specs.declared.meet.Edit.{Edit}
use Rattle.bajofeki.specs.Internal.Blocks.{sizes, after_pieces}
use Rattle.bajofeki.specs.Internal.Meeting.{AreMetAfter}
use Rattle.bajofeki.specs.Internal.Least.{AreMetAt, IsLeastChange}
use Rattle.bajofeki.proofs.BlockLaws.{sizes_join, after_join, split_run}

-- the pieces that stay in front, those that were cut, and the rest
module _ (r : ModeRules) (e : Edit) (ks ls cs rest : List Kept) (c d at : ℕ) (s : Stack) (is : ls ≡ take c ks ++ (cs ++ rest)) (count : length (take c ks) ≡ c)
    (at_is : at ≡ sizes (take c ks)) (stack_is : s ≡ after_pieces r (take c ks) start)
    (met : (i j : ℕ) → c ≤ i → i ≤ d → j ≤ length cs → AreMetAfter r e ks at s cs i j → (i ≡ d) × (j ≡ length cs)) where
  runs : (j : ℕ) → j ≤ length cs → take (c + j) ls ≡ take c ks ++ take j cs
  runs j le =
      split_run c j ls
      ∙ ap (λ (front : List Kept). front ++ take j (drop c ls)) (ap (take c) is ∙ take_at (take c ks) (cs ++ rest) c count)
      ∙ ap (λ (behind : List Kept). take c ks ++ take j behind) (ap (drop c) is ∙ drop_at (take c ks) (cs ++ rest) c count)
      ∙ ap (λ (run : List Kept). take c ks ++ run) (take-append-le j cs rest le)

  none : (i j : ℕ) → c ≤ i → i ≤ d → c ≤ j → j ≤ c + length cs → AreMetAt r e ks ls i j → (i ≡ d) × (j ≡ c + length cs)
  none i j from to from2 to2 at_both =
      let n : ℕ = j - c in
      let few : n ≤ length cs = omega (arith, to2) in
      let run : take j ls ≡ take c ks ++ take n cs = (let j_is : j ≡ c + n = omega (arith, from2) in ap (λ (m : ℕ). take m ls) j_is) ∙ runs n few in
      let ends = met i n from to few (record {
        behind = at_both.behind;
        same = at_both.same ∙ ap sizes run ∙ sizes_join (take c ks) (take n cs) ∙ ap (λ (a : ℕ). a + sizes (take n cs)) (sym at_is);
        stack =
            at_both.stack ∙ ap (λ (ps : List Kept). after_pieces r ps start) run ∙ after_join r (take c ks) (take n cs) start
            ∙ ap (after_pieces r (take n cs)) (sym stack_is);
      }) in
      (ends.0, omega (arith, ends.1, from2))

  pub least : AreWithin e.from 0 (take c ks) → c ≤ d → (change : Change) → change.first ≡ c → change.removed ≡ d - c → change.inserted ≡ length cs
      → ((k : Kept) → slice_get ks c ≡ Some k → e.from < change.start + reach_of k) → IsLeastChange r e ks ls change
  least within order change first removed inserted next = record {
    within = subst (λ (n : ℕ). AreWithin e.from 0 (take n ks)) (sym first) within;
    first = λ k got. next k (ap (slice_get ks) (sym first) ∙ got);
    none = λ i j from to from2 to2 at_both.
        let ends =
        none i j (omega (arith, from, first)) (omega (arith, to, first, removed, order)) (omega (arith, from2, first)) (omega (arith, to2, first, inserted)) at_both in
        (omega (arith, ends.0, first, removed, order), omega (arith, ends.1, first, inserted));
  }
