-- The states of the automaton of the classes are numbered in the order of a breadth first walk.
use Rattle.std.proofs.Common.{◌≡◌, ℕ, suc, ◌<◌, ◌≤◌, inl, inr, ⊎_elim, List, [], ◌∷◌, ◌++◌, length, refl, sym, ap, ◌∙◌, subst, arith}
use Rattle.std.specs.Prelude.{slice_get, slice_index, Some, None}
use Rattle.std.proofs.lemmas.Bool.{cases_lt}
use Rattle.std.proofs.lemmas.Option.{slice_get_within}
use Rattle.lalrpop_hir.proofs.Pushed.{pushed_cases}
use Rattle.lalrpop_hir.specs.Range.{Range}
use Rattle.lalrpop_dfa.specs.Dfa.{Row}
use Rattle.lalrpop_verdicts.specs.Smallest.{AreInOrder, AreNext, edges_of}
use Rattle.lalrpop_verdicts.specs.Internal.ClassRows.{AreMetInTurn, AreRowsInOrder, targets_of}
use Rattle.lalrpop_verdicts.proofs.PushedNumbers.{pushed_length, pushed_new, pushed_old}

-- ---- one state's number
pub known_in_turn : (states : List ℕ) (n : ℕ) → n < length states → AreMetInTurn states (n ∷ []) states
known_in_turn states n l = inl (l, refl)

pub next_in_turn : (states : List ℕ) (p n : ℕ) → n ≡ length states → AreMetInTurn states (n ∷ []) (states ++ p ∷ [])
next_in_turn states p n e = inr (e, omega (arith, pushed_length states p))

-- ---- the numbers of a row's edges, one after another
next_then : (qs rs : List ℕ) (n k m : ℕ) → AreNext n qs k → AreNext k rs m → AreNext n (qs ++ rs) m
next_then [] rs n k m e h = subst (λ x. AreNext x rs m) (sym e) h
next_then (q ∷ qs) rs n k m (inl g) h = inl (g.0, next_then qs rs n k m g.1 h)
next_then (q ∷ qs) rs n k m (inr g) h = inr (g.0, next_then qs rs (suc n) k m g.1 h)

targets_push : (ts : List (Range × ℕ)) (t : Range × ℕ) → targets_of (ts ++ t ∷ []) ≡ targets_of ts ++ t.1 ∷ []
targets_push [] t = refl
targets_push (u ∷ ts) t = ap (λ (qs : List ℕ). u.1 ∷ qs) (targets_push ts t)

edges_are : (ts : List (Range × ℕ)) (other : ℕ) → edges_of ts other ≡ targets_of ts ++ other ∷ []
edges_are [] other = refl
edges_are (t ∷ ts) other = ap (λ (qs : List ℕ). t.1 ∷ qs) (edges_are ts other)

-- one test more
pub test_in_turn : (old now new : List ℕ) (ts : List (Range × ℕ)) (t : Range × ℕ) → AreMetInTurn old (targets_of ts) now → AreMetInTurn now (t.1 ∷ []) new → AreMetInTurn old (targets_of (ts ++ t ∷ [])) new
test_in_turn old now new ts t g h = subst (λ (qs : List ℕ). AreMetInTurn old qs new) (sym (targets_push ts t)) (next_then (targets_of ts) (t.1 ∷ []) (length old) (length now) (length new) g h)

-- after the tests the other edge
pub edges_in_turn : (old now new : List ℕ) (ts : List (Range × ℕ)) (other : ℕ) → AreMetInTurn old (targets_of ts) now → AreMetInTurn now (other ∷ []) new → AreMetInTurn old (edges_of ts other) new
edges_in_turn old now new ts other g h = subst (λ (qs : List ℕ). AreMetInTurn old qs new) (sym (edges_are ts other)) (next_then (targets_of ts) (other ∷ []) (length old) (length now) (length new) g h)

-- ---- the rows
-- no row yet: the first state alone is met
pub order_start : (n : ℕ) (states : List ℕ) → AreMetInTurn [] (n ∷ []) states → AreRowsInOrder [] (length states)
order_start n states (inl g) = absurd (omega (arith, g.0))
order_start n states (inr g) = record {
  met = 1 ∷ [];
  same_length = refl;
  first = refl;
  last = g.1;
  before = λ p l. absurd (omega (arith, l));
  each = λ p s e. absurd (let none : None ≡ Some s = e in cc);
}

-- one row more, of a state that was met
pub order_more : (rows : List Row) (s : Row) (old new : List ℕ) → AreRowsInOrder rows (length old) → length rows < length old → AreMetInTurn old (edges_of s.tests s.other) new → AreRowsInOrder (rows ++ s ∷ []) (length new)
order_more rows s old new order next turn = record {
  met = order.met ++ length new ∷ [];
  same_length = omega (arith, pushed_length order.met (length new), pushed_length rows s, order.same_length);
  first = kept 0 (omega arith) ∙ order.first;
  last = pushed_new order.met (length new) (length (rows ++ s ∷ [])) (omega (arith, pushed_length rows s, order.same_length));
  before = λ p l.
      ⊎_elim (λ (m : p < length rows). omega (arith, order.before p m, kept p (omega (arith, m))))
      (λ (m : length rows ≤ p). let e : p ≡ length rows = omega (arith, m, l, pushed_length rows s) in omega (arith, last_kept p e, e, next))
      (cases_lt p (length rows));
  each = each;
}
  where
    kept : (p : ℕ) → p ≤ length rows → slice_index (order.met ++ length new ∷ []) p ≡ slice_index order.met p
    kept p l = pushed_old order.met (length new) p (omega (arith, l, order.same_length))

    last_kept : (p : ℕ) → p ≡ length rows → slice_index (order.met ++ length new ∷ []) p ≡ length old
    last_kept p e = kept p (omega (arith, e)) ∙ ap (slice_index order.met) e ∙ order.last

    each : (p : ℕ) (t : Row) → slice_get (rows ++ s ∷ []) p ≡ Some t → AreNext (slice_index (order.met ++ length new ∷ []) p) (edges_of t.tests t.other) (slice_index (order.met ++ length new ∷ []) (suc p))
    each p t e = elim (pushed_cases rows s p t e) [
      | inl before ↦ (let l : p < length rows = slice_get_within rows p t before in
          rw (kept p (omega (arith, l)), kept (suc p) (omega (arith, l))) (order.each p t before))
      | inr (last, same) ↦ (let place : suc p ≡ length order.met = omega (arith, last, order.same_length) in
          rw (last_kept p last, pushed_new order.met (length new) (suc p) place, same) turn)
    ]

pub rows_in_order : (rows : List Row) (count : ℕ) → AreRowsInOrder rows count → AreInOrder rows
rows_in_order rows count order = record {
  met = slice_index order.met;
  first = order.first;
  before = λ p r e. order.before p (slice_get_within rows p r e);
  each = order.each;
}
