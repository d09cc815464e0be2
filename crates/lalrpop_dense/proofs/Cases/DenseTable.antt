-- Cases of specs/DenseTable.antt.
use Rattle.std.proofs.Common.{◌≡◌, ◌<◌, List, [], ◌∷◌, ◌++◌, replicate, refl, subst, arith, lit<, lit≤}
use Rattle.std.specs.Prelude.{slice_get, Some, IsSomeAnd}
use Rattle.std.proofs.lemmas.List.Elements.{All-nil, All-cons}
use Rattle.lalrpop_dfa.specs.Dfa.{Row, after}
use Rattle.lalrpop_dfa.specs.declared.Kind.TheVariants.{Accepts, Reject, Neither}
use Rattle.lalrpop_dense.specs.DenseTable.{TableNumbers, block_of_page, character_class, row_after, IsRowLike, AreClasses, IsTableFor}

-- class 0 is 'a' alone; row 0 is dead, row 3 is the start, and row 6 accepts pattern 7, after one `a` or more
small : TableNumbers
small = record {
  blocks = replicate 97 1 ++ 0 ∷ replicate 158 1;
  pages = 0 ∷ 1 ∷ [];
  start = 3;
  width = 2;
  live = 3;
  accept = 6;
  cells = 0 ∷ 0 ∷ 0 ∷ 6 ∷ 0 ∷ 0 ∷ 6 ∷ 0 ∷ 7 ∷ [];
}

class_of_a : character_class small 97 ≡ 0
unfolding small
class_of_a = refl

class_of_b : character_class small 98 ≡ 1
unfolding small
class_of_b = refl

-- page 7812 has the block of page 1
last_page_goes_on : block_of_page small 7812 ≡ 1
unfolding small
last_page_goes_on = refl

class_of_the_last_character : character_class small 1114111 ≡ 1
unfolding small
class_of_the_last_character = refl

two_of_a : row_after small 3 (97 ∷ 97 ∷ []) ≡ 6
unfolding small
two_of_a = refl

b_is_dead : row_after small 3 (97 ∷ 98 ∷ []) ≡ 0
unfolding small
b_is_dead = refl

a_row_accepts : IsRowLike small 6 (Accepts 7)
unfolding small
a_row_accepts = (lit≤ tt, lit≤ tt, refl)

a_row_accepts_no_other : ¬ IsRowLike small 6 (Accepts 8)
unfolding small
a_row_accepts_no_other h = omega (arith, h.2)

start_is_not_dead : ¬ IsRowLike small 3 Reject
unfolding small
start_is_not_dead h = omega (arith, h)

start_is_open : IsRowLike small 3 Neither
unfolding small
start_is_open = (lit≤ tt, lit< tt)

-- the second block must be whole
no_short_block : ¬ AreClasses (record small { blocks = replicate 129 1 })
unfolding small
no_short_block h = omega (arith, h.whole_blocks 1 (lit< tt))

no_class_past_the_width : ¬ AreClasses (record small { width = 1 })
unfolding small
no_class_past_the_width h = omega (arith, h.below 0 (lit< tt))

-- a table whose start accepts nothing is not one for an automaton whose start accepts
no_table_for_another : (d : List Row) (r : Row) → slice_get d 0 ≡ Some r → r.kind ≡ Accepts 7 → ¬ IsTableFor small d
unfolding small
no_table_for_another d r at kind h =
    let there : IsSomeAnd (Some r) (λ x. IsRowLike small 3 x.kind) = subst (λ o. IsSomeAnd o (λ (x : Row). IsRowLike small 3 x.kind)) at (h.alike [] (All-nil (λ n. n < 1114112))) in
    let accepts : IsRowLike small 3 (Accepts 7) = subst (λ k. IsRowLike small 3 k) kind there in
    omega (arith, accepts.1)

-- nor for one in which `a` leads back to the start
no_two_rows_of_one_state : (d : List Row) → after d (97 ∷ []) ≡ after d [] → ¬ IsTableFor small d
unfolding small
no_two_rows_of_one_state d one h =
    omega (arith, h.one_row (97 ∷ []) [] (All-cons (λ c. c < 1114112) 97 [] (lit< tt) (All-nil (λ c. c < 1114112))) (All-nil (λ c. c < 1114112)) one)
