-- Cases of specs/Counts.antt.
use Rattle.std.proofs.Common.{◌≡◌, ℕ, zero, suc, ◌≤◌, [], ◌∷◌, length, Some, refl, subst, arith}
use Rattle.lalrpop_hir.specs.Tree.{empty, literal}
use Rattle.lalrpop_dfa.specs.Dfa.{Row}
use Rattle.lalrpop_dfa.specs.Counts.{state_bound, HaveAtMost}
use Rattle.lalrpop_dfa.proofs.Cases.Dfa.{automaton_of_a}

-- no trees: one state, which holds nothing
no_tree : state_bound [] ≡ 1
no_tree = refl

-- the empty tree: any set of the three states that each tree's automaton has
empty_tree : state_bound (empty ∷ []) ≡ 8
empty_tree = refl

-- `a` and the empty tree
two_trees : state_bound (literal (97 ∷ []) ∷ empty ∷ []) ≡ 128
two_trees = refl

of_row : (x r : Row) (n : ℕ) → length x.tests ≤ n → Some x ≡ Some r → length r.tests ≤ n
of_row x r n l e = let same : x ≡ r = cc in subst (λ (y : Row). length y.tests ≤ n) same l

-- START of the automaton of `a` has one test edge, and its other states have none
one_edge : HaveAtMost automaton_of_a 1
one_edge zero r e = of_row _ r 1 (omega arith) e
one_edge (suc zero) r e = of_row _ r 1 (omega arith) e
one_edge (suc (suc zero)) r e = of_row _ r 1 (omega arith) e
one_edge (suc (suc (suc p))) r e = cc

not_without_edges : ¬ HaveAtMost automaton_of_a 0
not_without_edges h = omega (arith, h 0 _ refl)
