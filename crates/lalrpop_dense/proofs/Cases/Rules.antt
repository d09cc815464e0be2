-- Cases of specs/Rules.antt.
use Rattle.std.proofs.Common.{◌≡◌, ℕ, zero, suc, List, [], ◌∷◌, Some, None, refl, sym, subst, arith}
use Rattle.std.specs.Prelude.{slice_get, slice_index, IsSomeAnd}
use Rattle.lalrpop_hir.specs.Tree.{Tree, empty}
use Rattle.lalrpop_dfa.specs.Dfa.{Row, step, run, IsRightKind, IsReject}
use Rattle.lalrpop_dfa.specs.declared.Kind.TheVariants.{Reject}
use Rattle.lalrpop_hir.specs.Winners.{Matched, IsStrongest}
use Rattle.lalrpop_dense.specs.Rules.{IsBuiltFrom}

no_precedence : (j : ℕ) → slice_index (0 ∷ 0 ∷ []) j ≡ 0
no_precedence zero = refl
no_precedence (suc zero) = refl
no_precedence (suc (suc n)) = refl

first_is_strongest : IsStrongest (empty ∷ empty ∷ []) (0 ∷ 0 ∷ []) [] 0
first_is_strongest = ((empty, (refl, refl)), λ j h. omega (arith, no_precedence j))

second_is_strongest : IsStrongest (empty ∷ empty ∷ []) (0 ∷ 0 ∷ []) [] 1
second_is_strongest = ((empty, (refl, refl)), λ j h. omega (arith, no_precedence j))

-- two trees that tie on a word have no automaton
trees_that_tie_have_no_automaton : (d : List Row) → ¬ IsBuiltFrom (empty ∷ empty ∷ []) (0 ∷ 0 ∷ []) d
trees_that_tie_have_no_automaton d built = built.no_clash [] (1, 0, (omega arith, second_is_strongest, first_is_strongest))

-- an empty list of states is not an automaton: the state after the empty word has a kind
no_states_are_no_automaton : (ts : List Tree) (ps : List ℕ) → ¬ IsBuiltFrom ts ps []
no_states_are_no_automaton ts ps built = built.stands.kinds []

-- ---- no trees: one state, which is never left and rejects

abbrev rejects_all : List Row
rejects_all = record { kind = Reject; tests = []; other = 0; items = [] } ∷ []

never_left : (w : List ℕ) → run rejects_all 0 w ≡ 0
never_left [] = refl
never_left (c ∷ w) = never_left w

nothing_matched : (w : List ℕ) → ¬ Matched [] w
nothing_matched w m = let e : None ≡ Some m.1.0 = m.1.1.0 in absurd (cc)

no_trees_have_one_state : IsBuiltFrom [] [] rejects_all
no_trees_have_one_state = record {
  no_clash = λ w m. nothing_matched w (m.0, m.2.1.0);
  stands = record {
    kinds = λ w. subst (λ p. IsSomeAnd (slice_get rejects_all p) (λ r. IsRightKind [] [] w r.kind)) (sym (never_left w)) (nothing_matched w);
    stays = λ p c h. stays p c h;
  };
}
  where
    stays : (p c : ℕ) → IsReject rejects_all p → IsReject rejects_all (step rejects_all p c)
    stays zero c h = refl
    stays (suc p) c h = absurd h
