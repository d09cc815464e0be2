-- Cases of specs/ClashList.antt.
use Rattle.std.proofs.Common.{◌≡◌, ℕ, inl, inr, List, [], ◌∷◌, refl, sym, arith}
use Rattle.lalrpop_hir.proofs.Words.{Shortlex-irreflexive}
use Rattle.std.proofs.lemmas.Option.{slice_get_within}
use Rattle.lalrpop_hir.proofs.Contained.{contains_none, contains_only}
use Rattle.lalrpop_hir.specs.Clashes.{Entry, AreTied, IsFirstTie, StandsBefore, AreClashes}
use Rattle.lalrpop_hir.proofs.Cases.Winners.{a, b}
use Rattle.lalrpop_hir.proofs.Cases.Clash.{who_matches_a, equal_literals_clash, different_literals_have_no_clash}

-- `a` twice, with equal precedences: they tie only on their word
abbrev pair : Entry
pair = record { match0 = 1; match1 = 0; word = 97 ∷ [] }

abbrev turned : Entry
turned = record { match0 = 0; match1 = 1; word = 97 ∷ [] }

only_tie : (w : List ℕ) (i j : ℕ) → AreTied (a ∷ a ∷ []) (0 ∷ 0 ∷ []) w i j → (i ≡ 1) × (j ≡ 0)
only_tie w i j t = (let low = (who_matches_a w i t.1.0).1 in (omega (arith, t.0), omega (arith, t.0)))

pub equal_literals_tie_first : IsFirstTie (a ∷ a ∷ []) (0 ∷ 0 ∷ []) pair
equal_literals_tie_first = record {
  word = equal_literals_clash.word;
  tie = (equal_literals_clash.less, equal_literals_clash.greatest, equal_literals_clash.second);
  least = λ v s t. equal_literals_clash.least v s (1, 0, t);
}

no_tie_of_the_pair_turned : ¬ IsFirstTie (a ∷ a ∷ []) (0 ∷ 0 ∷ []) turned
no_tie_of_the_pair_turned h = omega (arith, h.tie.0)

pub equal_literals_have_one_clash : AreClashes (a ∷ a ∷ []) (0 ∷ 0 ∷ []) (pair ∷ [])
equal_literals_have_one_clash = record {
  each = λ c h. rw (← contains_only pair c h) equal_literals_tie_first;
  all = λ w i j t. (let e = only_tie w i j t in (pair, ((0, omega arith, refl), sym e.0, sym e.1)));
  in_order = λ p q c d l x y. absurd (omega (arith, slice_get_within (pair ∷ []) q d y));
}

-- it is not left out, and is in the list once
equal_literals_have_some_clash : ¬ AreClashes (a ∷ a ∷ []) (0 ∷ 0 ∷ []) []
equal_literals_have_some_clash h = let f = h.all (97 ∷ []) 1 0 equal_literals_tie_first.tie in contains_none f.0 f.1.0

never_before_itself : ¬ StandsBefore pair pair
never_before_itself (inl h) = Shortlex-irreflexive (97 ∷ []) h
never_before_itself (inr (e, inl l)) = omega arith
never_before_itself (inr (e, inr (f, l))) = omega arith

no_clash_stands_twice : ¬ AreClashes (a ∷ a ∷ []) (0 ∷ 0 ∷ []) (pair ∷ pair ∷ [])
no_clash_stands_twice h = never_before_itself (h.in_order 0 1 pair pair (omega arith) refl refl)

-- `a` and `b` have no clash
different_literals_have_none : AreClashes (a ∷ b ∷ []) (0 ∷ 0 ∷ []) []
different_literals_have_none = record {
  each = λ c h. absurd (contains_none c h);
  all = λ w i j t. absurd (different_literals_have_no_clash w (i, j, t));
  in_order = λ p q c d l x y. absurd (omega (arith, slice_get_within [] q d y));
}
