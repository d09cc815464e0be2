-- Which tokens run on into which, as a table.
use Rattle.std.proofs.Common.{◌≡◌, ℕ, ◌+◌, ◌<◌, ◌≤◌, ◌↔◌, inl, inr, Bool, true, false, not, List, [], ◌∷◌, ◌++◌, length, map, get_or, refl, sym, ap, subst, ◌∙◌, arith}
use Rattle.std.specs.Prelude.{Some, IsTrue, slice_get}
use Rattle.std.proofs.lemmas.List.{length_push}
use Rattle.std.specs.Option.{option_map}
use Rattle.std.proofs.lemmas.Option.{slice_get_within, slice_get-map, slice_get_read}
use Rattle.lalrpop_hir.specs.Language.{Words}
use Rattle.lalrpop_hir.specs.Tree.{Tree}
use Rattle.lalrpop_hir.specs.Winners.{Matched}
use Rattle.lalrpop_hir.proofs.Pushed.{pushed_cases}
use Rattle.lalrpop_dfa.specs.Dfa.{Row}
use Rattle.lalrpop_dfa.specs.Follow.{RunsOn}
use Rattle.lalrpop_dfa.specs.Lookahead.{Accepted, AcceptedAs}
use Rattle.lalrpop_dfa.proofs.Recognized.{recognized_by, recognized_words}
use Rattle.lalrpop_dense.specs.Neighbours.{WordsOf, CanFollow}
use Rattle.lalrpop_dense.specs.Rules.{Rules, IsBuiltFrom}
use Rattle.lalrpop_lexer.specs.Internal.RunningOn.{AreRunningOn, IsTableUpTo}
use Rattle.lalrpop_dense.proofs.Decided.{matches_inside}

-- in greater sets of words it is still so
runs_on_more : (L M N P Q R : Words) → ((w : List ℕ) → L w → P w) → ((w : List ℕ) → M w → Q w) → ((w : List ℕ) → N w → R w) → RunsOn L M N → RunsOn P Q R
runs_on_more L M N P Q R l m n h = record {
  first = h.first;
  value = h.value;
  rest = h.rest;
  later = h.later;
  some = h.some;
  is_first = m h.first h.is_first;
  begins_second = n (h.value ∷ h.rest) h.begins_second;
  goes_on = l (h.first ++ (h.value ∷ h.later)) h.goes_on;
}

-- the words of an automaton run on as those of its trees
module _ (d : List Row) (ts : List Tree) (ps : List ℕ) (built : IsBuiltFrom ts ps d) where
  runs_on_in_trees : (i j : ℕ) → RunsOn (Accepted d) (AcceptedAs d i) (AcceptedAs d j) ↔ RunsOn (Matched ts) (WordsOf ts ps i) (WordsOf ts ps j)
  runs_on_in_trees i j = (
    runs_on_more (Accepted d) (AcceptedAs d i) (AcceptedAs d j) (Matched ts) (WordsOf ts ps i) (WordsOf ts ps j)
        (λ w. (recognized_words d ts ps built.stands w).0) (λ w. (recognized_by d ts ps built.stands i w).0) (λ w. (recognized_by d ts ps built.stands j w).0),
    runs_on_more (Matched ts) (WordsOf ts ps i) (WordsOf ts ps j) (Accepted d) (AcceptedAs d i) (AcceptedAs d j)
        (λ w. (recognized_words d ts ps built.stands w).1) (λ w. (recognized_by d ts ps built.stands i w).1) (λ w. (recognized_by d ts ps built.stands j w).1),
  )

-- so marks that speak of the automaton speak of the trees
pub marks_of_trees : (d : List Row) (rules : Rules) (n j : ℕ) (marks : List Bool) → IsBuiltFrom rules.trees rules.precedences d → n ≡ length rules.trees → length marks ≡ n
    → ((i : ℕ) → i < n → (slice_get marks i ≡ Some true) ↔ RunsOn (Accepted d) (AcceptedAs d i) (AcceptedAs d j)) → AreRunningOn rules j marks
marks_of_trees d rules n j marks built count size each = record {
  same_length = size ∙ count;
  each = λ i l.
      let told = each i (omega arith) in
      let same = runs_on_in_trees d rules.trees rules.precedences built i j in
      (λ e. same.0 (told.0 e), λ h. told.1 (same.1 h));
}

-- ---- the table

pub one_list_more : (rules : Rules) (n : ℕ) (lists : List (List Bool)) (marks : List Bool) → IsTableUpTo rules n lists → AreRunningOn rules n marks
    → IsTableUpTo rules (n + 1) (lists ++ marks ∷ [])
one_list_more rules n lists marks table are = record {
  same_length = omega (arith, length_push lists marks, table.same_length);
  each = λ j more e. elim (pushed_cases lists marks j more e) [
    | inl before ↦ table.each j more before
    | inr last ↦ (let here : n ≡ j = sym table.same_length ∙ sym last.0 in
        subst (λ (k : ℕ). AreRunningOn rules k more) here (subst (AreRunningOn rules n) (sym last.1) are))
  ];
}

-- ---- what it answers

-- what is no tree has no words, so it may be followed
pub free_first : (ts : List Tree) (ps : List ℕ) (i j : ℕ) → length ts ≤ i → CanFollow ts ps i j
free_first ts ps i j l h = omega (arith, matches_inside ts h.first i h.is_first.0.0)

-- a mark that is not set is the answer
pub marked : (rules : Rules) (i j : ℕ) (marks : List Bool) (mark : Bool) → AreRunningOn rules j marks → slice_get marks i ≡ Some mark
    → IsTrue (not mark) ↔ CanFollow rules.trees rules.precedences i j
marked rules i j marks true are at = (
  (λ e. let no : false ≡ true = e in absurd (cc)),
  (λ apart. absurd (apart ((are.each i (omega (arith, are.same_length, slice_get_within marks i true at))).0 at))),
)
marked rules i j marks false are at = (
  (λ e h. let set = (are.each i (omega (arith, are.same_length, slice_get_within marks i false at))).1 h in
      let no : Some false ≡ Some true = sym at ∙ set in cc),
  (λ apart. refl),
)

-- the list that stands at a place
pub list_at : {X : Type 0} (shown : X → List Bool) (xs : List X) (rules : Rules) (n i j : ℕ) (x : X) → IsTableUpTo rules n (map shown xs)
    → i < length xs → x ≡ get_or xs i x → i ≡ j → AreRunningOn rules j (shown x)
list_at shown xs rules n i j x table less read same =
    subst (λ (k : ℕ). AreRunningOn rules k (shown x)) same
    (table.each i (shown x) (slice_get-map shown xs i ∙ ap (option_map shown) (slice_get_read xs (length xs) i x refl less read)))
