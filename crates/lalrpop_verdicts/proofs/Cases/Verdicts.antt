-- Cases of specs/Verdicts.antt: `a` beside `b`; `a` twice, the second with the greater precedence, and words of another list by it;
-- and the empty text beside `a`.
use Rattle.std.proofs.Common.{◌≡◌, ℕ, zero, suc, ◌<◌, ◌≤◌, List, [], ◌∷◌, get_or, slice_index, Global, Vec, refl, sym, ap, ◌∙◌, subst, arith}
use Rattle.std.specs.Prelude.{slice_get, Some, None}
use Rattle.lalrpop_hir.specs.Tree.{Tree, empty, literal}
use Rattle.lalrpop_hir.specs.Language.{Matches, Words}
use Rattle.lalrpop_hir.specs.Winners.{TreeMatches, IsStrongest, IsOnlyStrongest}
use Rattle.lalrpop_hir.specs.Word.{Shortlex}
use Rattle.lalrpop_hir.proofs.Contained.{contains_first, contains_none, contains_only}
use Rattle.lalrpop_hir.proofs.Words.{Shortlex-irreflexive}
use Rattle.lalrpop_dfa.specs.Witness.{IsLeast}
use Rattle.lalrpop_verdicts.specs.Answers.{IsTextWord}
use Rattle.lalrpop_verdicts.specs.WonWord.{WonWord}
use Rattle.lalrpop_verdicts.specs.Verdicts.{AreWinners, IsVerdict, IsWonBy, words_of}
use Rattle.lalrpop_verdicts.specs.declared.verdict.Verdict.TheVariants.{Wins, Shadowed, Unmatched}

abbrev a : Tree
a = literal (97 ∷ [])

abbrev b : Tree
b = literal (98 ∷ [])

a_is_text : IsTextWord (97 ∷ [])
a_is_text zero d l = refl
a_is_text (suc k) d l = absurd (omega (arith, l))

-- the first of two trees
first_of : (t u : Tree) (w : List ℕ) → TreeMatches (t ∷ u ∷ []) w 0 → Matches t w
first_of t u w (s, (e, m)) = let same : t ≡ s = cc in subst (λ x. Matches x w) (sym same) m

second_of : (t u : Tree) (w : List ℕ) → TreeMatches (t ∷ u ∷ []) w 1 → Matches u w
second_of t u w (s, (e, m)) = let same : u ≡ s = cc in subst (λ x. Matches x w) (sym same) m

a_is_not_b : (w : List ℕ) → w ≡ 97 ∷ [] → w ≡ 98 ∷ [] → ⊥
a_is_not_b w e f = let n : 97 ≡ 98 = ap (λ v. get_or v 0 0) (sym e ∙ f) in omega (arith, n)

-- ---- a keyword that wins

only_a : IsOnlyStrongest (a ∷ b ∷ []) (0 ∷ 0 ∷ []) (97 ∷ []) 0
only_a = (((a, (refl, refl)), greatest), only)
  where
    greatest : (j : ℕ) → TreeMatches (a ∷ b ∷ []) (97 ∷ []) j → slice_index (0 ∷ 0 ∷ []) j ≤ 0
    greatest zero h = omega arith
    greatest (suc zero) h = omega arith
    greatest (suc (suc n)) h = omega arith

    only : (j : ℕ) → IsStrongest (a ∷ b ∷ []) (0 ∷ 0 ∷ []) (97 ∷ []) j → j ≡ 0
    only zero t = refl
    only (suc zero) t = absurd (a_is_not_b (97 ∷ []) refl (second_of a b (97 ∷ []) t.0))
    only (suc (suc n)) t = let e : None ≡ Some t.0.0 = t.0.1.0 in absurd (cc)

a_is_won : IsWonBy (words_of (a ∷ b ∷ []) 0) (a ∷ b ∷ []) (0 ∷ 0 ∷ []) 0 (97 ∷ [])
a_is_won = (a_is_text, (λ e. cc), (a, (refl, refl)), only_a)

keyword_wins : (w : Vec ℕ Global) → w.items ≡ 97 ∷ [] → IsVerdict (a ∷ b ∷ []) (0 ∷ 0 ∷ []) 0 (Wins w)
keyword_wins w e = rw e (record {
  holds = a_is_won;
  least = λ u less won. Shortlex-irreflexive (97 ∷ []) (subst (λ x. Shortlex x (97 ∷ [])) (first_of a b u won.2) less);
})

no_other_word_is_its_least : (w : Vec ℕ Global) → w.items ≡ 98 ∷ [] → ¬ IsVerdict (a ∷ b ∷ []) (0 ∷ 0 ∷ []) 0 (Wins w)
no_other_word_is_its_least w e h = a_is_not_b w.items (first_of a b w.items h.holds.2) e

nothing_hides_a_winner : (by : Vec WonWord Global) → ¬ IsVerdict (a ∷ b ∷ []) (0 ∷ 0 ∷ []) 0 (Shadowed by)
nothing_hides_a_winner by h = h.0 (97 ∷ []) a_is_won

winner_is_matched : ¬ IsVerdict (a ∷ b ∷ []) (0 ∷ 0 ∷ []) 0 Unmatched
winner_is_matched h = h (97 ∷ []) a_is_text (λ e. cc) (a, (refl, refl))

-- ---- a name that hides it

abbrev name_wins : WonWord
name_wins = record { by = 1; word = 97 ∷ [] }

name_is_strongest : (w : List ℕ) → Matches a w → IsStrongest (a ∷ a ∷ []) (0 ∷ 1 ∷ []) w 1
name_is_strongest w m = ((a, (refl, m)), greatest)
  where
    greatest : (j : ℕ) → TreeMatches (a ∷ a ∷ []) w j → slice_index (0 ∷ 1 ∷ []) j ≤ 1
    greatest zero h = omega arith
    greatest (suc zero) h = omega arith
    greatest (suc (suc n)) h = omega arith

only_name : IsOnlyStrongest (a ∷ a ∷ []) (0 ∷ 1 ∷ []) (97 ∷ []) 1
only_name = (name_is_strongest (97 ∷ []) refl, only)
  where
    only : (j : ℕ) → IsStrongest (a ∷ a ∷ []) (0 ∷ 1 ∷ []) (97 ∷ []) j → j ≡ 1
    only zero t = let l : 1 ≤ 0 = t.1 1 (a, (refl, refl)) in absurd (omega (arith, l))
    only (suc zero) t = refl
    only (suc (suc n)) t = let e : None ≡ Some t.0.0 = t.0.1.0 in absurd (cc)

keyword_is_not_won : (w : List ℕ) → ¬ IsWonBy (words_of (a ∷ a ∷ []) 0) (a ∷ a ∷ []) (0 ∷ 1 ∷ []) 0 w
keyword_is_not_won w won = let l : 1 ≤ 0 = won.3.0.1 1 (a, (refl, first_of a a w won.2)) in omega (arith, l)

-- words that a matches are won by the name, whatever list they are of
module _ (L : Words) (matched : (w : List ℕ) → L w → Matches a w) (has_a : L (97 ∷ [])) where
  name_wins_them : AreWinners L (a ∷ a ∷ []) (0 ∷ 1 ∷ []) (name_wins ∷ [])
  name_wins_them = record {
    ascending = ascending;
    each = λ x has. subst (λ y. IsLeast (IsWonBy L (a ∷ a ∷ []) (0 ∷ 1 ∷ []) y.by) y.word) (contains_only name_wins x has) least;
    all = λ j w won. (name_wins, (contains_first name_wins [], won.3.1 1 (name_is_strongest w (matched w won.2))));
  }
    where
      ascending : (m n : ℕ) (x y : WonWord) → m < n → slice_get (name_wins ∷ []) m ≡ Some x → slice_get (name_wins ∷ []) n ≡ Some y → x.by < y.by
      ascending m zero x y l at there = absurd (omega (arith, l))
      ascending m (suc n) x y l at there = cc

      least : IsLeast (IsWonBy L (a ∷ a ∷ []) (0 ∷ 1 ∷ []) 1) (97 ∷ [])
      least = record {
        holds = (a_is_text, (λ e. cc), has_a, only_name);
        least = λ u less won. Shortlex-irreflexive (97 ∷ []) (subst (λ x. Shortlex x (97 ∷ [])) (matched u won.2) less);
      }

name_shadows : AreWinners (words_of (a ∷ a ∷ []) 0) (a ∷ a ∷ []) (0 ∷ 1 ∷ []) (name_wins ∷ [])
name_shadows = name_wins_them (words_of (a ∷ a ∷ []) 0) (first_of a a) (a, (refl, refl))

keyword_is_hidden : (by : Vec WonWord Global) → by.items ≡ name_wins ∷ [] → IsVerdict (a ∷ a ∷ []) (0 ∷ 1 ∷ []) 0 (Shadowed by)
keyword_is_hidden by e = (keyword_is_not_won, (λ none. let f : name_wins ∷ [] ≡ [] = sym e ∙ none in cc), subst (λ x. AreWinners (words_of (a ∷ a ∷ []) 0) (a ∷ a ∷ []) (0 ∷ 1 ∷ []) x) (sym e) name_shadows)

no_shadow_is_left_out : (by : Vec WonWord Global) → by.items ≡ [] → ¬ IsVerdict (a ∷ a ∷ []) (0 ∷ 1 ∷ []) 0 (Shadowed by)
no_shadow_is_left_out by e h = h.1 e

hidden_keyword_wins_nothing : (w : Vec ℕ Global) → ¬ IsVerdict (a ∷ a ∷ []) (0 ∷ 1 ∷ []) 0 (Wins w)
hidden_keyword_wins_nothing w h = keyword_is_not_won w.items h.holds

hidden_keyword_is_matched : ¬ IsVerdict (a ∷ a ∷ []) (0 ∷ 1 ∷ []) 0 Unmatched
hidden_keyword_is_matched h = h (97 ∷ []) a_is_text (λ e. cc) (a, (refl, refl))

-- ---- words of a tree that is not in the list

alone : (t : Tree) (w : List ℕ) → TreeMatches (t ∷ []) w 0 → Matches t w
alone t w (s, (e, m)) = let same : t ≡ s = cc in subst (λ x. Matches x w) (sym same) m

either : (w : List ℕ) (j : ℕ) → TreeMatches (a ∷ a ∷ []) w j → w ≡ 97 ∷ []
either w zero h = first_of a a w h
either w (suc zero) h = second_of a a w h
either w (suc (suc n)) h = let e : None ≡ Some h.0 = h.1.0 in cc

name_wins_a_of_another_list : AreWinners (words_of (a ∷ []) 0) (a ∷ a ∷ []) (0 ∷ 1 ∷ []) (name_wins ∷ [])
name_wins_a_of_another_list = name_wins_them (words_of (a ∷ []) 0) (alone a) (a, (refl, refl))

winner_is_not_left_out : ¬ AreWinners (words_of (a ∷ []) 0) (a ∷ a ∷ []) (0 ∷ 1 ∷ []) []
winner_is_not_left_out h =
    let (x, (has, by)) = h.all 1 (97 ∷ []) (a_is_text, (λ e. cc), (a, (refl, refl)), only_name) in
    contains_none x has

-- no tree of the list matches `b`
b_is_won_by_none : AreWinners (words_of (b ∷ []) 0) (a ∷ a ∷ []) (0 ∷ 1 ∷ []) []
b_is_won_by_none = record {
  ascending = λ m n x y l at there. cc;
  each = λ x has. absurd (contains_none x has);
  all = λ j w won. absurd (a_is_not_b w (either w j won.3.0.0) (alone b w won.2));
}

name_wins_no_b : ¬ AreWinners (words_of (b ∷ []) 0) (a ∷ a ∷ []) (0 ∷ 1 ∷ []) (name_wins ∷ [])
name_wins_no_b h =
    let least = h.each name_wins (contains_first name_wins []) in
    a_is_not_b (97 ∷ []) refl (alone b (97 ∷ []) least.holds.2)

-- ---- the empty text alone

empty_pattern_is_unmatched : IsVerdict (empty ∷ a ∷ []) (0 ∷ 0 ∷ []) 0 Unmatched
empty_pattern_is_unmatched = λ w text some m. some (first_of empty a w m)

empty_text_is_no_win : (w : Vec ℕ Global) → ¬ IsVerdict (empty ∷ a ∷ []) (0 ∷ 0 ∷ []) 0 (Wins w)
empty_text_is_no_win w h = h.holds.1 (first_of empty a w.items h.holds.2)
