-- Cases of specs/Review.antt: two rules for `a` in mode 0, the second with the greater precedence, of two kinds or of one.
use Rattle.std.proofs.Common.{◌≡◌, ℕ, zero, suc, ◌<◌, ◌≤◌, inl, inr, List, [], ◌∷◌, length, get_or, slice_index, Global, Vec, refl, sym, ap, ◌∙◌, subst, arith}
use Rattle.std.specs.Prelude.{slice_get, Some, None, IsSomeAnd, Contains}
use Rattle.std.proofs.lemmas.Option.{same_Some}
use Rattle.lalrpop_hir.specs.Tree.{Tree, literal}
use Rattle.lalrpop_hir.specs.Language.{Matches}
use Rattle.lalrpop_hir.specs.Winners.{Matched, TreeMatches, IsStrongest, IsOnlyStrongest}
use Rattle.lalrpop_hir.specs.Word.{Shortlex}
use Rattle.lalrpop_hir.proofs.Contained.{contains_first, contains_none, contains_only}
use Rattle.lalrpop_hir.proofs.Words.{Shortlex-irreflexive}
use Rattle.lalrpop_dfa.specs.Dfa.{Row, run, after, step, AreAscendingTests, IsReject, IsRightKind, IsWellFormed, RecognizesAll}
use Rattle.lalrpop_dfa.specs.Witness.{IsLeast, OpenMatch}
use Rattle.lalrpop_dfa.specs.declared.Kind.{Kind}
use Rattle.lalrpop_dfa.specs.declared.Kind.TheVariants.{Accepts, Reject, Neither}
use Rattle.lalrpop_dfa.proofs.AfterLaws.{after_within}
use Rattle.lalrpop_dfa.proofs.EdgeTargets.{the_some}
use Rattle.lalrpop_rules.specs.Modes.{ModeRules, trees_in}
use Rattle.lalrpop_verdicts.specs.Answers.{IsTextWord}
use Rattle.lalrpop_verdicts.specs.WonWord.{WonWord}
use Rattle.lalrpop_verdicts.specs.Verdicts.{AreWinners, IsWonBy, words_of}
use Rattle.lalrpop_review.specs.Review.{AreThose, AreOneKind, NeverWins, IsIdle, AreIdle, IsAutomatonOf, IsLeastStates, IsLeastOpen, IsLook, IsReview}
use Rattle.lalrpop_review.specs.declared.look.Look.TheVariants.{AtMost, Unbounded}
use Rattle.lalrpop_review.specs.declared.mode.ModeReview.{ModeReview}

-- ---- numbers with a property

-- of the numbers below 2, only 1 is 1
one_below_two : AreThose 2 (λ i. i ≡ 1) (1 ∷ [])
one_below_two = record { ascending = ascending; all = λ i. (λ has. to i (contains_only 1 i has), λ both. subst (Contains (1 ∷ [])) (sym both.1) (contains_first 1 [])) }
  where
    ascending : (a b i j : ℕ) → a < b → slice_get (1 ∷ []) a ≡ Some i → slice_get (1 ∷ []) b ≡ Some j → i < j
    ascending a zero i j less at there = absurd (omega (arith, less))
    ascending a (suc b) i j less at there = absurd (cc)

    to : (i : ℕ) → 1 ≡ i → (i < 2) × (i ≡ 1)
    to i same = (omega (arith, same), sym same)

none_is_left_out : ¬ AreThose 2 (λ i. i ≡ 1) []
none_is_left_out h = contains_none 1 ((h.all 1).1 (omega arith, refl))

none_is_twice : ¬ AreThose 2 (λ i. i ≡ 1) (1 ∷ 1 ∷ [])
none_is_twice h = let less : 1 < 1 = h.ascending 0 1 1 1 (omega arith) refl refl in omega (arith, less)

none_is_past_the_end : ¬ AreThose 1 (λ i. i ≡ 1) (1 ∷ [])
none_is_past_the_end h = let below : 1 < 1 = ((h.all 1).0 (contains_first 1 [])).0 in omega (arith, below)

-- ---- rules that never win

abbrev a : Tree
a = literal (97 ∷ [])

-- two rules for `a` in mode 0, with these kinds
abbrev two : List ℕ → ModeRules
two kinds = record {
  names = [];
  trees = a ∷ a ∷ [];
  precedences = 0 ∷ 1 ∷ [];
  skips = [];
  actions = [];
  members = (0 ∷ []) ∷ (0 ∷ []) ∷ [];
  kinds = kinds;
  modes = 1;
  mode_names = [];
  automata = [];
}

-- of two kinds, and of one
abbrev apart : ModeRules
apart = two (0 ∷ 1 ∷ [])

abbrev alike : ModeRules
alike = two (0 ∷ 0 ∷ [])

two_kinds : ¬ AreOneKind apart 0 1
two_kinds same = omega (arith, same_Some {A = ℕ} 0 1 same)

one_kind : AreOneKind alike 0 1
one_kind = refl

a_is_text : IsTextWord (97 ∷ [])
a_is_text zero d l = refl
a_is_text (suc k) d l = absurd (omega (arith, l))

-- the words of the two rules
first_of : (w : List ℕ) → TreeMatches (a ∷ a ∷ []) w 0 → Matches a w
first_of w (s, (e, m)) = let same : a ≡ s = cc in subst (λ x. Matches x w) (sym same) m

second_of : (w : List ℕ) → TreeMatches (a ∷ a ∷ []) w 1 → Matches a w
second_of w (s, (e, m)) = let same : a ≡ s = cc in subst (λ x. Matches x w) (sym same) m

second_is_strongest : (w : List ℕ) → Matches a w → IsStrongest (a ∷ a ∷ []) (0 ∷ 1 ∷ []) w 1
second_is_strongest w m = ((a, (refl, m)), greatest)
  where
    greatest : (j : ℕ) → TreeMatches (a ∷ a ∷ []) w j → slice_index (0 ∷ 1 ∷ []) j ≤ 1
    greatest zero h = omega arith
    greatest (suc zero) h = omega arith
    greatest (suc (suc n)) h = omega arith

only_second : IsOnlyStrongest (a ∷ a ∷ []) (0 ∷ 1 ∷ []) (97 ∷ []) 1
only_second = (second_is_strongest (97 ∷ []) refl, only)
  where
    only : (j : ℕ) → IsStrongest (a ∷ a ∷ []) (0 ∷ 1 ∷ []) (97 ∷ []) j → j ≡ 1
    only zero t = let l : 1 ≤ 0 = t.1 1 (a, (refl, refl)) in absurd (omega (arith, l))
    only (suc zero) t = refl
    only (suc (suc n)) t = let e : None ≡ Some t.0.0 = t.0.1.0 in absurd (cc)

first_wins_nothing : (w : List ℕ) → Matches a w → ¬ IsOnlyStrongest (a ∷ a ∷ []) (0 ∷ 1 ∷ []) w 0
first_wins_nothing w m only = let l : 1 ≤ 0 = only.0.1 1 (a, (refl, m)) in omega (arith, l)

-- the second hides the first
first_is_hidden : NeverWins apart 0 0
first_is_hidden = ((0 ∷ [], (refl, (0, omega arith, refl))), of_another)
  where
    of_another : (j : ℕ) (w : List ℕ) → IsWonBy (words_of (a ∷ a ∷ []) 0) (a ∷ a ∷ []) (0 ∷ 1 ∷ []) j w → ¬ AreOneKind apart 0 j
    of_another zero w won same = first_wins_nothing w (first_of w won.2) won.3
    of_another (suc zero) w won same = two_kinds same
    of_another (suc (suc j)) w won same = cc same

abbrev second_wins : WonWord
second_wins = record { by = 1; word = 97 ∷ [] }

second_hides : AreWinners (words_of (a ∷ a ∷ []) 0) (a ∷ a ∷ []) (0 ∷ 1 ∷ []) (second_wins ∷ [])
second_hides = record {
  ascending = ascending;
  each = λ x has. subst (λ y. IsLeast (IsWonBy (words_of (a ∷ a ∷ []) 0) (a ∷ a ∷ []) (0 ∷ 1 ∷ []) y.by) y.word) (contains_only second_wins x has) least;
  all = λ j w won. (second_wins, (contains_first second_wins [], won.3.1 1 (second_is_strongest w (first_of w won.2))));
}
  where
    ascending : (m n : ℕ) (x y : WonWord) → m < n → slice_get (second_wins ∷ []) m ≡ Some x → slice_get (second_wins ∷ []) n ≡ Some y → x.by < y.by
    ascending m zero x y l at there = absurd (omega (arith, l))
    ascending m (suc n) x y l at there = cc

    least : IsLeast (IsWonBy (words_of (a ∷ a ∷ []) 0) (a ∷ a ∷ []) (0 ∷ 1 ∷ []) 1) (97 ∷ [])
    least = record {
      holds = (a_is_text, (λ e. cc), (a, (refl, refl)), only_second);
      least = λ u less won. Shortlex-irreflexive (97 ∷ []) (subst (λ x. Shortlex x (97 ∷ [])) (first_of u won.2) less);
    }

first_is_idle : (winners : Vec WonWord Global) → winners.items ≡ second_wins ∷ [] → IsIdle apart 0 (record { rule = 0; winners = winners })
first_is_idle winners e = record {
  never = first_is_hidden;
  winners = subst (λ xs. AreWinners (words_of (a ∷ a ∷ []) 0) (a ∷ a ∷ []) (0 ∷ 1 ∷ []) xs) (sym e) second_hides;
}

no_winner_is_left_out : (winners : Vec WonWord Global) → winners.items ≡ [] → ¬ IsIdle apart 0 (record { rule = 0; winners = winners })
no_winner_is_left_out winners e idle =
    let (x, (has, by)) = idle.winners.all 1 (97 ∷ []) (a_is_text, (λ e. cc), (a, (refl, refl)), only_second) in
    contains_none x (subst (λ xs. Contains xs x) e has)

-- a rule that wins isn't one of these
second_is_not : ¬ NeverWins apart 0 1
second_is_not never = never.1 1 (97 ∷ []) (a_is_text, (λ e. cc), (a, (refl, refl)), only_second) refl

-- nor is one of another mode
no_rule_of_mode_1 : ¬ NeverWins apart 1 0
no_rule_of_mode_1 ((own, (at, has)), none) =
    let same : 0 ∷ [] ≡ own = cc at in
    let n : 0 ≡ 1 = contains_only 0 1 (subst (λ xs. Contains xs 1) (sym same) has) in
    omega (arith, n)

-- where they are of one kind, the first has the trees of both, and neither hides the other
first_of_kind_wins : ¬ NeverWins alike 0 1
first_of_kind_wins never = never.1 0 (97 ∷ []) (a_is_text, (λ e. cc), (a, (refl, refl)), first_only) refl
  where
    first_only : IsOnlyStrongest (trees_in alike 0) (0 ∷ 1 ∷ []) (97 ∷ []) 0
    first_only = (((get_or (trees_in alike 0) 0 a, (refl, inl refl)), greatest), only)
      where
        no_more : (t : Tree) → slice_get (trees_in alike 0) 1 ≡ Some t → ¬ Matches t (97 ∷ [])
        no_more t e m = let same : get_or (trees_in alike 0) 1 a ≡ t = cc e in subst (λ x. Matches x (97 ∷ [])) (sym same) m

        greatest : (j : ℕ) → TreeMatches (trees_in alike 0) (97 ∷ []) j → slice_index (0 ∷ 1 ∷ []) j ≤ 0
        greatest zero h = omega arith
        greatest (suc zero) (t, (e, m)) = absurd (no_more t e m)
        greatest (suc (suc n)) h = omega arith

        only : (j : ℕ) → IsStrongest (trees_in alike 0) (0 ∷ 1 ∷ []) (97 ∷ []) j → j ≡ 0
        only zero t = refl
        only (suc zero) t = absurd (no_more t.0.0 t.0.1.0 t.0.1.1)
        only (suc (suc n)) t = let e : None ≡ Some t.0.0 = t.0.1.0 in absurd (cc)

-- no rule of a mode without rules is told
none_of_mode_1 : AreIdle apart 1 []
none_of_mode_1 = record {
  ascending = λ m n x y l at there. absurd (cc);
  each = λ x has. absurd (contains_none x has);
  all = λ i below never. absurd (belongs i never.0);
}
  where
    belongs : (i : ℕ) → (own : List ℕ) × ((slice_get apart.members i ≡ Some own) × Contains own 1) → ⊥
    belongs zero (own, (at, has)) =
        let same : 0 ∷ [] ≡ own = cc at in
        let n : 0 ≡ 1 = contains_only 0 1 (subst (λ xs. Contains xs 1) (sym same) has) in
        omega (arith, n)
    belongs (suc zero) (own, (at, has)) =
        let same : 0 ∷ [] ≡ own = cc at in
        let n : 0 ≡ 1 = contains_only 0 1 (subst (λ xs. Contains xs 1) (sym same) has) in
        omega (arith, n)
    belongs (suc (suc i)) (own, (at, has)) = cc at

-- and a hidden rule is
hidden_rule_is_told : ¬ AreIdle apart 0 []
hidden_rule_is_told h = let (x, (has, is)) = h.all 0 (omega arith) first_is_hidden in contains_none x has

-- ---- states

-- without trees there is no token
no_match : (w : List ℕ) → ¬ Matched [] w
no_match w (i, (t, (at, m))) = cc at

-- a state that rejects, and all values lead back to it
abbrev reject : Row
reject = record { kind = Reject; tests = []; other = 0; items = [] }

abbrev never : List Row
never = reject ∷ []

its_row : (p : ℕ) (x : Row) → slice_get never p ≡ Some x → reject ≡ x
its_row zero x e = same_Some reject x e
its_row (suc p) x e = cc

never_fits : IsWellFormed never
never_fits = record {
  some = omega arith;
  ascending = λ p x e. subst (λ (y : Row). AreAscendingTests y.tests) (its_row p x e) tt;
  tests_in = λ p x t e has. absurd (contains_none t (subst (λ (y : Row). Contains y.tests t) (sym (its_row p x e)) has));
  others_in = λ p x e. subst (λ (y : Row). y.other < 1) (its_row p x e) (omega arith);
}

never_recognizes : RecognizesAll never [] []
never_recognizes = record { kinds = λ w. kinds w w; stays = stays }
  where
    kinds : (v w : List ℕ) → IsSomeAnd (slice_get never (run never 0 w)) (λ x. IsRightKind [] [] v x.kind)
    kinds v [] = no_match v
    kinds v (c ∷ w) = kinds v w

    stays : (p c : ℕ) → IsReject never p → IsReject never (step never p c)
    stays zero c rejects = refl
    stays (suc p) c rejects = absurd rejects

-- without trees one state is enough, and less than one is none
no_trees_need_one : IsLeastStates [] [] 1
no_trees_need_one = record { some = (never, ((never_fits, never_recognizes), refl)); none_fewer = λ d is. (let some = is.0.some in omega (arith, some)) }

no_trees_need_no_two : ¬ IsLeastStates [] [] 2
no_trees_need_no_two least = let most : 2 ≤ 1 = least.none_fewer never (never_fits, never_recognizes) in omega (arith, most)

one_at_least : (ts : List Tree) (ps : List ℕ) → ¬ IsLeastStates ts ps 0
one_at_least ts ps least = let (d, (is, count)) = least.some in let some = is.0.some in omega (arith, some, count)

-- what matches no word isn't an automaton of `a`
never_is_not_of_a : ¬ IsAutomatonOf (a ∷ []) (0 ∷ []) never
never_is_not_of_a is = is.1.kinds (97 ∷ []) (0, (a, (refl, refl)))

-- which needs more states than one: the empty word is none of its words
a_is_not_empty : ¬ Matches a []
a_is_not_empty m = let none : 0 ≡ 1 = ap (λ (v : List ℕ). length v) m in omega (arith, none)

one_state_says_one_thing : (k : Kind) → IsRightKind (a ∷ []) (0 ∷ []) [] k → IsRightKind (a ∷ []) (0 ∷ []) (97 ∷ []) k → ⊥
one_state_says_one_thing (Accepts zero) before behind =
    let (t, (at, m)) = before.0.0 in
    a_is_not_empty (subst (λ x. Matches x []) (sym (same_Some a t at)) m)
one_state_says_one_thing (Accepts (suc i)) before behind = let (t, (at, m)) = before.0.0 in cc at
one_state_says_one_thing Reject before behind = behind (0, (a, (refl, refl)))
one_state_says_one_thing Neither before behind = behind (0, (a, (refl, refl)))

one_is_too_few : ¬ IsLeastStates (a ∷ []) (0 ∷ []) 1
one_is_too_few least =
    let (d, (is, count)) = least.some in
    let back : after d (97 ∷ []) ≡ 0 = omega (arith, count, after_within d (97 ∷ []) is.0) in
    let (x, (at, before)) = the_some (slice_get d 0) (λ x. IsRightKind (a ∷ []) (0 ∷ []) [] x.kind) (is.1.kinds []) in
    let (y, (there, behind)) = the_some (slice_get d (after d (97 ∷ []))) (λ x. IsRightKind (a ∷ []) (0 ∷ []) (97 ∷ []) x.kind) (is.1.kinds (97 ∷ [])) in
    let same : y ≡ x = same_Some y x (sym there ∙ ap (slice_get d) back ∙ at) in
    one_state_says_one_thing x.kind before (subst (λ (z : Row). IsRightKind (a ∷ []) (0 ∷ []) (97 ∷ []) z.kind) same behind)

-- ---- reading past a token

no_token_is_open : IsLook [] [] (AtMost 0 None)
no_token_is_open = (((λ m can. absurd (no_match can.0 can.2.word)), inl refl), λ v x is. no_match v is.leaves_open.word)

no_token_reads_on : (n : ℕ) → ¬ IsLook [] [] (AtMost (suc n) None)
no_token_reads_on n look = elim look.0.1 [
  | inl e ↦ omega (arith, e)
  | inr can ↦ no_match can.0 can.2.word
]

no_token_shows_it : (found : OpenMatch) → ¬ IsLeastOpen [] 0 (Some found)
no_token_shows_it found witness = no_match found.word witness.after.holds.leaves_open.word

no_token_is_open_ever : (rules : Vec ℕ Global) → ¬ IsLook [] [] (Unbounded rules)
no_token_is_open_ever rules look = let can = look.0 0 in no_match can.0 can.2.word

-- ---- the whole

abbrev nothing : ModeRules
nothing = record { names = []; trees = []; precedences = []; skips = []; actions = []; members = []; kinds = []; modes = 0; mode_names = []; automata = [] }

review_of_nothing : (empty : Vec ℕ Global) (modes : Vec ModeReview Global) → empty.items ≡ [] → modes.items ≡ [] → IsReview nothing (record { empty = empty; modes = modes })
review_of_nothing empty modes e f = record {
  empty = rw e (record { ascending = λ a b i j less at there. absurd (cc); all = λ i. (λ has. absurd (contains_none i has), λ both. absurd (omega (arith, both.0))) });
  count = ap length f;
  each = λ m y at. (let none : slice_get [] m ≡ Some y = subst (λ ys. slice_get ys m ≡ Some y) f at in cc none);
}

mode_that_is_not_there : (empty : Vec ℕ Global) (modes : Vec ModeReview Global) (y : ModeReview) → modes.items ≡ y ∷ [] → ¬ IsReview nothing (record { empty = empty; modes = modes })
mode_that_is_not_there empty modes y e h = let n : 1 ≡ 0 = ap length (sym e) ∙ h.count in omega (arith, n)
