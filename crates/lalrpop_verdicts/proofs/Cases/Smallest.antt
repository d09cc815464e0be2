-- Cases of specs/Smallest.antt: automata of one state and of two without test edges, and of three with edges.
use Rattle.std.proofs.Common.{◌≡◌, ℕ, zero, suc, ◌<◌, ◌≤◌, inl, inr, ⊎_elim, List, [], ◌∷◌, length, Some, None, refl, sym, ap, ◌∙◌, arith}
use Rattle.std.specs.Prelude.{slice_get}
use Rattle.std.specs.List.{Contains}
use Rattle.std.proofs.lemmas.Bool.{cases_lt}
use Rattle.std.proofs.lemmas.Option.{slice_get_within}
use Rattle.lalrpop_hir.specs.Range.{Range}
use Rattle.lalrpop_dfa.specs.Dfa.{Row, after, AreAscendingTests, IsWellFormed}
use Rattle.lalrpop_dfa.specs.declared.Kind.{Kind}
use Rattle.lalrpop_dfa.specs.declared.Kind.TheVariants.{Accepts, Reject, Neither}
use Rattle.lalrpop_dfa.proofs.AfterLaws.{after_within}
use Rattle.lalrpop_verdicts.specs.Answers.{answer, answer_from, accepted_at}
use Rattle.lalrpop_verdicts.specs.Smallest.{AnswerAlike, AreApart, AreFewestTests, AreInOrder, AreNext, HasFewestEdges, IsCanonical, IsLeastCount, IsSmallest, RejectsAtOnce, edges_of}

-- a state from which all values lead to p
abbrev state : Kind → ℕ → Row
state kind p = record { kind = kind; tests = []; other = p; items = [] }

no_answer_is_none : (i : ℕ) → Some i ≡ None → ⊥
no_answer_is_none i e = absurd (cc)

same_answer : (i j : ℕ) → Some i ≡ Some j → i ≡ j
same_answer i j e = cc

-- ---- each word is accepted: by one state, or by two in turn
abbrev always : List Row
always = state (Accepts 0) 0 ∷ []

abbrev in_turn : List Row
in_turn = state (Accepts 0) 1 ∷ state (Accepts 0) 0 ∷ []

abbrev never : List Row
never = state Reject 0 ∷ []

always_accepts : (w : List ℕ) → answer_from always 0 w ≡ Some 0
always_accepts [] = refl
always_accepts (c ∷ w) = always_accepts w

both_accept : (w : List ℕ) → (answer_from in_turn 0 w ≡ Some 0) × (answer_from in_turn 1 w ≡ Some 0)
both_accept [] = (refl, refl)
both_accept (c ∷ w) = ((both_accept w).1, (both_accept w).0)

they_answer_alike : AnswerAlike in_turn always
they_answer_alike w = (both_accept w).0 ∙ sym (always_accepts w)

others_do_not : ¬ AnswerAlike always never
others_do_not alike = no_answer_is_none 0 (alike [])

other_trees_do_not : ¬ AnswerAlike always (state (Accepts 1) 0 ∷ [])
other_trees_do_not alike = omega (arith, same_answer 0 1 (alike []))

one_state_is_smallest : IsSmallest always
one_state_is_smallest e fits alike = omega (arith, fits.some)

the_row : (p : ℕ) (r : Row) → slice_get always p ≡ Some r → state (Accepts 0) 0 ≡ r
the_row zero r e = cc
the_row (suc p) r e = cc

alone_fits : (kind : Kind) → IsWellFormed (state kind 0 ∷ [])
alone_fits kind = record { some = omega arith; ascending = ascending; tests_in = tests_in; others_in = others_in }
  where
    here : (p : ℕ) (r : Row) → slice_get (state kind 0 ∷ []) p ≡ Some r → state kind 0 ≡ r
    here zero r e = cc
    here (suc p) r e = cc

    ascending : (p : ℕ) (r : Row) → slice_get (state kind 0 ∷ []) p ≡ Some r → AreAscendingTests r.tests
    ascending p r e = rw (← here p r e) tt

    tests_in : (p : ℕ) (r : Row) (t : Range × ℕ) → slice_get (state kind 0 ∷ []) p ≡ Some r → Contains r.tests t → t.1 < 1
    tests_in p r t e (k, l, is) = absurd (let none : length r.tests ≡ 0 = ap (λ (x : Row). length x.tests) (sym (here p r e)) in omega (arith, l, none))

    others_in : (p : ℕ) (r : Row) → slice_get (state kind 0 ∷ []) p ≡ Some r → r.other < 1
    others_in p r e = rw (← here p r e) (omega arith)

always_fits : IsWellFormed always
always_fits = alone_fits (Accepts 0)

two_states_are_one_too_many : ¬ IsSmallest in_turn
two_states_are_one_too_many least = let most : 2 ≤ 1 = least always always_fits they_answer_alike in omega (arith, most)

-- ---- the empty word is accepted, and no other
abbrev empty_alone : List Row
empty_alone = state (Accepts 0) 1 ∷ state Reject 1 ∷ []

-- one state can't accept the empty word and reject a longer one
one_does_not_do : (d : List Row) → answer d [] ≡ Some 0 → answer d (7 ∷ []) ≡ None → (e : List Row) → IsWellFormed e → AnswerAlike d e → 2 ≤ length e
one_does_not_do d accepts rejects e fits alike = ⊎_elim (λ (l : length e < 2). absurd (not_one l)) (λ (l : 2 ≤ length e). l) (cases_lt (length e) 2)
  where
    not_one : length e < 2 → ⊥
    not_one l =
        let back : after e (7 ∷ []) ≡ 0 = omega (arith, l, after_within e (7 ∷ []) fits) in
        let before : Some 0 ≡ answer e [] = sym accepts ∙ alike [] in
        let behind : None ≡ answer e (7 ∷ []) = sym rejects ∙ alike (7 ∷ []) in
        let same : answer e (7 ∷ []) ≡ answer e [] = ap (λ p. accepted_at (slice_get e p)) back in
        no_answer_is_none 0 (before ∙ sym same ∙ sym behind)

both_are_needed : IsSmallest empty_alone
both_are_needed = one_does_not_do empty_alone refl refl

second_is_dead : (w : List ℕ) → answer_from empty_alone 1 w ≡ None
second_is_dead [] = refl
second_is_dead (c ∷ w) = second_is_dead w

it_rejects_at_once : RejectsAtOnce empty_alone
it_rejects_at_once zero r e =
    let is : Accepts 0 ≡ r.kind = ap (λ (x : Row). x.kind) (let same : state (Accepts 0) 1 ≡ r = cc in same) in (
      λ k. absurd (let clash : Accepts 0 ≡ Reject = is ∙ k in cc),
      λ dead. absurd (no_answer_is_none 0 (dead [])),
    )
it_rejects_at_once (suc zero) r e =
    let is : Reject ≡ r.kind = ap (λ (x : Row). x.kind) (let same : state Reject 1 ≡ r = cc in same) in (λ k. second_is_dead, λ dead. sym is)
it_rejects_at_once (suc (suc p)) r e = absurd (let none : None ≡ Some r = e in cc)

-- ---- the least number of states
always_has_one : IsLeastCount always 1
always_has_one = (always, (always_fits, λ w. refl, one_state_is_smallest, refl))

two_that_answer_alike_have_one : IsLeastCount in_turn 1
two_that_answer_alike_have_one = (always, (always_fits, they_answer_alike, one_state_is_smallest, refl))

they_do_not_have_two : ¬ IsLeastCount in_turn 2
they_do_not_have_two (e, (fits, alike, least, count)) = let most : length e ≤ 1 = least always always_fits (λ w. sym (alike w) ∙ they_answer_alike w) in omega (arith, most, count)

-- no automaton has no state, even if it accepts nothing
never_has_one : IsLeastCount never 1
never_has_one = (never, (alone_fits Reject, λ w. refl, λ e fits alike. omega (arith, fits.some), refl))

never_does_not_have_none : ¬ IsLeastCount never 0
never_does_not_have_none (e, (fits, alike, least, count)) = omega (arith, fits.some, count)

-- the words of an even length
abbrev even : List Row
even = state (Accepts 0) 1 ∷ state Neither 0 ∷ []

even_fits : IsWellFormed even
even_fits = record { some = omega arith; ascending = ascending; tests_in = tests_in; others_in = others_in }
  where
    ascending : (p : ℕ) (r : Row) → slice_get even p ≡ Some r → AreAscendingTests r.tests
    ascending zero r e = let same : state (Accepts 0) 1 ≡ r = cc in rw (← same) tt
    ascending (suc zero) r e = let same : state Neither 0 ≡ r = cc in rw (← same) tt
    ascending (suc (suc p)) r e = absurd (let none : None ≡ Some r = e in cc)

    without_tests : (p : ℕ) (r : Row) → slice_get even p ≡ Some r → length r.tests ≡ 0
    without_tests zero r e = let same : state (Accepts 0) 1 ≡ r = cc in ap (λ (x : Row). length x.tests) (sym same)
    without_tests (suc zero) r e = let same : state Neither 0 ≡ r = cc in ap (λ (x : Row). length x.tests) (sym same)
    without_tests (suc (suc p)) r e = absurd (let none : None ≡ Some r = e in cc)

    tests_in : (p : ℕ) (r : Row) (t : Range × ℕ) → slice_get even p ≡ Some r → Contains r.tests t → t.1 < 2
    tests_in p r t e (k, l, is) = absurd (omega (arith, l, without_tests p r e))

    others_in : (p : ℕ) (r : Row) → slice_get even p ≡ Some r → r.other < 2
    others_in zero r e = let same : state (Accepts 0) 1 ≡ r = cc in rw (← same) (omega arith)
    others_in (suc zero) r e = let same : state Neither 0 ≡ r = cc in rw (← same) (omega arith)
    others_in (suc (suc p)) r e = absurd (let none : None ≡ Some r = e in cc)

even_has_two : IsLeastCount even 2
even_has_two = (even, (even_fits, λ w. refl, one_does_not_do even refl refl, refl))

even_does_not_have_one : ¬ IsLeastCount even 1
even_does_not_have_one (e, (fits, alike, least, count)) = omega (arith, one_does_not_do even refl refl e fits alike, count)

-- one state, whose edge leads to a state that isn't there, answers alike, but isn't well formed
abbrev cut_off : List Row
cut_off = state (Accepts 0) 1 ∷ []

cut_off_answers_alike : AnswerAlike even cut_off
cut_off_answers_alike w = (from_both w).0
  where
    from_both : (w : List ℕ) → (answer_from even 0 w ≡ answer_from cut_off 0 w) × (answer_from even 1 w ≡ answer_from cut_off 1 w)
    from_both [] = (refl, refl)
    from_both (c ∷ w) = ((from_both w).1, (from_both w).0)

cut_off_does_not_fit : ¬ IsWellFormed cut_off
cut_off_does_not_fit fits = let within : 1 < 1 = fits.others_in 0 (state (Accepts 0) 1) refl in omega (arith, within)

-- ---- a dead state that waits, and one that rejects too early
abbrev waits_in_vain : List Row
waits_in_vain = state (Accepts 0) 1 ∷ state Neither 1 ∷ []

it_waits : (w : List ℕ) → answer_from waits_in_vain 1 w ≡ None
it_waits [] = refl
it_waits (c ∷ w) = it_waits w

it_does_not_reject : ¬ RejectsAtOnce waits_in_vain
it_does_not_reject h = let e : Neither ≡ Reject = (h 1 (state Neither 1) refl).1 it_waits in absurd (cc)

abbrev too_early : List Row
too_early = state Reject 1 ∷ state (Accepts 0) 1 ∷ []

a_match_is_ahead : ¬ RejectsAtOnce too_early
a_match_is_ahead h = no_answer_is_none 0 ((h 0 (state Reject 1) refl).0 refl (7 ∷ []))

-- ---- edges: the letters a to z as one edge and as two, and one that leads where all other values lead
abbrev edge : ℕ → ℕ → ℕ → Range × ℕ
edge first last p = (record { start = first; end = last }, p)

abbrev with_edges : List (Range × ℕ) → List Row
with_edges tests = record { kind = Neither; tests = tests; other = 1; items = [] } ∷ state Reject 1 ∷ state (Accepts 0) 1 ∷ []

-- the first row has the tests, and the others have none
fewest_by_first : (tests : List (Range × ℕ)) → AreFewestTests 1 tests → HasFewestEdges (with_edges tests)
fewest_by_first tests few zero r e = let same : record { kind = Neither; tests = tests; other = 1; items = [] } ≡ r = cc in rw (← same) few
fewest_by_first tests few (suc zero) r e = let same : state Reject 1 ≡ r = cc in rw (← same) tt
fewest_by_first tests few (suc (suc zero)) r e = let same : state (Accepts 0) 1 ≡ r = cc in rw (← same) tt
fewest_by_first tests few (suc (suc (suc p))) r e = absurd (let none : None ≡ Some r = e in cc)

letters_are_one_edge : HasFewestEdges (with_edges (edge 97 122 2 ∷ []))
letters_are_one_edge = fewest_by_first (edge 97 122 2 ∷ []) (λ e. omega (arith, e))

letters_are_not_two : ¬ HasFewestEdges (with_edges (edge 97 107 2 ∷ edge 108 122 2 ∷ []))
letters_are_not_two h = (h 0 (record { kind = Neither; tests = edge 97 107 2 ∷ edge 108 122 2 ∷ []; other = 1; items = [] }) refl).1 refl refl

-- between the two lies a value, or they lead apart
two_with_a_gap : HasFewestEdges (with_edges (edge 97 106 2 ∷ edge 108 122 2 ∷ []))
two_with_a_gap = fewest_by_first (edge 97 106 2 ∷ edge 108 122 2 ∷ []) (λ e. omega (arith, e), λ touch e. omega (arith, touch), λ e. omega (arith, e))

two_that_lead_apart : HasFewestEdges (with_edges (edge 97 107 2 ∷ edge 108 122 0 ∷ []))
two_that_lead_apart = fewest_by_first (edge 97 107 2 ∷ edge 108 122 0 ∷ []) (λ e. omega (arith, e), λ touch e. omega (arith, e), λ e. omega (arith, e))

others_need_no_edge : ¬ HasFewestEdges (with_edges (edge 97 122 1 ∷ []))
others_need_no_edge h = h 0 (record { kind = Neither; tests = edge 97 122 1 ∷ []; other = 1; items = [] }) refl refl

-- ---- states that answer alike
one_state_is_apart : AreApart always
one_state_is_apart p q l m h = omega (arith, l, m)

two_that_accept_all_are_not : ¬ AreApart in_turn
two_that_accept_all_are_not h = let same : 0 ≡ 1 = h 0 1 (omega arith) (omega arith) (λ w. (both_accept w).0 ∙ sym (both_accept w).1) in omega (arith, same)

-- ---- numbers in turn: two states are met, and then 0, 2, 1 and 3
each_new_one_is_the_next : AreNext 2 (0 ∷ 2 ∷ 1 ∷ 3 ∷ []) 4
each_new_one_is_the_next = inl (omega arith, inr (refl, inl (omega arith, inr (refl, refl))))

a_number_is_left_out : ¬ AreNext 2 (0 ∷ 3 ∷ []) 4
a_number_is_left_out (inl (l, inl g)) = omega (arith, g.0)
a_number_is_left_out (inl (l, inr g)) = omega (arith, g.0)
a_number_is_left_out (inr g) = omega (arith, g.0)

the_other_edge_comes_last : edges_of (edge 97 122 2 ∷ []) 1 ≡ 2 ∷ 1 ∷ []
the_other_edge_comes_last = refl

-- ---- the order of a walk: a to z lead to one state, and all other values to another
one_state_is_in_order : AreInOrder always
one_state_is_in_order = record {
  met = λ p. 1;
  first = refl;
  before = λ p r e. omega (arith, slice_get_within always p r e);
  each = λ p r e. rw (← the_row p r e) (inl (omega arith, refl));
}

abbrev letters_to : ℕ → ℕ → List Row
letters_to p other = record { kind = Neither; tests = edge 97 122 p ∷ []; other = other; items = [] } ∷ state Neither 1 ∷ state Neither 2 ∷ []

abbrev met_by_letters : ℕ → ℕ
met_by_letters zero = 1
met_by_letters (suc p) = 3

letters_come_first : AreInOrder (letters_to 1 2)
letters_come_first = record { met = met_by_letters; first = refl; before = before; each = each }
  where
    before : (p : ℕ) (r : Row) → slice_get (letters_to 1 2) p ≡ Some r → p < met_by_letters p
    before zero r e = omega arith
    before (suc p) r e = omega (arith, slice_get_within (letters_to 1 2) (suc p) r e)

    each : (p : ℕ) (r : Row) → slice_get (letters_to 1 2) p ≡ Some r → AreNext (met_by_letters p) (edges_of r.tests r.other) (met_by_letters (suc p))
    each zero r e = let same : record { kind = Neither; tests = edge 97 122 1 ∷ []; other = 2; items = [] } ≡ r = cc in rw (← same) (inr (refl, inr (refl, refl)))
    each (suc zero) r e = let same : state Neither 1 ≡ r = cc in rw (← same) (inl (omega arith, refl))
    each (suc (suc zero)) r e = let same : state Neither 2 ≡ r = cc in rw (← same) (inl (omega arith, refl))
    each (suc (suc (suc p))) r e = absurd (let none : None ≡ Some r = e in cc)

all_others_do_not : ¬ AreInOrder (letters_to 2 1)
all_others_do_not h = not_next (h.met 0) (h.met 1) h.first (h.each 0 (record { kind = Neither; tests = edge 97 122 2 ∷ []; other = 1; items = [] }) refl)
  where
    not_next : (n m : ℕ) → n ≡ 1 → ¬ AreNext n (2 ∷ 1 ∷ []) m
    not_next n m first (inl g) = omega (arith, g.0, first)
    not_next n m first (inr g) = omega (arith, g.0, first)

-- a state that no edge leads to
a_state_is_not_met : ¬ AreInOrder (state Neither 0 ∷ state Neither 1 ∷ [])
a_state_is_not_met h = not_met (h.met 0) (h.met 1) h.first (h.each 0 (state Neither 0) refl) (h.before 1 (state Neither 1) refl)
  where
    not_met : (n m : ℕ) → n ≡ 1 → AreNext n (0 ∷ []) m → ¬ (1 < m)
    not_met n m first (inl g) l = omega (arith, g.1, first, l)
    not_met n m first (inr g) l = omega (arith, g.0, first)

-- ---- one of a kind
always_is_canonical : IsCanonical always
always_is_canonical = record {
  well_formed = always_fits;
  rejects = λ p r e. rw (← the_row p r e) (λ k. absurd (let clash : Accepts 0 ≡ Reject = k in cc), λ dead. absurd (no_answer_is_none 0 (sym (always_accepts []) ∙ at_state p r e dead)));
  edges = λ p r e. rw (← the_row p r e) tt;
  apart = one_state_is_apart;
  order = one_state_is_in_order;
}
  where
    at_state : (p : ℕ) (r : Row) → slice_get always p ≡ Some r → ((w : List ℕ) → answer_from always p w ≡ None) → answer_from always 0 [] ≡ None
    at_state zero r e dead = dead []
    at_state (suc p) r e dead = absurd (let none : None ≡ Some r = e in cc)

in_turn_is_not : ¬ IsCanonical in_turn
in_turn_is_not h = two_that_accept_all_are_not h.apart

waiting_in_vain_is_not : ¬ IsCanonical waits_in_vain
waiting_in_vain_is_not h = it_does_not_reject h.rejects
