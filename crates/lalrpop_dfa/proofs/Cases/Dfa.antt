-- Cases of specs/Dfa.antt: an automaton of the literal `a`, with the states START, one that accepts, and a reject state.
use Rattle.std.proofs.Common.{◌≡◌, ◌≢◌, ℕ, zero, suc, ◌<◌, ◌≤◌, ◌⊎◌, inl, inr, List, [], ◌∷◌, get_or, Some, None, slice_index, refl, sym, ap, subst, ◌∙◌, true, false, arith}
use Rattle.std.specs.Prelude.{slice_get, nat_le, IsSomeAnd}
use Rattle.std.specs.List.{Contains}
use Rattle.std.proofs.lemmas.Bool.Decides.{leb_tells, nat_tests}
use Rattle.lalrpop_hir.specs.Range.{Range}
use Rattle.lalrpop_hir.specs.Tree.{Tree, literal}
use Rattle.lalrpop_hir.specs.Language.{Matches}
use Rattle.lalrpop_hir.specs.Winners.{TreeMatches, Matched}
use Rattle.lalrpop_hir.specs.Word.{IsWord}
use Rattle.lalrpop_dfa.specs.Dfa.{Row, StoredState, IsStored, AreStored, edge_target, step, run, after, IsRightKind, IsReject, Recognizes, RecognizesAll, AreAscendingTests, IsWellFormed}
use Rattle.lalrpop_dfa.specs.declared.Kind.TheVariants.{Accepts, Reject, Neither}

abbrev a : Tree
a = literal (97 ∷ [])

-- the range from the first value to the second
abbrev pub between : ℕ → ℕ → Range
between s e = record { start = s; end = e }

abbrev accepting : Row
accepting = record { kind = Accepts 0; tests = []; other = 2; items = (0, 0) ∷ [] }

abbrev rejecting : Row
rejecting = record { kind = Reject; tests = []; other = 2; items = (0, 1) ∷ [] }

abbrev pub automaton_of_a : List Row
automaton_of_a =
    record { kind = Neither; tests = (between 97 97, 1) ∷ []; other = 2; items = (0, 2) ∷ (0, 3) ∷ [] } ∷ accepting ∷ rejecting ∷ []

-- the same, but that START accepts
abbrev accepts_at_start : List Row
accepts_at_start =
    record { kind = Accepts 0; tests = (between 97 97, 1) ∷ []; other = 2; items = (0, 2) ∷ (0, 3) ∷ [] } ∷ accepting ∷ rejecting ∷ []

-- the same, but the reject state is left
abbrev leaves_reject : List Row
leaves_reject =
    record { kind = Neither; tests = (between 97 97, 1) ∷ []; other = 2; items = (0, 2) ∷ (0, 3) ∷ [] } ∷ accepting
    ∷ record { kind = Reject; tests = []; other = 0; items = (0, 1) ∷ [] } ∷ []

-- ---- states as they are kept

abbrev starting : Row
starting = record { kind = Neither; tests = (between 97 97, 1) ∷ []; other = 2; items = (0, 2) ∷ (0, 3) ∷ [] }

-- the test edge of START is the first of all, and no other state has one
abbrev stored_starting : StoredState
stored_starting = record { kind = Neither; other = 2; items = (0, 2) ∷ (0, 3) ∷ []; first = 0; count = 1 }

abbrev stored_accepting : StoredState
stored_accepting = record { kind = Accepts 0; other = 2; items = (0, 0) ∷ []; first = 1; count = 0 }

abbrev stored_rejecting : StoredState
stored_rejecting = record { kind = Reject; other = 2; items = (0, 1) ∷ []; first = 1; count = 0 }

-- the list says where its edges are, the state how many there are
state_is_stored : IsStored starting stored_starting × IsStored starting (record stored_starting { first = 7 })
state_is_stored = (record { kind = refl; other = refl; items = refl; count = refl }, record { kind = refl; other = refl; items = refl; count = refl })

state_with_two_edges_is_another : ¬ IsStored starting (record stored_starting { count = 2 })
state_with_two_edges_is_another s = let e : 2 ≡ 1 = s.count in omega (arith, e)

state_of_another_kind_is_another : ¬ IsStored accepting (record stored_accepting { kind = Accepts 1 })
state_of_another_kind_is_another s = let e : Accepts 1 ≡ Accepts 0 = s.kind in absurd (cc)

state_with_another_edge_is_another : ¬ IsStored rejecting (record stored_rejecting { other = 0 })
state_with_another_edge_is_another s = let e : 0 ≡ 2 = s.other in omega (arith, e)

state_with_other_items_is_another : ¬ IsStored rejecting (record stored_rejecting { items = [] })
state_with_other_items_is_another s = let none : List (ℕ × ℕ) = [] in let e : none ≡ (0, 1) ∷ [] = s.items in absurd (cc)

states_are_stored : AreStored automaton_of_a (stored_starting ∷ stored_accepting ∷ stored_rejecting ∷ [])
states_are_stored = record { same_length = refl; each = each }
  where
    same : (r0 r : Row) (s0 s : StoredState) → Some r0 ≡ Some r → Some s0 ≡ Some s → IsStored r0 s0 → IsStored r s
    same r0 r s0 s e f h = let g : r0 ≡ r = cc in let k : s0 ≡ s = cc in subst (λ x. IsStored x s) g (subst (λ y. IsStored r0 y) k h)

    each : (p : ℕ) (r : Row) (s : StoredState) → slice_get automaton_of_a p ≡ Some r → slice_get (stored_starting ∷ stored_accepting ∷ stored_rejecting ∷ []) p ≡ Some s → IsStored r s
    each zero r s e f = same starting r stored_starting s e f (record { kind = refl; other = refl; items = refl; count = refl })
    each (suc zero) r s e f = same accepting r stored_accepting s e f (record { kind = refl; other = refl; items = refl; count = refl })
    each (suc (suc zero)) r s e f = same rejecting r stored_rejecting s e f (record { kind = refl; other = refl; items = refl; count = refl })
    each (suc (suc (suc p))) r s e f = absurd (cc)

-- all of them, and in their order
missing_state_is_not_stored : ¬ AreStored automaton_of_a (stored_starting ∷ stored_accepting ∷ [])
missing_state_is_not_stored a = let e : 2 ≡ 3 = a.same_length in omega (arith, e)

swapped_states_are_not_stored : ¬ AreStored (accepting ∷ rejecting ∷ []) (stored_rejecting ∷ stored_accepting ∷ [])
swapped_states_are_not_stored a = let e : Reject ≡ Accepts 0 = (a.each 0 accepting stored_rejecting refl refl).kind in absurd (cc)

-- ---- where words lead

-- a value of a range leads where its test does, any other value where the other edge does
value_of_a_range_leads_to_its_target : edge_target ((between 97 99, 1) ∷ []) 2 99 ≡ 1
value_of_a_range_leads_to_its_target = refl

other_value_leads_to_the_other_target : edge_target ((between 97 99, 1) ∷ []) 2 100 ≡ 2
other_value_leads_to_the_other_target = refl

steps_of_the_automaton : (step automaton_of_a 0 97 ≡ 1) × (step automaton_of_a 0 98 ≡ 2) × (step automaton_of_a 1 97 ≡ 2)
steps_of_the_automaton = (refl, refl, refl)

-- the empty word leads to the first state, `a` to the one that accepts, `aa` to the reject state
words_lead_to_states : (after automaton_of_a [] ≡ 0) × (after automaton_of_a (97 ∷ []) ≡ 1) × (after automaton_of_a (97 ∷ 97 ∷ []) ≡ 2)
words_lead_to_states = (refl, refl, refl)

-- from a state in between
run_from_another_state : (run automaton_of_a 1 [] ≡ 1) × (run automaton_of_a 1 (97 ∷ []) ≡ 2)
run_from_another_state = (refl, refl)

-- ---- what states say

only_a_matches : (w : List ℕ) (i : ℕ) → TreeMatches (a ∷ []) w i → (w ≡ 97 ∷ []) × (i ≡ 0)
only_a_matches w zero h = (same a h.0 h.1.0 h.1.1, refl)
  where
    same : (s r : Tree) → Some s ≡ Some r → Matches r w → Matches s w
    same s r e m = let f : r ≡ s = cc in subst (λ x. Matches x w) f m
only_a_matches w (suc n) h = let e : None ≡ Some h.0 = h.1.0 in absurd (cc)

zeros : (j : ℕ) → slice_index (0 ∷ []) j ≡ 0
zeros zero = refl
zeros (suc j) = refl

no_match_but_a : (w : List ℕ) → w ≢ 97 ∷ [] → ¬ Matched (a ∷ []) w
no_match_but_a w n m = n (only_a_matches w m.0 m.1).0

-- of `a`, an accepting state is right and a reject state is wrong
accepting_state_is_right_of_a : IsRightKind (a ∷ []) (0 ∷ []) (97 ∷ []) (Accepts 0)
accepting_state_is_right_of_a = (((a, (refl, refl)), λ j h. omega (arith, zeros j)), λ j t. (only_a_matches (97 ∷ []) j t.0).1)

reject_state_is_wrong_of_a : ¬ IsRightKind (a ∷ []) (0 ∷ []) (97 ∷ []) Reject
reject_state_is_wrong_of_a n = n (0, (a, (refl, refl)))

-- of the empty word, it is the other way round
reject_state_is_right_of_nothing : IsRightKind (a ∷ []) (0 ∷ []) [] Reject
reject_state_is_right_of_nothing = no_match_but_a [] (λ e. cc)

accepting_state_is_wrong_of_nothing : ¬ IsRightKind (a ∷ []) (0 ∷ []) [] (Accepts 0)
accepting_state_is_wrong_of_nothing top = let e = (only_a_matches [] 0 top.0.0).0 in absurd (cc)

-- the third state is a reject state; the first isn't, and there is no fourth
third_state_is_a_reject_state : IsReject automaton_of_a 2
third_state_is_a_reject_state = refl

first_state_is_no_reject_state : ¬ IsReject automaton_of_a 0
first_state_is_no_reject_state h = let e : Neither ≡ Reject = h in absurd (cc)

missing_state_is_no_reject_state : ¬ IsReject automaton_of_a 3
missing_state_is_no_reject_state h = h

-- ---- that an automaton recognizes trees

reject_stays : (w : List ℕ) → run automaton_of_a 2 w ≡ 2
reject_stays [] = refl
reject_stays (c ∷ w) = reject_stays w

first_step : (c : ℕ) → ((c ≡ 97) × (step automaton_of_a 0 c ≡ 1)) ⊎ ((c ≢ 97) × (step automaton_of_a 0 c ≡ 2))
first_step c = by_tests (leb_tells 97 c) (leb_tells c 97)
  where
    by_tests : ((nat_le 97 c ≡ true) × (97 ≤ c)) ⊎ ((nat_le 97 c ≡ false) × (c < 97)) → ((nat_le c 97 ≡ true) × (c ≤ 97)) ⊎ ((nat_le c 97 ≡ false) × (97 < c)) → ((c ≡ 97) × (step automaton_of_a 0 c ≡ 1)) ⊎ ((c ≢ 97) × (step automaton_of_a 0 c ≡ 2))
    by_tests (inr h) g = inr ((λ e. omega (arith, h.1, e)), rw h.0 refl)
    by_tests (inl h) (inr g) = inr ((λ e. omega (arith, g.1, e)), rw (h.0, g.0) refl)
    by_tests (inl h) (inl g) = inl (omega (arith, h.1, g.1), rw (h.0, g.0) refl)

abbrev IsRightAt : List ℕ → ℕ → Type 0
IsRightAt w p = IsSomeAnd (slice_get automaton_of_a p) (λ r. IsRightKind (a ∷ []) (0 ∷ []) w r.kind)

right_after : (w : List ℕ) → IsRightAt w (after automaton_of_a w)
right_after [] = reject_state_is_right_of_nothing
right_after (c ∷ w) = by_step (first_step c)
  where
    by_step : ((c ≡ 97) × (step automaton_of_a 0 c ≡ 1)) ⊎ ((c ≢ 97) × (step automaton_of_a 0 c ≡ 2)) → IsRightAt (c ∷ w) (run automaton_of_a (step automaton_of_a 0 c) w)
    by_step (inr h) =
        subst (IsRightAt (c ∷ w)) (sym (reject_stays w) ∙ ap (λ p. run automaton_of_a p w) (sym h.1)) (no_match_but_a (c ∷ w) (λ e. h.0 (ap (λ v. get_or v 0 0) e)))
    by_step (inl h) = subst (λ p. IsRightAt (c ∷ w) (run automaton_of_a p w)) (sym h.1) (by_rest w)
      where
        by_rest : (v : List ℕ) → IsRightAt (c ∷ v) (run automaton_of_a 1 v)
        by_rest [] = subst (λ d. IsRightAt (d ∷ []) 1) (sym h.0) accepting_state_is_right_of_a
        by_rest (d ∷ v) = subst (IsRightAt (c ∷ d ∷ v)) (sym (reject_stays v)) (no_match_but_a (c ∷ d ∷ v) (λ e. cc))

-- it recognizes `a`, whatever the numbers are
automaton_stands_for_all : RecognizesAll automaton_of_a (a ∷ []) (0 ∷ [])
automaton_stands_for_all = record { kinds = right_after; stays = stays }
  where
    stays : (p c : ℕ) → IsReject automaton_of_a p → IsReject automaton_of_a (step automaton_of_a p c)
    stays zero c h = let e : Neither ≡ Reject = h in absurd (cc)
    stays (suc zero) c h = let e : Accepts 0 ≡ Reject = h in absurd (cc)
    stays (suc (suc zero)) c h = refl
    stays (suc (suc (suc p))) c h = absurd h

-- and so after words
automaton_stands : Recognizes automaton_of_a (a ∷ []) (0 ∷ [])
automaton_stands = record { kinds = λ w word. automaton_stands_for_all.kinds w; stays = λ p c fits. automaton_stands_for_all.stays p c }

-- and doesn't if a kind is wrong, or the reject state is left
wrong_kind_does_not_stand : ¬ Recognizes accepts_at_start (a ∷ []) (0 ∷ [])
wrong_kind_does_not_stand s = accepting_state_is_wrong_of_nothing (s.kinds [] tt)

reject_state_that_is_left_does_not_stand : ¬ Recognizes leaves_reject (a ∷ []) (0 ∷ [])
reject_state_that_is_left_does_not_stand s = let e : Neither ≡ Reject = s.stays 2 97 (omega arith) refl in absurd (cc)

-- ---- numbers that don't fit 32 bits

-- they alone lead out of the reject state, where it starts
abbrev leaves_by_large : List Row
leaves_by_large = record { kind = Reject; tests = (between 0 4294967295, 0) ∷ []; other = 1; items = [] } ∷ accepting ∷ []

stays_by_small : (c : ℕ) → c ≤ 4294967295 → step leaves_by_large 0 c ≡ 0
stays_by_small c fits =
    let above : nat_le 0 c ≡ true = grind (arith, nat_tests) in
    let below : nat_le c 4294967295 ≡ true = grind (arith, nat_tests) in
    rw (above, below) refl

nothing_matched : (w : List ℕ) → ¬ Matched [] w
nothing_matched w m = let e : None ≡ Some m.1.0 = m.1.1.0 in absurd (cc)

-- so it recognizes no trees, since they are in no word
large_numbers_are_in_no_word : Recognizes leaves_by_large [] []
large_numbers_are_in_no_word = record { kinds = λ w word. subst (λ p. IsSomeAnd (slice_get leaves_by_large p) (λ r. IsRightKind [] [] w r.kind)) (sym (at_start w word)) (nothing_matched w); stays = stays }
  where
    at_start : (w : List ℕ) → IsWord w → after leaves_by_large w ≡ 0
    at_start [] word = refl
    at_start (c ∷ w) word = ap (λ p. run leaves_by_large p w) (stays_by_small c word.0) ∙ at_start w word.1

    stays : (p c : ℕ) → c ≤ 4294967295 → IsReject leaves_by_large p → IsReject leaves_by_large (step leaves_by_large p c)
    stays zero c fits h = subst (IsReject leaves_by_large) (sym (stays_by_small c fits)) refl
    stays (suc zero) c fits h = let e : Accepts 0 ≡ Reject = h in absurd (cc)
    stays (suc (suc p)) c fits h = absurd h

-- but not of all numbers
large_numbers_count_among_all : ¬ RecognizesAll leaves_by_large [] []
large_numbers_count_among_all s = let only = s.kinds (4294967296 ∷ []) in nothing_matched (4294967296 ∷ []) (0, only.0.0)

-- ---- tables

-- a-c and d-f may be side by side, and c lies in only one range
neighbours_ascend : AreAscendingTests ((between 97 99, 1) ∷ (between 100 102, 2) ∷ [])
neighbours_ascend = (omega arith, omega arith, omega arith)

overlapping_tests_do_not_ascend : ¬ AreAscendingTests ((between 97 99, 1) ∷ (between 99 102, 2) ∷ [])
overlapping_tests_do_not_ascend h = omega (arith, h.1)

empty_range_is_no_test : ¬ AreAscendingTests ((between 99 97, 1) ∷ [])
empty_range_is_no_test h = omega arith

automaton_is_a_table : IsWellFormed automaton_of_a
automaton_is_a_table = record { some = omega arith; ascending = ascending; tests_in = tests_in; others_in = others_in }
  where
    ascending : (p : ℕ) (r : Row) → slice_get automaton_of_a p ≡ Some r → AreAscendingTests r.tests
    ascending zero r e = subst AreAscendingTests (let f : (between 97 97, 1) ∷ [] ≡ r.tests = cc in f) (omega arith)
    ascending (suc zero) r e = subst AreAscendingTests (let f : [] ≡ r.tests = cc in f) tt
    ascending (suc (suc zero)) r e = subst AreAscendingTests (let f : [] ≡ r.tests = cc in f) tt
    ascending (suc (suc (suc p))) r e = absurd (cc)

    tests_in : (p : ℕ) (r : Row) (t : Range × ℕ) → slice_get automaton_of_a p ≡ Some r → Contains r.tests t → t.1 < 3
    tests_in zero r t e h = by_place (subst (λ ts. Contains ts t) (let f : r.tests ≡ (between 97 97, 1) ∷ [] = cc in f) h)
      where
        by_place : Contains ((between 97 97, 1) ∷ []) t → t.1 < 3
        by_place (zero, l, g) = let n : 1 ≡ t.1 = ap (λ (u : Range × ℕ). u.1) g in omega (arith, n)
        by_place (suc k, l, g) = absurd (omega arith)
    tests_in (suc zero) r t e h = let g = subst (λ ts. Contains ts t) (let f : r.tests ≡ [] = cc in f) h in absurd (omega (arith, g.1))
    tests_in (suc (suc zero)) r t e h = let g = subst (λ ts. Contains ts t) (let f : r.tests ≡ [] = cc in f) h in absurd (omega (arith, g.1))
    tests_in (suc (suc (suc p))) r t e h = absurd (cc)

    others_in : (p : ℕ) (r : Row) → slice_get automaton_of_a p ≡ Some r → r.other < 3
    others_in zero r e = let f : r.other ≡ 2 = cc in omega (arith, f)
    others_in (suc zero) r e = let f : r.other ≡ 2 = cc in omega (arith, f)
    others_in (suc (suc zero)) r e = let f : r.other ≡ 2 = cc in omega (arith, f)
    others_in (suc (suc (suc p))) r e = absurd (cc)

no_states_are_no_table : ¬ IsWellFormed []
no_states_are_no_table t = omega (arith, t.some)

-- one state, whose other edge leads to a second
edge_to_nowhere_is_in_no_table : ¬ IsWellFormed (record { kind = Neither; tests = []; other = 1; items = [] } ∷ [])
edge_to_nowhere_is_in_no_table t = let l : 1 < 1 = t.others_in 0 _ refl in omega (arith, l)

test_to_nowhere_is_in_no_table : ¬ IsWellFormed (record { kind = Neither; tests = (between 97 97, 1) ∷ []; other = 0; items = [] } ∷ [])
test_to_nowhere_is_in_no_table t = let l : 1 < 1 = t.tests_in 0 _ (between 97 97, 1) refl (0, omega arith, refl) in omega (arith, l)
