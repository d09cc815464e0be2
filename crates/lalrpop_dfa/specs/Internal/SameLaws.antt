-- Equality of kinds, of states and of automata is an equivalence.
use Rattle.std.specs.Prelude.{◌≡◌, ℕ, true, refl}
use Rattle.std.specs.Cmp.{IsEquivalence}
use Rattle.std.proofs.lemmas.Cmp.{and_equiv, on_equiv, lists_equiv, nat_eq_equiv}
use Rattle.lalrpop_hir.specs.Range.{Range}
use Rattle.lalrpop_dfa.specs.Dfa.{Row, StoredState, bare}
use Rattle.lalrpop_dfa.specs.SameAutomata.{same_kind, same_test, same_state, same_row, same_automaton}
use Rattle.lalrpop_dfa.specs.declared.Kind.{Kind}
use Rattle.lalrpop_dfa.specs.declared.Kind.TheVariants.{Accepts, Reject, Neither}

kind_itself : (k : Kind) → same_kind k k ≡ true
kind_itself (Accepts i) = nat_eq_equiv.refl i
kind_itself Reject = refl
kind_itself Neither = refl

kind_back : (k l : Kind) → same_kind k l ≡ same_kind l k
kind_back (Accepts i) (Accepts j) = nat_eq_equiv.symm i j
kind_back (Accepts i) Reject = refl
kind_back (Accepts i) Neither = refl
kind_back Reject (Accepts j) = refl
kind_back Reject Reject = refl
kind_back Reject Neither = refl
kind_back Neither (Accepts j) = refl
kind_back Neither Reject = refl
kind_back Neither Neither = refl

kind_along : (k l m : Kind) → same_kind k l ≡ true → same_kind k m ≡ same_kind l m
kind_along (Accepts i) (Accepts j) (Accepts n) h = nat_eq_equiv.congr i j n h
kind_along (Accepts i) (Accepts j) Reject h = refl
kind_along (Accepts i) (Accepts j) Neither h = refl
kind_along (Accepts i) Reject m h = cc
kind_along (Accepts i) Neither m h = cc
kind_along Reject (Accepts j) m h = cc
kind_along Reject Reject m h = refl
kind_along Reject Neither m h = cc
kind_along Neither (Accepts j) m h = cc
kind_along Neither Reject m h = cc
kind_along Neither Neither m h = refl

kind_equiv : IsEquivalence same_kind
kind_equiv = record { refl = kind_itself; symm = kind_back; congr = kind_along }

pub state_equiv : IsEquivalence same_state
state_equiv = and_equiv (on_equiv (λ (r : Row). r.kind) kind_equiv) (on_equiv (λ (r : Row). r.other) nat_eq_equiv)

-- the same for states as automata store them
pub stored_equiv : IsEquivalence (λ (s t : StoredState). same_state (bare s) (bare t))
stored_equiv = on_equiv bare state_equiv

test_equiv : IsEquivalence same_test
test_equiv = and_equiv
    (and_equiv (on_equiv (λ (t : Range × ℕ). t.0.start) nat_eq_equiv) (on_equiv (λ (t : Range × ℕ). t.0.end) nat_eq_equiv))
    (on_equiv (λ (t : Range × ℕ). t.1) nat_eq_equiv)

row_equiv : IsEquivalence same_row
row_equiv = and_equiv state_equiv (on_equiv (λ (r : Row). r.tests) (lists_equiv test_equiv))

pub automaton_equiv : IsEquivalence same_automaton
automaton_equiv = lists_equiv row_equiv
