-- Equality of automata, by the numbers of states.
use Rattle.std.proofs.Common.{◌≡◌, ℕ, zero, suc, Bool, true, false, ◌&&◌, ◌==◌, ◌<◌, inl, inr, arith, List, [], ◌∷◌, length, slice_get, Some, Decides, refl, ap, subst}
use Rattle.std.proofs.lemmas.Bool.{and_parts, and_from}
use Rattle.std.proofs.lemmas.Bool.Decides.{Decides-eqb}
use Rattle.std.proofs.lemmas.Option.{slice_get_cases}
use Rattle.std.specs.Cmp.Lexicographic.{pointwise}
use lib.Pointwise.{pointwise_decides, pointwise_long}
use Rattle.lalrpop_hir.specs.Range.{Range}
use Rattle.lalrpop_dfa.specs.Dfa.{Row}
use Rattle.lalrpop_dfa.specs.SameAutomata.{same_kind, same_test, same_state, same_row, same_automaton, IsSameState, IsSameAutomaton}
use Rattle.lalrpop_dfa.specs.declared.Kind.{Kind}
use Rattle.lalrpop_dfa.specs.declared.Kind.TheVariants.{Accepts, Reject, Neither}

kind_told : (k l : Kind) → same_kind k l ≡ true → k ≡ l
kind_told (Accepts i) (Accepts j) h = ap (λ n. Accepts n) ((Decides-eqb i j).0 h)
kind_told (Accepts i) Reject h = cc
kind_told (Accepts i) Neither h = cc
kind_told Reject (Accepts j) h = cc
kind_told Reject Reject h = refl
kind_told Reject Neither h = cc
kind_told Neither (Accepts j) h = cc
kind_told Neither Reject h = cc
kind_told Neither Neither h = refl

kind_itself : (k : Kind) → same_kind k k ≡ true
kind_itself (Accepts i) = (Decides-eqb i i).1 refl
kind_itself Reject = refl
kind_itself Neither = refl

pub same_kind_decides : (k l : Kind) → Decides (same_kind k l) (k ≡ l)
same_kind_decides k l = (kind_told k l, λ e. subst (λ m. same_kind k m ≡ true) e (kind_itself k))

pub same_state_decides : (r s : Row) → Decides (same_state r s) (IsSameState r s)
same_state_decides r s = (
  (λ h. let both = and_parts (same_kind r.kind s.kind) (r.other == s.other) h in
      record { kind = (same_kind_decides r.kind s.kind).0 both.0; other = (Decides-eqb r.other s.other).0 both.1 }),
  (λ h. and_from (same_kind r.kind s.kind) (r.other == s.other) ((same_kind_decides r.kind s.kind).1 h.kind) ((Decides-eqb r.other s.other).1 h.other)),
)

test_told : (t u : Range × ℕ) → same_test t u ≡ true → t ≡ u
test_told t u h =
    let outer = and_parts ((t.0.start == u.0.start) && (t.0.end == u.0.end)) (t.1 == u.1) h in
    let inner = and_parts (t.0.start == u.0.start) (t.0.end == u.0.end) outer.0 in
    λ i. (record { start = (Decides-eqb t.0.start u.0.start).0 inner.0 i; end = (Decides-eqb t.0.end u.0.end).0 inner.1 i }, (Decides-eqb t.1 u.1).0 outer.1 i)

test_itself : (t : Range × ℕ) → same_test t t ≡ true
test_itself t = and_from ((t.0.start == t.0.start) && (t.0.end == t.0.end)) (t.1 == t.1)
    (and_from (t.0.start == t.0.start) (t.0.end == t.0.end) ((Decides-eqb t.0.start t.0.start).1 refl) ((Decides-eqb t.0.end t.0.end).1 refl))
    ((Decides-eqb t.1 t.1).1 refl)

same_test_decides : (t u : Range × ℕ) → Decides (same_test t u) (t ≡ u)
same_test_decides t u = (test_told t u, λ e. subst (λ v. same_test t v ≡ true) e (test_itself t))

-- what equal rows agree in
record IsSameRow (r s : Row) : Type 0 where
  state : IsSameState r s
  tests : r.tests ≡ s.tests

row_told : (r s : Row) → same_row r s ≡ true → IsSameRow r s
row_told r s h =
    let both = and_parts (same_state r s) (pointwise same_test r.tests s.tests) h in
    record { state = (same_state_decides r s).0 both.0; tests = (pointwise_decides same_test_decides r.tests s.tests).0 both.1 }

row_from : (r s : Row) → IsSameState r s → r.tests ≡ s.tests → same_row r s ≡ true
row_from r s state tests = and_from (same_state r s) (pointwise same_test r.tests s.tests) ((same_state_decides r s).1 state) ((pointwise_decides same_test_decides r.tests s.tests).1 tests)

rows_told : (d e : List Row) → same_automaton d e ≡ true → (p : ℕ) (r s : Row) → slice_get d p ≡ Some r → slice_get e p ≡ Some s → IsSameRow r s
rows_told [] e h p r s a b = cc
rows_told (x ∷ d) [] h p r s a b = cc
rows_told (x ∷ d) (y ∷ e) h zero r s a b =
    let here = and_parts (same_row x y) (same_automaton d e) h in
    let x_is : x ≡ r = cc in
    let y_is : y ≡ s = cc in
    subst (λ u. IsSameRow u s) x_is (subst (λ v. IsSameRow x v) y_is (row_told x y here.0))
rows_told (x ∷ d) (y ∷ e) h (suc p) r s a b = rows_told d e (and_parts (same_row x y) (same_automaton d e) h).1 p r s a b

rows_from : (d e : List Row) → IsSameAutomaton d e → same_automaton d e ≡ true
rows_from [] [] same = refl
rows_from [] (y ∷ e) same = absurd (let h = same.same_length in cc)
rows_from (x ∷ d) [] same = absurd (let h = same.same_length in cc)
rows_from (x ∷ d) (y ∷ e) same = and_from (same_row x y) (same_automaton d e)
    (row_from x y (same.states 0 x y refl refl) (same.tests 0 x y refl refl))
    (rows_from d e (record {
      same_length = let h = same.same_length in cc;
      states = λ p r s a b. same.states (suc p) r s a b;
      tests = λ p r s a b. same.tests (suc p) r s a b;
    }))

pub same_automaton_decides : (d e : List Row) → Decides (same_automaton d e) (IsSameAutomaton d e)
same_automaton_decides d e = (
  (λ h. record {
    same_length = pointwise_long same_row d e h;
    states = λ p r s a b. (rows_told d e h p r s a b).state;
    tests = λ p r s a b. (rows_told d e h p r s a b).tests;
  }),
  rows_from d e,
)

-- automata with the same number of states are equal if their states are equal at each number
pub all_same : (d e : List Row) → length d ≡ length e → ((p : ℕ) (r s : Row) → slice_get d p ≡ Some r → slice_get e p ≡ Some s → same_row r s ≡ true) → same_automaton d e ≡ true
all_same [] [] long f = refl
all_same [] (y ∷ e) long f = cc
all_same (x ∷ d) [] long f = cc
all_same (x ∷ d) (y ∷ e) long f = and_from (same_row x y) (same_automaton d e) (f 0 x y refl refl) (let shorter : length d ≡ length e = cc in all_same d e shorter (λ p r s a b. f (suc p) r s a b))

-- and differ if two of them differ
pub some_differ : (d e : List Row) (p : ℕ) → p < length d → p < length e → ((r s : Row) → slice_get d p ≡ Some r → slice_get e p ≡ Some s → false ≡ same_row r s) → same_automaton d e ≡ false
some_differ d e p within_d within_e differ = by_test (same_automaton d e) refl
  where
    row_at : (rows : List Row) → p < length rows → (r : Row) × (slice_get rows p ≡ Some r)
    row_at rows l = elim (slice_get_cases rows p).1 [ inl x ↦ (x.0, x.2) | inr past ↦ absurd (omega (arith, past.0)) ]

    by_test : (t : Bool) → same_automaton d e ≡ t → same_automaton d e ≡ false
    by_test true h =
        let r = row_at d within_d in
        let s = row_at e within_e in
        let same = rows_told d e h p r.0 s.0 r.1 s.1 in
        let yes : same_row r.0 s.0 ≡ true = row_from r.0 s.0 same.state same.tests in
        let no : false ≡ same_row r.0 s.0 = differ r.0 s.0 r.1 s.1 in
        cc
    by_test false h = h
