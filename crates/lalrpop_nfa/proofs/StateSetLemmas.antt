-- The lists of states and marks that the run of one automaton grows.
use Rattle.std.proofs.Common.{◌≡◌, ℕ, ◌+◌, ◌<◌, ◌≤◌, ◌⊎◌, ⊎_elim, inl, inr, List, [], ◌∷◌, ◌++◌, length, get_or, set, cond, Bool, true, false, refl, sym, ap, subst, ◌∙◌, arith, append_assoc, length-append, get_or-set_other, get_or-set_same}
use Rattle.std.specs.List.{Contains, count_by, sum_by, filter}
use Rattle.std.proofs.lemmas.Bool.{cases_eq, cases_lt, eq-eqb, eqb-true}
use Rattle.std.proofs.lemmas.List.Elements.{Contains-append_left, Contains-push, Contains-push_cases, Contains-get_or}
use Rattle.std.proofs.lemmas.List.Sums.{sum_by-set}
use Rattle.std.proofs.lemmas.List.{append-nil, get_or_default, get_or_past, get_or_append_left}
use Rattle.lalrpop_nfa.specs.Walk.{leaves}
use Rattle.lalrpop_hir.specs.Range.{Covers}
use Rattle.lalrpop_hir.specs.Tree.{Tree}
use Rattle.lalrpop_hir.specs.Language.{Matches}
use Rattle.lalrpop_nfa.specs.Graph.{Graph, Lists}
use Rattle.lalrpop_nfa.specs.Path.{Path, here, epsilon, read, otherwise, noop, test, other, IsUntested}
use Rattle.lalrpop_nfa.specs.Internal.Reads.{Tests, Reads}
use Rattle.lalrpop_hir.specs.States.{start_state, accept_state, reject_state}
use Rattle.lalrpop_nfa.specs.Compiled.{IsCompiled}
use Rattle.lalrpop_nfa.specs.Internal.StateSets.{StateList, only, IsStateSet, IsGrown, IsEpsilonEdge, IsClosed, IsClosure, IsMove, Accepts, Rejects}
use Rattle.lalrpop_nfa.specs.declared.edge.Edge.{Edge}
use Rattle.lalrpop_nfa.proofs.PathLemmas.{path_join}
use Rattle.lalrpop_hir.proofs.Contained.{contains_none, contains_first, contains_later, contains_cases, contains_only, contains_at, filter_in, filter_out}

-- ---- marks

count_marked : (marks : List Bool) (i : ℕ) → i < length marks → get_or marks i false ≡ false
    → count_by (λ b. b) (set marks i true) ≡ count_by (λ b. b) marks + 1
count_marked marks i l e =
    let changed : sum_by (λ (b : Bool). cond b 1 0) (set marks i true) + cond (get_or marks i false) 1 0 ≡ sum_by (λ (b : Bool). cond b 1 0) marks + 1 =
    sum_by-set (λ (b : Bool). cond b 1 0) marks i true false l in
    omega (arith, rw e at changed)

-- what was read at a place
pub read_mark : (marks : List Bool) (i : ℕ) (b x : Bool) → i < length marks → b ≡ get_or marks i b → b ≡ x → get_or marks i false ≡ x
read_mark marks i b x l e is = get_or_default marks i false b l ∙ sym e ∙ is

marked_within : (marks : List Bool) (q : ℕ) → get_or marks q false ≡ true → q < length marks
marked_within marks q e =
    ⊎_elim (λ (l : q < length marks). l) (λ (l : length marks ≤ q). let none : get_or marks q false ≡ false = get_or_past marks q false l in absurd cc) (cases_lt q (length marks))

-- a listed state is one that there is room for
pub listed_within : (states : List ℕ) (marks : List Bool) → IsStateSet states marks → (q : ℕ) → Contains states q → q < length marks
listed_within states marks h q k = marked_within marks q ((h.marked q).0 k)

-- a state read from the list, in the words of the call that returns it
pub read_at : (states items : List ℕ) (k p : ℕ) → items ≡ states → k < length items → p ≡ get_or items k p → p ≡ get_or states k 0
read_at states items k p same l at = at ∙ get_or_default items k p 0 l ∙ ap (λ xs. get_or xs k 0) same

pub state_set_push : (states : List ℕ) (marks : List Bool) (i : ℕ) → IsStateSet states marks → i < length marks → get_or marks i false ≡ false
    → IsStateSet (states ++ i ∷ []) (set marks i true)
state_set_push states marks i h l e = record {
  marked = λ q. (λ k. to_mark q k, λ m. from_mark q m);
  once = length-append states (i ∷ []) ∙ ap (λ n. n + 1) h.once ∙ sym (count_marked marks i l e);
}
  where
    to_mark : (q : ℕ) → Contains (states ++ i ∷ []) q → get_or (set marks i true) q false ≡ true
    to_mark q k =
        ⊎_elim (λ (same : q ≡ i). rw (same, get_or-set_same))
        (λ (other : q ≡ i → ⊥). rw get_or-set_other (⊎_elim (λ (old : Contains states q). (h.marked q).0 old) (λ (x : i ≡ q). absurd (other (sym x))) (Contains-push_cases states i q k)))
        (cases_eq q i)

    from_mark : (q : ℕ) → get_or (set marks i true) q false ≡ true → Contains (states ++ i ∷ []) q
    from_mark q m =
        ⊎_elim (λ (same : q ≡ i). rw same (Contains-push states i))
        (λ (other : q ≡ i → ⊥). Contains-append_left states (i ∷ []) q ((h.marked q).1 (rw get_or-set_other at m)))
        (cases_eq q i)

-- ---- growth

pub grown_same : (old : StateList) (T : ℕ → Type 0) → ((q : ℕ) → T q → q < old.room → Contains old.states q) → IsGrown old old T
grown_same old T h = record { room = refl; kept = ([], sym (append-nil old.states)); sound = λ q k. inl k; complete = h }

pub grown_push : (old new : StateList) (q : ℕ) → new.states ≡ old.states ++ q ∷ [] → new.room ≡ old.room → IsGrown old new (λ x. x ≡ q)
grown_push old new q states room = record {
  room = room;
  kept = (q ∷ [], states);
  sound = λ x k. ⊎_elim (λ (a : Contains old.states x). inl a) (λ (a : q ≡ x). inr (sym a)) (Contains-push_cases old.states q x (rw states at k));
  complete = λ x same l. rw (states, same) (Contains-push old.states q);
}

pub grown_iff : (old new : StateList) (T U : ℕ → Type 0) → IsGrown old new T → ((q : ℕ) → T q → U q) → ((q : ℕ) → U q → T q) → IsGrown old new U
grown_iff old new T U h to from = record {
  room = h.room;
  kept = h.kept;
  sound = λ q k. ⊎_elim (λ (a : Contains old.states q). inl a) (λ (a : T q). inr (to q a)) (h.sound q k);
  complete = λ q u l. h.complete q (from q u) l;
}

pub grown_keeps : (old new : StateList) (T : ℕ → Type 0) (q : ℕ) → IsGrown old new T → Contains old.states q → Contains new.states q
grown_keeps old new T q h k = rw h.kept.1 (Contains-append_left old.states h.kept.0 q k)

-- one growth after another
pub grown_twice : (old mid new : StateList) (T U : ℕ → Type 0) → IsGrown old mid T → IsGrown mid new U → IsGrown old new (λ q. T q ⊎ U q)
grown_twice old mid new T U g h = record {
  room = h.room ∙ g.room;
  kept = (g.kept.0 ++ h.kept.0, h.kept.1 ∙ ap (λ xs. xs ++ h.kept.0) g.kept.1 ∙ append_assoc old.states g.kept.0 h.kept.0);
  sound = λ q k.
      ⊎_elim (λ (a : Contains mid.states q). ⊎_elim (λ (b : Contains old.states q). inl b) (λ (b : T q). inr (inl b)) (g.sound q a))
      (λ (a : U q). inr (inr a))
      (h.sound q k);
  complete = λ q t l.
      ⊎_elim (λ (a : T q). grown_keeps mid new U q h (g.complete q a l)) (λ (a : U q). h.complete q a (rw g.room l)) t;
}

-- ---- a loop over the edges that leave a state, which adds the ends of the edges that `want` holds of

-- the edges of the list from the state that are wanted and lead to q
abbrev pub Ends : {L : Type 0} → List (Edge L) → ℕ → (Edge L → Type 0) → ℕ → Type 0
Ends {L} all from want q = (x : Edge L) × (Contains all x × (x.from ≡ from) × want x × (x.to ≡ q))

pub record IsGoing {L : Type 0} (from : ℕ) (all rest : List (Edge L)) (want : Edge L → Type 0) (old now : StateList) : Type 0 where
  pub inside : (x : Edge L) → Contains rest x → Contains all x × (x.from ≡ from)
  pub room : now.room ≡ old.room
  pub kept : (more : List ℕ) × (now.states ≡ old.states ++ more)
  pub sound : (q : ℕ) → Contains now.states q → Contains old.states q ⊎ Ends all from want q
  pub passed : (x : Edge L) → Contains all x → x.from ≡ from → want x → Contains rest x ⊎ (x.to < old.room → Contains now.states x.to)

pub going_start : {L : Type 0} (from : ℕ) (all : List (Edge L)) (want : Edge L → Type 0) (old : StateList) → IsGoing from all (filter (leaves from) all) want old old
going_start {L} from all want old = record {
  inside = λ x k. let f = filter_out (leaves from) all x k in (f.0, eqb-true x.from from f.1);
  room = refl;
  kept = ([], sym (append-nil old.states));
  sound = λ q k. inl k;
  passed = λ x k e w. inl (filter_in (leaves from) all x k (eq-eqb x.from from e));
}

module _ {L : Type 0} (from : ℕ) (all rest later : List (Edge L)) (want : Edge L → Type 0) (old now : StateList) (x : Edge L) where
  later_inside : IsGoing from all rest want old now → rest ≡ x ∷ later → (y : Edge L) → Contains later y → Contains all y × (y.from ≡ from)
  later_inside g e y k = g.inside y (rw e (contains_later x later y k))

  pub going_more : (new : StateList) → IsGoing from all rest want old now → rest ≡ x ∷ later → want x → IsGrown now new (λ q. q ≡ x.to)
      → IsGoing from all later want old new
  going_more new g e w h =
      let here : Contains rest x = rw e (contains_first x later) in
      record {
        inside = later_inside g e;
        room = h.room ∙ g.room;
        kept = (g.kept.0 ++ h.kept.0, h.kept.1 ∙ ap (λ xs. xs ++ h.kept.0) g.kept.1 ∙ append_assoc old.states g.kept.0 h.kept.0);
        sound = λ q k.
            ⊎_elim (λ (a : Contains now.states q). g.sound q a)
            (λ (a : q ≡ x.to). let i = g.inside x here in inr (x, (i.0, i.1, w, sym a)))
            (h.sound q k);
        passed = λ y k f v.
            ⊎_elim (λ (a : Contains rest y).
            ⊎_elim (λ (b : x ≡ y). inr (λ l. h.complete y.to (ap (λ (z : Edge L). z.to) (sym b)) (rw g.room l))) (λ (b : Contains later y). inl b) (contains_cases x later y (rw e at a)))
            (λ (a : y.to < old.room → Contains now.states y.to). inr (λ l. grown_keeps now new (λ q. q ≡ x.to) y.to h (a l)))
            (g.passed y k f v);
      }

  pub going_past : IsGoing from all rest want old now → rest ≡ x ∷ later → ¬ want x → IsGoing from all later want old now
  going_past g e w = record {
    inside = later_inside g e;
    room = g.room;
    kept = g.kept;
    sound = g.sound;
    passed = λ y k f v.
        ⊎_elim (λ (a : Contains rest y).
        ⊎_elim (λ (b : x ≡ y). absurd (w (subst want (sym b) v))) (λ (b : Contains later y). inl b) (contains_cases x later y (rw e at a)))
        (λ (a : y.to < old.room → Contains now.states y.to). inr a)
        (g.passed y k f v);
  }

pub going_end : {L : Type 0} (from : ℕ) (all rest : List (Edge L)) (want : Edge L → Type 0) (old now : StateList) → IsGoing from all rest want old now
    → rest ≡ [] → IsGrown old now (Ends all from want)
going_end {L} from all rest want old now g e = record {
  room = g.room;
  kept = g.kept;
  sound = g.sound;
  complete = λ q t l.
      let x = t.0 in
      ⊎_elim (λ (a : Contains rest x). absurd (contains_none x (rw e at a)))
      (λ (a : x.to < old.room → Contains now.states x.to). subst (Contains now.states) t.1.3 (a (rw t.1.3 l)))
      (g.passed x t.1.0 t.1.1 t.1.2);
}

-- the ends of edges of each kind
pub ends_epsilon : (e : Lists) (from q : ℕ) → Ends e.noops from (λ x. Unit {0}) q → IsEpsilonEdge e from q
ends_epsilon e from q t =
    let x = t.0 in
    subst (λ p. Contains e.noops (noop p q)) t.1.1 (subst (λ r. Contains e.noops (noop x.from r)) t.1.3 t.1.0)

pub epsilon_ends : (e : Lists) (from q : ℕ) → IsEpsilonEdge e from q → Ends e.noops from (λ x. Unit {0}) q
epsilon_ends e from q k = (noop from q, (k, refl, tt, refl))

pub ends_other : (e : Lists) (from q : ℕ) → Ends e.others from (λ x. Unit {0}) q → Contains e.others (other from q)
ends_other e from q t =
    let x = t.0 in
    subst (λ p. Contains e.others (other p q)) t.1.1 (subst (λ r. Contains e.others (other x.from r)) t.1.3 t.1.0)

pub other_ends : (e : Lists) (from q : ℕ) → Contains e.others (other from q) → Ends e.others from (λ x. Unit {0}) q
other_ends e from q k = (other from q, (k, refl, tt, refl))

pub ends_test : (e : Lists) (from c q : ℕ) → Ends e.tests from (λ x. Covers x.label c) q → Tests e from c q
ends_test e from c q t =
    let x = t.0 in
    (x.label, (subst (λ p. Contains e.tests (test p x.label q)) t.1.1 (subst (λ r. Contains e.tests (test x.from x.label r)) t.1.3 t.1.0), t.1.2))

pub test_ends : (e : Lists) (from c q : ℕ) → Tests e from c q → Ends e.tests from (λ x. Covers x.label c) q
test_ends e from c q t = (test from t.0 q, (t.1.0, refl, t.1.1, refl))

-- a test covers the value: only the tests count
pub grown_tested : (e : Lists) (from c : ℕ) (old new : StateList) → (q : ℕ) × Tests e from c q → IsGrown old new (Ends e.tests from (λ x. Covers x.label c))
    → IsGrown old new (Reads e from c)
grown_tested e from c old new some h =
    grown_iff old new (Ends e.tests from (λ x. Covers x.label c)) (Reads e from c) h (λ q t. inl (ends_test e from c q t)) (λ q t.
    ⊎_elim (λ (a : Tests e from c q). test_ends e from c q a)
    (λ (a : Contains e.others (other from q) × IsUntested e from c). absurd (a.1 some.1.0 some.0 some.1.1.0 some.1.1.1))
    t)

-- none does: nothing was added for the tests, and the other edges count
pub grown_untested : (e : Lists) (from c : ℕ) (old mid new : StateList) → IsUntested e from c → IsGrown old mid (Ends e.tests from (λ x. Covers x.label c))
    → IsGrown mid new (Ends e.others from (λ x. Unit {0})) → IsGrown old new (Reads e from c)
grown_untested e from c old mid new none g h =
    grown_iff old new (λ q. Ends e.tests from (λ x. Covers x.label c) q ⊎ Ends e.others from (λ x. Unit {0}) q) (Reads e from c)
    (grown_twice old mid new (Ends e.tests from (λ x. Covers x.label c)) (Ends e.others from (λ x. Unit {0})) g h)
    (λ q t.
    ⊎_elim (λ (a : Ends e.tests from (λ x. Covers x.label c) q). inl (ends_test e from c q a))
    (λ (a : Ends e.others from (λ x. Unit {0}) q). inr (ends_other e from q a, none))
    t)
    (λ q t.
    ⊎_elim (λ (a : Tests e from c q). absurd (none a.0 q a.1.0 a.1.1))
    (λ (a : Contains e.others (other from q) × IsUntested e from c). inr (other_ends e from q a.0))
    t)

-- ---- a list that is walked while it grows

same_front : (old new : StateList) (T : ℕ → Type 0) (k : ℕ) → IsGrown old new T → k < length old.states → get_or new.states k 0 ≡ get_or old.states k 0
same_front old new T k h l = ap (λ xs. get_or xs k 0) h.kept.1 ∙ get_or_append_left old.states h.kept.0 0 k l

-- the followers of the states before the place are listed
pub record IsClosing (e : Lists) (given now : StateList) (place : ℕ) : Type 0 where
  pub room : now.room ≡ given.room
  pub kept : (q : ℕ) → Contains given.states q → Contains now.states q
  pub sound : (q : ℕ) → Contains now.states q → (p : ℕ) × (Contains given.states p × Path e q p [])
  pub passed : (k q : ℕ) → k < place → IsEpsilonEdge e (get_or now.states k 0) q → q < given.room → Contains now.states q

pub closing_start : (e : Lists) (given : StateList) → IsClosing e given given 0
closing_start e given = record {
  room = refl;
  kept = λ q k. k;
  sound = λ q k. (q, (k, here q refl));
  passed = λ k q l s m. absurd (omega arith);
}

pub closing_more : (e : Lists) (given now new : StateList) (place from : ℕ) → IsClosing e given now place → place < length now.states
    → from ≡ get_or now.states place 0 → IsGrown now new (IsEpsilonEdge e from) → IsClosing e given new (place + 1)
closing_more e given now new place from h l at g = record {
  room = g.room ∙ h.room;
  kept = λ q k. grown_keeps now new (IsEpsilonEdge e from) q g (h.kept q k);
  sound = λ q k.
      ⊎_elim (λ (a : Contains now.states q). h.sound q a)
      (λ (a : IsEpsilonEdge e from q).
      let before = h.sound from (rw at (Contains-get_or now.states place 0 l)) in
      (before.0, (before.1.0, path_join e q from [] (epsilon from q [] a (here q refl)) before.0 [] before.1.1)))
      (g.sound q k);
  passed = λ k q below s m.
      ⊎_elim (λ (a : k < place).
      let same : get_or new.states k 0 ≡ get_or now.states k 0 = same_front now new (IsEpsilonEdge e from) k g (omega arith) in
      grown_keeps now new (IsEpsilonEdge e from) q g (h.passed k q a (subst (λ p. IsEpsilonEdge e p q) same s) m))
      (λ (a : place ≤ k).
      let here_k : k ≡ place = omega arith in
      let same : get_or new.states k 0 ≡ from = same_front now new (IsEpsilonEdge e from) k g (omega arith) ∙ ap (λ j. get_or now.states j 0) here_k ∙ sym at in
      g.complete q (subst (λ p. IsEpsilonEdge e p q) same s) (rw h.room m))
      (cases_lt k place);
}

pub closing_end : (e : Lists) (given now : StateList) (place : ℕ) → IsClosing e given now place → length now.states ≤ place → IsClosure e given now
closing_end e given now place h l = record {
  room = h.room;
  kept = λ q k m. h.kept q k;
  sound = h.sound;
  closed = λ p q k s m. let at = contains_at now.states p k in h.passed at.0 q (omega (arith, at.1.0)) (subst (λ r. IsEpsilonEdge e r q) (sym at.1.1) s) m;
}

-- the states to which the states before the place lead by the value are listed
pub record IsMoving (e : Lists) (c : ℕ) (given now : StateList) (place : ℕ) : Type 0 where
  pub room : now.room ≡ given.room
  pub sound : (q : ℕ) → Contains now.states q → (p : ℕ) × (Contains given.states p × Reads e p c q)
  pub passed : (k q : ℕ) → k < place → Reads e (get_or given.states k 0) c q → q < given.room → Contains now.states q

pub moving_start : (e : Lists) (c : ℕ) (given now : StateList) → now.room ≡ given.room → now.states ≡ [] → IsMoving e c given now 0
moving_start e c given now room none = record {
  room = room;
  sound = λ q k. absurd (contains_none q (rw none at k));
  passed = λ k q l s m. absurd (omega arith);
}

pub moving_more : (e : Lists) (c : ℕ) (given now new : StateList) (place from : ℕ) → IsMoving e c given now place → place < length given.states
    → from ≡ get_or given.states place 0 → IsGrown now new (Reads e from c) → IsMoving e c given new (place + 1)
moving_more e c given now new place from h l at g = record {
  room = g.room ∙ h.room;
  sound = λ q k.
      ⊎_elim (λ (a : Contains now.states q). h.sound q a)
      (λ (a : Reads e from c q). (from, (rw at (Contains-get_or given.states place 0 l), a)))
      (g.sound q k);
  passed = λ k q below s m.
      ⊎_elim (λ (a : k < place). grown_keeps now new (Reads e from c) q g (h.passed k q a s m))
      (λ (a : place ≤ k).
      let here_k : k ≡ place = omega arith in
      let same : get_or given.states k 0 ≡ from = ap (λ j. get_or given.states j 0) here_k ∙ sym at in
      g.complete q (subst (λ p. Reads e p c q) same s) (rw h.room m))
      (cases_lt k place);
}

-- an edge that reads the value, and a path
pub reads_then : (e : Lists) (p c r q : ℕ) (v : List ℕ) → Reads e p c r → Path e q r v → Path e q p (c ∷ v)
reads_then e p c r q v h t =
    ⊎_elim (λ (a : Tests e p c r). read p r v a.0 c a.1.0 a.1.1 t)
    (λ (a : Contains e.others (other p r) × IsUntested e p c). otherwise p r v c a.0 a.1 t)
    h

pub moving_end : (e : Lists) (c : ℕ) (given now all : StateList) (place : ℕ) → IsMoving e c given now place → length given.states ≤ place → IsClosure e now all
    → IsMove e c given all
moving_end e c given now all place h l closure = record {
  room = closure.room ∙ h.room;
  sound = λ q k.
      let silent = closure.sound q k in
      let before = h.sound silent.0 silent.1.0 in
      (before.0, (before.1.0, reads_then e before.0 c silent.0 q [] before.1.1 silent.1.1));
  complete = λ p q k s m.
      let at = contains_at given.states p k in
      closure.kept q (h.passed at.0 q (omega (arith, at.1.0)) (subst (λ r. Reads e r c q) (sym at.1.1) s) m) (rw h.room m);
  closed = λ p q k s m. closure.closed p q k s (rw h.room m);
}

-- START alone, and then its followers
pub closure_of_start : (e : Lists) (n : ℕ) (first all : StateList) → IsGrown (record { states = []; room = n }) first (λ q. q ≡ start_state) → IsClosure e first all
    → IsClosure e (only start_state n) all
closure_of_start e n first all g h = record {
  room = h.room ∙ g.room;
  kept = λ q k m. h.kept q (g.complete q (sym (contains_only start_state q k)) m) (rw g.room m);
  sound = λ q k.
      let s = h.sound q k in
      ⊎_elim (λ (a : Contains [] s.0). absurd (contains_none s.0 a))
      (λ (a : s.0 ≡ start_state). (s.0, (subst (Contains (start_state ∷ [])) (sym a) (contains_first start_state []), s.1.1)))
      (g.sound s.0 s.1.0);
  closed = λ p q k s m. h.closed p q k s (rw g.room m);
}

-- ---- the states after a word

-- every edge leads to a state, and START is one
pub record HasEnds (g : Graph) : Type 0 where
  pub start : start_state < length g.kinds
  pub noops : (p q : ℕ) → IsEpsilonEdge g.edges p q → q < length g.kinds
  pub reads : (p c q : ℕ) → Reads g.edges p c q → q < length g.kinds

pub has_ends : (t : Tree) (g : Graph) → IsCompiled t g → HasEnds g
has_ends t g h = record {
  start = h.start_in;
  noops = λ p q k. (h.noops_in (noop p q) k).1;
  reads = λ p c q r.
      ⊎_elim (λ (a : Tests g.edges p c q). (h.tests_in (test p a.0 q) a.1.0).1)
      (λ (a : Contains g.edges.others (other p q) × IsUntested g.edges p c). let to : q ≡ 1 = (h.others_in (other p q) a.0).1 in omega (arith, h.start_in))
      r;
}

pub record IsAfterWord (g : Graph) (w : List ℕ) (set : StateList) : Type 0 where
  pub room : set.room ≡ length g.kinds
  pub sound : (q : ℕ) → Contains set.states q → Path g.edges q start_state w
  pub complete : HasEnds g → (last : ℕ) (v : List ℕ) → Path g.edges last start_state (w ++ v) → (p : ℕ) × (Contains set.states p × Path g.edges last p v)
  pub closed : IsClosed g.edges (length g.kinds) set.states

pub after_none : (g : Graph) (set : StateList) → IsClosure g.edges (only start_state (length g.kinds)) set → IsAfterWord g [] set
after_none g set h = record {
  room = h.room;
  sound = λ q k.
      let s = h.sound q k in
      subst (λ p. Path g.edges q p []) (sym (contains_only start_state s.0 s.1.0)) s.1.1;
  complete = λ ends last v t. (start_state, (h.kept start_state (contains_first start_state []) ends.start, t));
  closed = h.closed;
}

-- a path from a listed state that reads the value goes by a state of the next list
cross : (g : Graph) (c last : ℕ) (v : List ℕ) (set next : StateList) → HasEnds g → set.room ≡ length g.kinds → IsClosed g.edges (length g.kinds) set.states
    → IsMove g.edges c set next → (p : ℕ) (w : List ℕ) → Path g.edges last p w → w ≡ c ∷ v → Contains set.states p
    → (q : ℕ) × (Contains next.states q × Path g.edges last q v)
cross g c last v set next ends room closed move p w (here a same) e k = absurd cc
cross g c last v set next ends room closed move p w (epsilon a b u h s) e k = cross g c last v set next ends room closed move b u s e (closed a b k h (ends.noops a b h))
cross g c last v set next ends room closed move p w (read a b u r d h cov s) e k =
    let first : d ≡ c = cc in
    let rest : u ≡ v = cc in
    let one : Reads g.edges a c b = inl (r, (h, subst (Covers r) first cov)) in
    (b, (move.complete a b k one (rw room (ends.reads a c b one)), subst (λ z. Path g.edges last b z) rest s))
cross g c last v set next ends room closed move p w (otherwise a b u d h un s) e k =
    let first : d ≡ c = cc in
    let rest : u ≡ v = cc in
    let one : Reads g.edges a c b = inr (h, subst (IsUntested g.edges a) first un) in
    (b, (move.complete a b k one (rw room (ends.reads a c b one)), subst (λ z. Path g.edges last b z) rest s))

pub after_next : (g : Graph) (u : List ℕ) (c : ℕ) (set next : StateList) → IsAfterWord g u set → IsMove g.edges c set next → IsAfterWord g (u ++ c ∷ []) next
after_next g u c set next h move = record {
  room = move.room ∙ h.room;
  sound = λ q k. let s = move.sound q k in path_join g.edges q s.0 (c ∷ []) s.1.1 start_state u (h.sound s.0 s.1.0);
  complete = λ ends last v t.
      let before = h.complete ends last (c ∷ v) (subst (Path g.edges last start_state) (append_assoc u (c ∷ []) v) t) in
      cross g c last v set next ends h.room h.closed move before.0 (c ∷ v) before.1.1 refl before.1.0;
  closed = λ p q k s m. move.closed p q k s (rw h.room m);
}

-- a path from a listed state that reads nothing ends in a listed state
silent_end : (g : Graph) (last : ℕ) (states : List ℕ) → HasEnds g → IsClosed g.edges (length g.kinds) states → (p : ℕ) (w : List ℕ) → Path g.edges last p w
    → w ≡ [] → Contains states p → Contains states last
silent_end g last states ends closed p w (here a same) e k = subst (Contains states) same k
silent_end g last states ends closed p w (epsilon a b u h s) e k = silent_end g last states ends closed b u s e (closed a b k h (ends.noops a b h))
silent_end g last states ends closed p w (read a b u r d h cov s) e k = absurd cc
silent_end g last states ends closed p w (otherwise a b u d h un s) e k = absurd cc

pub matched_if : (t : Tree) (g : Graph) (w : List ℕ) (set : StateList) → IsCompiled t g → IsAfterWord g w set → Accepts (record { graph = g; states = set }) → Matches t w
matched_if t g w set h a s =
    let at : s.0 ≡ accept_state = (h.accepting s.0).0 s.1.1 in
    (h.reads w).0 (subst (λ q. Path g.edges q start_state w) at (a.sound s.0 s.1.0))

pub only_if_matched : (t : Tree) (g : Graph) (w : List ℕ) (set : StateList) → IsCompiled t g → IsAfterWord g w set → Matches t w → Accepts (record { graph = g; states = set })
only_if_matched t g w set h a m =
    let ends = has_ends t g h in
    let path : Path g.edges accept_state start_state (w ++ []) = rw append-nil ((h.reads w).1 m) in
    let last = a.complete ends accept_state [] path in
    (accept_state, (silent_end g accept_state set.states ends a.closed last.0 [] last.1.1 refl last.1.0, (h.accepting accept_state).1 refl))

-- ---- REJECT

from_reject : (t : Tree) (g : Graph) → IsCompiled t g → (p : ℕ) (w : List ℕ) → Path g.edges accept_state p w → p ≡ reject_state → ⊥
from_reject t g h p w (here a same) e = omega (arith, same, e)
from_reject t g h p w (epsilon a b u k s) e = (h.noops_in (noop a b) k).2 e
from_reject t g h p w (read a b u r d k cov s) e = (h.tests_in (test a r b) k).2 e
from_reject t g h p w (otherwise a b u d k un s) e = from_reject t g h b u s (h.others_in (other a b) k).1

-- if each listed state is REJECT, no longer word matches
pub none_on : (t : Tree) (g : Graph) (w : List ℕ) (set : StateList) → IsCompiled t g → IsAfterWord g w set
    → Rejects (record { graph = g; states = set }) → (v : List ℕ) → ¬ Matches t (w ++ v)
none_on t g w set h a dead v m =
    let last = a.complete (has_ends t g h) accept_state v ((h.reads (w ++ v)).1 m) in
    from_reject t g h last.0 v last.1.1 ((h.rejecting last.0).0 (dead last.0 last.1.0))
