-- A pushed edge, and a new state, keep the runs of all states and all kinds.
use Rattle.std.proofs.Common.{◌≡◌, ◌≢◌, ℕ, zero, suc, ◌<◌, List, [], ◌∷◌, ◌++◌, length, drop, set, get_or, refl, ap, sym, ◌∙◌, subst, arith, inl, inr, Bool, true}
use Rattle.std.specs.Prelude.{Option, Some, None}
use Rattle.std.specs.List.{filter}
use Rattle.std.proofs.lemmas.Bool.{eq-eqb}
use Rattle.std.proofs.lemmas.Bool.Decides.{eqb_tells}
use Rattle.std.proofs.lemmas.List.{get_or-set_same, get_or-set_other, get_or_default, get_or_past, length-map}
use Rattle.std.proofs.Math.Seq.{map-set_same}
use Rattle.lalrpop_nfa.specs.declared.edge.Edge.{Edge}
use Rattle.lalrpop_nfa.specs.declared.edge.State.{State}
use Rattle.lalrpop_nfa.specs.declared.edge.StateKind.{StateKind}
use Rattle.lalrpop_nfa.specs.declared.edge.StateKind.TheVariants.{Neither}
use Rattle.lalrpop_nfa.specs.Firsts.{LabelKind, Noops, Tests, Others, SameListsBut, index_of, with_index}
use Rattle.lalrpop_nfa.specs.Internal.FirstSet.{first_set}
use Rattle.lalrpop_nfa.specs.Graph.{Graph, Lists}
use Rattle.lalrpop_nfa.specs.Compiled.{edges_from}
use Rattle.lalrpop_nfa.specs.Internal.Fragment.{no_edges}
use Rattle.lalrpop_nfa.specs.Contiguous.{walk, IsContiguous, AreContiguous, kinds_of}
use Rattle.lalrpop_nfa.specs.Internal.Adjacent.{edgeless, state_at, AllContiguous, IsOpen}
use Rattle.lalrpop_nfa.specs.Walk.{leaves}
use Rattle.lalrpop_nfa.proofs.WalkLemmas.{IsContiguous-other, IsContiguous-first, IsContiguous-next, not_nil, filter_last_this}

walk_taken : {X : Type 0} (p : X → Bool) (xs : List X) (x : X) (others : List X) → xs ≡ x ∷ others → p x ≡ true → walk p xs ≡ x ∷ walk p others
walk_taken p xs x others h k = rw (h, k)

module _ {L : Type 0} (q : ℕ) (es : List (Edge L)) (f : Edge L) (n : ℕ) where
  IsContiguous-open : (first : Option ℕ) → n ≡ length es → f.from ≡ q → IsOpen q es → IsContiguous q es first → IsContiguous q (es ++ f ∷ []) (first_set first n)
  IsContiguous-open None is same (inl none) r = rw is (IsContiguous-first q es f same none)
  IsContiguous-open (Some i) is same (inl none) r =
      let t = walk_taken (leaves q) (drop i es) r.at.0 r.at.1 r.at.2 (eq-eqb r.at.0.from q r.at.3) in
      let no : r.at.0 ∷ walk (leaves q) r.at.1 ≡ [] = sym t ∙ (sym r.all ∙ none) in cc
  IsContiguous-open None is same (inr o) r = absurd (not_nil (leaves q) (filter (leaves q) o.0) o.1 (sym (filter_last_this (leaves q) o.0 o.1 (eq-eqb o.1.from q o.3)) ∙ (ap (filter (leaves q)) (sym o.2) ∙ r.all)))
  IsContiguous-open (Some i) is same (inr o) r = IsContiguous-next q es f (Some i) o.0 o.1 same o.2 o.3 r

-- t has the kind and the indices of s, except the index of this kind of labels
abbrev SameFirstsBut : LabelKind → State → State → Type 0
SameFirstsBut Noops s t = (t.kind ≡ s.kind) × (t.first_test_edge ≡ s.first_test_edge) × (t.first_other_edge ≡ s.first_other_edge)
SameFirstsBut Tests s t = (t.kind ≡ s.kind) × (t.first_noop_edge ≡ s.first_noop_edge) × (t.first_other_edge ≡ s.first_other_edge)
SameFirstsBut Others s t = (t.kind ≡ s.kind) × (t.first_noop_edge ≡ s.first_noop_edge) × (t.first_test_edge ≡ s.first_test_edge)

index_written : (j : LabelKind) (s : State) (i : Option ℕ) → index_of j (with_index j s i) ≡ i
index_written Noops s i = refl
index_written Tests s i = refl
index_written Others s i = refl

SameFirstsBut-written : (j : LabelKind) (s : State) (i : Option ℕ) → SameFirstsBut j s (with_index j s i)
SameFirstsBut-written Noops s i = (refl, refl, refl)
SameFirstsBut-written Tests s i = (refl, refl, refl)
SameFirstsBut-written Others s i = (refl, refl, refl)

SameFirstsBut-self : (j : LabelKind) (s : State) → SameFirstsBut j s s
SameFirstsBut-self Noops s = (refl, refl, refl)
SameFirstsBut-self Tests s = (refl, refl, refl)
SameFirstsBut-self Others s = (refl, refl, refl)

-- the runs of the other kinds stay if their lists and indices do
AreContiguous-kept : (j k : LabelKind) (e f : Lists) (s t : State) (q : ℕ) → SameListsBut j e f → SameFirstsBut j s t → AreContiguous j f t q → AreContiguous k e s q → AreContiguous k f t q
AreContiguous-kept Noops Noops e f s t q x y r o = r
AreContiguous-kept Noops Tests e f s t q x y r o = rw (x.0, y.1) o
AreContiguous-kept Noops Others e f s t q x y r o = rw (x.1, y.2) o
AreContiguous-kept Tests Noops e f s t q x y r o = rw (x.0, y.1) o
AreContiguous-kept Tests Tests e f s t q x y r o = r
AreContiguous-kept Tests Others e f s t q x y r o = rw (x.1, y.2) o
AreContiguous-kept Others Noops e f s t q x y r o = rw (x.0, y.1) o
AreContiguous-kept Others Tests e f s t q x y r o = rw (x.1, y.2) o
AreContiguous-kept Others Others e f s t q x y r o = r

kind_kept : (j : LabelKind) (s : State) (i : Option ℕ) → (with_index j s i).kind ≡ s.kind
kind_kept Noops s i = refl
kind_kept Tests s i = refl
kind_kept Others s i = refl

module _ {L : Type 0} (kind : LabelKind) (list : Lists → List (Edge L)) (with_list : Lists → List (Edge L) → Lists)
    (list_written : (e : Lists) (es : List (Edge L)) → list (with_list e es) ≡ es)
    (other_lists_kept : (e : Lists) (es : List (Edge L)) → SameListsBut kind e (with_list e es))
    (run_in : (e : Lists) (s : State) (q : ℕ) → AreContiguous kind e s q → IsContiguous q (list e) (index_of kind s))
    (run_out : (e : Lists) (s : State) (q : ℕ) → IsContiguous q (list e) (index_of kind s) → AreContiguous kind e s q)
    (states : List State) (e : Lists) (from : ℕ) (f : Edge L) (s t : State) (n : ℕ)
    (inside : from < length states) (here : s ≡ state_at states from) (is : t ≡ with_index kind s (first_set (index_of kind s) n)) where
  pub AllContiguous-pushed : n ≡ length (list e) → f.from ≡ from → IsOpen from (list e) → AllContiguous states e → (es : List (Edge L)) → es ≡ list e ++ f ∷ [] → AllContiguous (set states from t) (with_list e es)
  AllContiguous-pushed long same free old es more k q =
      elim (eqb_tells q from) [ inl y ↦ rw y.1 first_case | inr y ↦ other_case y.1 ]
    where
      first_case : AreContiguous k (with_list e es) (state_at (set states from t) from) from
      first_case =
          let was = λ (j : LabelKind). subst (λ v. AreContiguous j e v from) (sym here) (old j from) in
          let run = IsContiguous-open from (list e) f n (index_of kind s) long same free (run_in e s from (was kind)) in
          let done = run_out (with_list e es) t from (rw (list_written e es, more, is, index_written kind s (first_set (index_of kind s) n)) run) in
          let kept : SameFirstsBut kind s t = rw is (SameFirstsBut-written kind s (first_set (index_of kind s) n)) in
          rw (get_or-set_same states from t (edgeless Neither) inside) (AreContiguous-kept kind k e (with_list e es) s t from (other_lists_kept e es) kept done (was k))

      other_case : q ≢ from → AreContiguous k (with_list e es) (state_at (set states from t) q) q
      other_case ne =
          let u = state_at states q in
          let run = IsContiguous-other q (list e) f (index_of kind u) (λ h. ne (sym h ∙ same)) (run_in e u q (old kind q)) in
          rw (get_or-set_other states from q t (edgeless Neither) ne) (AreContiguous-kept kind k e (with_list e es) u u q (other_lists_kept e es) (SameFirstsBut-self kind u) (run_out (with_list e es) u q (rw (list_written e es, more) run)) (old k q))

pub kinds-pushed : (kind : LabelKind) (states : List State) (from : ℕ) (s t : State) (i : Option ℕ) → s ≡ state_at states from → t ≡ with_index kind s i → kinds_of (set states from t) ≡ kinds_of states
kinds-pushed kind states from s t i here is = map-set_same (λ v. v.kind) states from t (edgeless Neither) (ap (λ v. v.kind) is ∙ (kind_kept kind s i ∙ ap (λ v. v.kind) here))

-- a number below the number of kinds is a state's
module _ (states : List State) (q from : ℕ) (g : Graph) (e : Lists) (shown : record { kinds = kinds_of states; edges = e } ≡ g) (same : q ≡ from) (below : from < length g.kinds) where
  pub state_inside : q < length states
  state_inside = let h = length-map states (λ (s : State). s.kind) in let v = ap (λ (n : Graph). length n.kinds) shown in omega arith

  pub state_here : (s : State) → s ≡ get_or states q s → s ≡ state_at states q
  state_here s read = read ∙ get_or_default states q s (edgeless Neither) state_inside

-- ---- a new state

edgeless_index : (k : LabelKind) (kind : StateKind) → index_of k (edgeless kind) ≡ None
edgeless_index Noops kind = refl
edgeless_index Tests kind = refl
edgeless_index Others kind = refl

-- with one more state that no edge leaves, each index is as it was
indices_kept : (k : LabelKind) (kind : StateKind) (states : List State) (q : ℕ) → index_of k (state_at (states ++ edgeless kind ∷ []) q) ≡ index_of k (state_at states q)
indices_kept k kind [] zero = edgeless_index k kind ∙ sym (edgeless_index k Neither)
indices_kept k kind [] (suc q) = refl
indices_kept k kind (x ∷ xs) zero = refl
indices_kept k kind (x ∷ xs) (suc q) = indices_kept k kind xs q

AreContiguous-index : (k : LabelKind) (e : Lists) (s t : State) (q : ℕ) → index_of k t ≡ index_of k s → AreContiguous k e s q → AreContiguous k e t q
AreContiguous-index Noops e s t q h r = rw h r
AreContiguous-index Tests e s t q h r = rw h r
AreContiguous-index Others e s t q h r = rw h r

pub AllContiguous-fresh : (states : List State) (e : Lists) (kind : StateKind) → AllContiguous states e → AllContiguous (states ++ edgeless kind ∷ []) e
AllContiguous-fresh states e kind old k q = AreContiguous-index k e (state_at states q) (state_at (states ++ edgeless kind ∷ []) q) q (indices_kept k kind states q) (old k q)

-- no edge leaves the number of the state that is added next
pub edges_past : (states : List State) (e : Lists) (q : ℕ) → q ≡ length states → AllContiguous states e → edges_from q e ≡ no_edges
edges_past states e q is all =
    let past : state_at states q ≡ edgeless Neither = get_or_past states q (edgeless Neither) (omega arith) in
    let run = λ (k : LabelKind). subst (λ s. AreContiguous k e s q) past (all k q) in
    rw ((run Noops).all, (run Tests).all, (run Others).all) refl
