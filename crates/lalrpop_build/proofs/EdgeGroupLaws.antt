-- How lists of labels grow, and the edge groups by them.
use Rattle.std.proofs.Common.{◌≡◌, ℕ, ◌+◌, ◌<◌, ◌⊎◌, inl, inr, List, [], ◌∷◌, ◌++◌, length, refl, ap, sym, ◌∙◌, subst, arith, ◌↔◌, append_assoc, append-nil, length-append, eqb-true, eq-eqb}
use Rattle.std.specs.Prelude.{slice_get, Some}
use Rattle.std.specs.List.{Contains, filter}
use Rattle.std.specs.BTreeMap.{BTreeMap, Updates}
use Rattle.std.specs.Ordering.{is_eq}
use Rattle.std.specs.Cmp.{Equal-is}
use Rattle.std.proofs.lemmas.Option.{slice_get_within, slice_get_cases}
use Rattle.std.proofs.lemmas.List.Elements.{Contains-append_left, Contains-push, Contains-push_cases}
use Rattle.lalrpop_hir.specs.Range.{Range}
use Rattle.lalrpop_nfa.specs.Graph.{Graph}
use Rattle.lalrpop_nfa.specs.Path.{test}
use Rattle.lalrpop_nfa.specs.Walk.{leaves}
use Rattle.lalrpop_hir.proofs.Contained.{contains_none, filter_in, filter_out}
use Rattle.lalrpop_nfa.specs.declared.edge.Edge.{Edge}
use Rattle.lalrpop_hir.proofs.Pushed.{pushed_cases, pushed_keeps, pushed_last}
use Rattle.lalrpop_build.proofs.LabelOrder.{range_exact}
use Rattle.lalrpop_hir.proofs.Orders.{lists_exact}
use Rattle.std.proofs.lemmas.Bool.{cases_Bool}
use Rattle.lalrpop_build.specs.Internal.Alphabet.{AreEdgeGroupsOf, IsEdgeGroupOf}
use Rattle.lalrpop_build.specs.declared.alphabet.EdgeGroup.{EdgeGroup}
use Rattle.lalrpop_build.specs.declared.alphabet.NfaEdgeGroups.{NfaEdgeGroups}
use Rattle.lalrpop_build.specs.declared.alphabet.StateEdgeGroups.{StateEdgeGroups}
use Rattle.lalrpop_build.specs.declared.alphabet.groups.Labels.{Labels}
use Rattle.lalrpop_build.specs.Internal.Grouped.{HasLabel, LeadsTo, AreGrouped}
use Rattle.lalrpop_build.specs.Internal.EdgeGroups.{labels_cmp, IsListOf, AreNumbersOf, IsGrown, IsClosed, IsTurned, HasEdgeGroup, AreWithin, AreEdgeGroups, AreStatesTo}

-- ---- growing lists
pub grown_more : (a b c : List Labels) → IsGrown a b → IsGrown b c → IsGrown a c
grown_more a b c f g n ls h = g n ls (f n ls h)

pub grown_pushed : (lists : List Labels) (list : Labels) → IsGrown lists (lists ++ list ∷ [])
grown_pushed lists list n ls h = pushed_keeps lists list n ls h

pub pushed_list : (lists : List Labels) (list : Labels) (rs : List Range) → list.list.items ≡ rs → IsListOf (lists ++ list ∷ []) (length lists) rs
pushed_list lists list rs same = (list, pushed_last lists list, same)

-- a list with the next number
pub numbers_pushed : (m m2 : BTreeMap Labels ℕ) (lists : List Labels) (key list : Labels) → AreNumbersOf m lists → key.list.items ≡ list.list.items → Updates labels_cmp m m2 key (Some (length lists)) → AreNumbersOf m2 (lists ++ list ∷ [])
numbers_pushed m m2 lists key list a same u = record {
  found = λ ls n h. elim (cases_Bool (is_eq (labels_cmp key ls))) [
    | inl equal ↦
        (let e : key.list.items ≡ ls.list.items = lists_exact range_exact key.list.items ls.list.items ((Equal-is (labels_cmp key ls)).0 equal) in
        let found : Some (length lists) ≡ Some n = sym (u.0 ls ∙ rw equal refl) ∙ h in
        let number : length lists ≡ n = cc in
        rw (← number) (pushed_list lists list ls.list.items (sym same ∙ e)))
    | inr apart ↦
        (let was = a.found ls n (sym (u.0 ls ∙ rw apart refl) ∙ h) in
        (was.0, pushed_keeps lists list n was.0 was.1, was.2))
  ];
}

-- no entry is added
pub numbers_kept : (m m2 : BTreeMap Labels ℕ) (lists lists2 : List Labels) → AreNumbersOf m lists → lists2 ≡ lists → m2.entries ≡ m.entries → AreNumbersOf m2 lists2
numbers_kept m m2 lists lists2 a same kept = record { found = λ ls n h. rw same (a.found ls n (rw kept at h)) }

label_after : (a b : List Labels) (n : ℕ) (r : Range) → IsGrown a b → HasLabel a n r → HasLabel b n r
label_after a b n r g h = (h.0, (g n h.0 h.1.0, h.1.1))

same_at : {X : Type 0} (xs : List X) (n : ℕ) (x y : X) → slice_get xs n ≡ Some x → slice_get xs n ≡ Some y → x ≡ y
same_at xs n x y p q = let e : Some x ≡ Some y = sym p ∙ q in cc

label_before : (a b : List Labels) (n : ℕ) (r : Range) → IsGrown a b → n < length a → HasLabel b n r → HasLabel a n r
label_before a b n r g l h = elim ((slice_get_cases a n).1) [
  | inl there ↦ (there.0, (there.2, subst (λ (x : Labels). Contains x.list.items r) (same_at b n h.0 there.0 h.1.0 (g n there.0 there.2)) h.1.1))
  | inr past ↦ absurd (omega arith)
]

within_after : (a b : List Labels) (n : ℕ) → IsGrown a b → n < length a → n < length b
within_after a b n g l = elim ((slice_get_cases a n).1) [
  | inl there ↦ slice_get_within b n there.0 (g n there.0 there.2)
  | inr past ↦ absurd (omega arith)
]

-- ---- edge groups by growing lists
edge_group_after : (a b : List Labels) (edge_groups : List EdgeGroup) (r : Range) (q : ℕ) → IsGrown a b → HasEdgeGroup a edge_groups r q → HasEdgeGroup b edge_groups r q
edge_group_after a b edge_groups r q g (l, has, to, label) = (l, has, to, label_after a b l.group r g label)

edge_group_before : (a b : List Labels) (edge_groups : List EdgeGroup) (r : Range) (q : ℕ) → IsGrown a b → AreWithin a edge_groups → HasEdgeGroup b edge_groups r q → HasEdgeGroup a edge_groups r q
edge_group_before a b edge_groups r q g w (l, has, to, label) = (l, has, to, label_before a b l.group r g (w l has) label)

pub edge_groups_after : (a b : List Labels) (tests : List (Edge Range)) (p : ℕ) (edge_groups : List EdgeGroup) → IsGrown a b → AreEdgeGroups a tests p edge_groups → AreEdgeGroups b tests p edge_groups
edge_groups_after a b tests p edge_groups g h = record {
  within = λ l has. within_after a b l.group g (h.within l has);
  labels = λ r q. (
    λ edge. edge_group_after a b edge_groups r q g ((h.labels r q).0 edge),
    λ edge_group. (h.labels r q).1 (edge_group_before a b edge_groups r q g h.within edge_group),
  );
}

-- ---- one state's edges, one by one
edge_is : (e : Edge Range) (p : ℕ) (r : Range) (q : ℕ) → e.from ≡ p → e.label ≡ r → e.to ≡ q → e ≡ test p r q
edge_is e p r q a b c = rw (← a, ← b, ← c) refl

-- one of the edges has this label and leads to q
abbrev pub HasEdge : List (Edge Range) → Range → ℕ → Type 0
HasEdge es r q = (e : Edge Range) × Contains es e × (e.label ≡ r) × (e.to ≡ q)

-- these edges are read: the labels rs of the last ones lead to to, and the others have edge groups
pub record AreRead (lists : List Labels) (edge_groups : List EdgeGroup) (rs : List Range) (to : ℕ) (done : List (Edge Range)) : Type 0 where
  pub within : AreWithin lists edge_groups
  pub labels : (r : Range) (q : ℕ) → HasEdge done r q ↔ (HasEdgeGroup lists edge_groups r q ⊎ (Contains rs r × (to ≡ q)))

-- one more edge to the state that the last ones lead to
pub read_more : (lists : List Labels) (edge_groups : List EdgeGroup) (rs rs2 : List Range) (to : ℕ) (done : List (Edge Range)) (e : Edge Range) (label : Range) → AreRead lists edge_groups rs to done → e.to ≡ to → label ≡ e.label → rs2 ≡ rs ++ label ∷ []
    → AreRead lists edge_groups rs2 to (done ++ e ∷ [])
read_more lists edge_groups rs rs2 to done e label h here is pushed = record {
  within = h.within;
  labels = λ r q. (
    λ edge. elim (Contains-push_cases done e edge.0 edge.1) [
      | inl old ↦ elim ((h.labels r q).0 (edge.0, old, edge.2, edge.3)) [
        | inl edge_group ↦ inl edge_group
        | inr last ↦ inr (rw pushed (Contains-append_left rs (label ∷ []) r last.0), last.1)
      ]
      | inr new ↦
          (let same : label ≡ r = is ∙ ap (λ (x : Edge Range). x.label) new ∙ edge.2 in
          inr (rw (pushed, ← same) (Contains-push rs label), sym here ∙ ap (λ (x : Edge Range). x.to) new ∙ edge.3))
    ],
    λ k. elim k [
      | inl edge_group ↦ (let old = (h.labels r q).1 (inl edge_group) in (old.0, Contains-append_left done (e ∷ []) old.0 old.1, old.2, old.3))
      | inr last ↦ elim (Contains-push_cases rs label r (rw pushed at last.0)) [
        | inl old ↦ (let was = (h.labels r q).1 (inr (old, last.1)) in (was.0, Contains-append_left done (e ∷ []) was.0 was.1, was.2, was.3))
        | inr new ↦ (e, Contains-push done e, sym is ∙ new, here ∙ last.1)
      ]
    ],
  );
}

-- the labels of the last edges have an edge group
pub read_closed : (lists lists2 : List Labels) (edge_groups edge_groups2 : List EdgeGroup) (rs rs2 : List Range) (to to2 : ℕ) (done : List (Edge Range)) → AreRead lists edge_groups rs to done → IsClosed lists edge_groups rs to lists2 edge_groups2 → rs2 ≡ []
    → AreRead lists2 edge_groups2 rs2 to2 done
read_closed lists lists2 edge_groups edge_groups2 rs rs2 to to2 done h (inl (none, same, kept)) empty = record {
  within = λ l has. rw same (h.within l (rw kept at has));
  labels = λ r q. (
    λ edge. elim ((h.labels r q).0 edge) [
      | inl edge_group ↦ inl (rw (same, kept) edge_group)
      | inr last ↦ absurd (contains_none r (rw none at last.0))
    ],
    λ k. elim k [
      | inl edge_group ↦ (h.labels r q).1 (inl (rw (same, kept) at edge_group))
      | inr last ↦ absurd (contains_none r (rw empty at last.0))
    ],
  );
}
read_closed lists lists2 edge_groups edge_groups2 rs rs2 to to2 done h (inr (n, list, grown, pushed)) empty = record {
  within = λ l has. elim (Contains-push_cases edge_groups edge_group l (rw pushed at has)) [
    | inl old ↦ within_after lists lists2 l.group grown (h.within l old)
    | inr new ↦ rw (← new) (slice_get_within lists2 n list.0 list.1)
  ];
  labels = λ r q. (
    λ edge. elim ((h.labels r q).0 edge) [
      | inl old ↦ (let was = edge_group_after lists lists2 edge_groups r q grown old in inl (was.0, rw pushed (Contains-append_left edge_groups (edge_group ∷ []) was.0 was.1), was.2, was.3))
      | inr last ↦ inl (edge_group, rw pushed (Contains-push edge_groups edge_group), last.1, (list.0, (list.1, rw list.2 last.0)))
    ],
    λ k. elim k [
      | inl by ↦ from_edge_group r q by (Contains-push_cases edge_groups edge_group by.0 (rw pushed at by.1))
      | inr last ↦ absurd (contains_none r (rw empty at last.0))
    ],
  );
}
  where
    edge_group : EdgeGroup
    edge_group = record { group = n; to = to }

    from_edge_group : (r : Range) (q : ℕ) (by : HasEdgeGroup lists2 edge_groups2 r q) → Contains edge_groups by.0 ⊎ (edge_group ≡ by.0) → HasEdge done r q
    from_edge_group r q by (inl old) = (h.labels r q).1 (inl (edge_group_before lists lists2 edge_groups r q grown h.within (by.0, old, by.2, by.3)))
    from_edge_group r q by (inr new) =
        let label : HasLabel lists2 n r = rw (← new) at by.3 in
        let same : label.0 ≡ list.0 = same_at lists2 n label.0 list.0 label.1.0 list.1 in
        (h.labels r q).1 (inr (subst (λ xs. Contains xs r) (ap (λ (x : Labels). x.list.items) same ∙ list.2) label.1.1, ap (λ (x : EdgeGroup). x.to) new ∙ by.2))

-- part of a state's edges is read, and es are those that are left
pub record IsReading (first lists : List Labels) (edge_groups : List EdgeGroup) (rs : List Range) (to : ℕ) (all es : List (Edge Range)) : Type 0 where
  pub done : List (Edge Range)
  pub read : AreRead lists edge_groups rs to done
  pub rest : done ++ es ≡ all
  pub grown : IsGrown first lists

pub grown_closed : (first lists lists2 : List Labels) (edge_groups edge_groups2 : List EdgeGroup) (rs : List Range) (to : ℕ) → IsGrown first lists → IsClosed lists edge_groups rs to lists2 edge_groups2 → IsGrown first lists2
grown_closed first lists lists2 edge_groups edge_groups2 rs to g (inl (none, same, kept)) = rw same g
grown_closed first lists lists2 edge_groups edge_groups2 rs to g (inr (n, list, grown, pushed)) = grown_more first lists lists2 g grown

reading_closed : (first lists lists2 : List Labels) (edge_groups edge_groups2 : List EdgeGroup) (rs rs2 : List Range) (to to2 : ℕ) (all es : List (Edge Range)) → IsReading first lists edge_groups rs to all es → IsClosed lists edge_groups rs to lists2 edge_groups2 → rs2 ≡ []
    → IsReading first lists2 edge_groups2 rs2 to2 all es
reading_closed first lists lists2 edge_groups edge_groups2 rs rs2 to to2 all es h closed empty = record {
  done = h.done;
  read = read_closed lists lists2 edge_groups edge_groups2 rs rs2 to to2 h.done h.read closed empty;
  rest = h.rest;
  grown = grown_closed first lists lists2 edge_groups edge_groups2 rs to h.grown closed;
}

pub reading_turned : (first lists lists2 : List Labels) (edge_groups edge_groups2 : List EdgeGroup) (rs rs2 : List Range) (to to2 : ℕ) (all es : List (Edge Range)) → IsReading first lists edge_groups rs to all es → IsTurned lists edge_groups rs to lists2 edge_groups2 rs2 to2
    → IsReading first lists2 edge_groups2 rs2 to2 all es
reading_turned first lists lists2 edge_groups edge_groups2 rs rs2 to to2 all es h (inl (a, b, c, d)) = rw (a, b, c, d) h
reading_turned first lists lists2 edge_groups edge_groups2 rs rs2 to to2 all es h (inr (closed, empty)) = reading_closed first lists lists2 edge_groups edge_groups2 rs rs2 to to2 all es h closed empty

pub reading_more : (first lists : List Labels) (edge_groups : List EdgeGroup) (rs rs2 : List Range) (to : ℕ) (all es rest : List (Edge Range)) (e : Edge Range) (label : Range) → IsReading first lists edge_groups rs to all es → es ≡ e ∷ rest → e.to ≡ to → label ≡ e.label → rs2 ≡ rs ++ label ∷ []
    → IsReading first lists edge_groups rs2 to all rest
reading_more first lists edge_groups rs rs2 to all es rest e label h next here is pushed = record {
  done = h.done ++ e ∷ [];
  read = read_more lists edge_groups rs rs2 to h.done e label h.read here is pushed;
  rest = rw append_assoc (rw next at h.rest);
  grown = h.grown;
}

pub reading_done : (first lists lists2 : List Labels) (edge_groups edge_groups2 : List EdgeGroup) (rs : List Range) (to p : ℕ) (tests es : List (Edge Range)) → IsReading first lists edge_groups rs to (filter (leaves p) tests) es → es ≡ [] → IsClosed lists edge_groups rs to lists2 edge_groups2
    → IsGrown first lists2 × AreEdgeGroups lists2 tests p edge_groups2
reading_done first lists lists2 edge_groups edge_groups2 rs to p tests es h none closed = (grown_closed first lists lists2 edge_groups edge_groups2 rs to h.grown closed, record { within = read.within; labels = λ r q. (to_edge_group r q, from_edge_group r q) })
  where
    read : AreRead lists2 edge_groups2 [] to h.done
    read = read_closed lists lists2 edge_groups edge_groups2 rs [] to to h.done h.read closed refl

    all : h.done ≡ filter (leaves p) tests
    all = sym (append-nil h.done) ∙ (rw none at h.rest)

    to_edge_group : (r : Range) (q : ℕ) → Contains tests (test p r q) → HasEdgeGroup lists2 edge_groups2 r q
    to_edge_group r q edge = elim ((read.labels r q).0 (test p r q, subst (λ es. Contains es (test p r q)) (sym all) (filter_in (leaves p) tests (test p r q) edge (eq-eqb p p refl)), refl, refl)) [
      | inl edge_group ↦ edge_group
      | inr last ↦ absurd (contains_none r last.0)
    ]

    from_edge_group : (r : Range) (q : ℕ) → HasEdgeGroup lists2 edge_groups2 r q → Contains tests (test p r q)
    from_edge_group r q edge_group =
        let edge : HasEdge h.done r q = (read.labels r q).1 (inl edge_group) in
        let there = filter_out (leaves p) tests edge.0 (subst (λ es. Contains es edge.0) all edge.1) in
        let same : edge.0 ≡ test p r q = edge_is edge.0 p r q (eqb-true edge.0.from p there.1) edge.2 edge.3 in
        rw same at there.0

-- ---- the states of an automaton, and the automata
pub states_more : (lists lists2 : List Labels) (g : Graph) (n : ℕ) (states states2 : List StateEdgeGroups) (s : StateEdgeGroups) → AreStatesTo lists g n states → IsGrown lists lists2 → AreEdgeGroups lists2 g.edges.tests n s.edge_groups.items → states2 ≡ states ++ s ∷ []
    → AreStatesTo lists2 g (n + 1) states2
states_more lists lists2 g n states states2 s h grown new pushed = record {
  same_length = rw pushed (length-append states (s ∷ []) ∙ ap (λ k. k + 1) h.same_length);
  edge_groups = λ p t at. elim (pushed_cases states s p t (rw pushed at at)) [
    | inl old ↦ edge_groups_after lists lists2 g.edges.tests p t.edge_groups.items grown (h.edge_groups p t old)
    | inr last ↦ rw (last.0, last.1, h.same_length) new
  ];
}

pub states_after : (a b : List Labels) (g : Graph) (n : ℕ) (states : List StateEdgeGroups) → IsGrown a b → AreStatesTo a g n states → AreStatesTo b g n states
states_after a b g n states grown h = record {
  same_length = h.same_length;
  edge_groups = λ p s at. edge_groups_after a b g.edges.tests p s.edge_groups.items grown (h.edge_groups p s at);
}

-- the first n automata have their edge groups
pub record AreNfasTo (lists : List Labels) (ns : List Graph) (n : ℕ) (nfas : List NfaEdgeGroups) : Type 0 where
  pub same_length : length nfas ≡ n
  pub states : (i : ℕ) (x : NfaEdgeGroups) → slice_get nfas i ≡ Some x → (g : Graph) × (slice_get ns i ≡ Some g) × AreStatesTo lists g (length g.kinds) x.states.items

pub nfas_more : (lists lists2 : List Labels) (ns : List Graph) (n : ℕ) (g : Graph) (nfas nfas2 : List NfaEdgeGroups) (x : NfaEdgeGroups) → AreNfasTo lists ns n nfas → IsGrown lists lists2 → slice_get ns n ≡ Some g → AreStatesTo lists2 g (length g.kinds) x.states.items → nfas2 ≡ nfas ++ x ∷ []
    → AreNfasTo lists2 ns (n + 1) nfas2
nfas_more lists lists2 ns n g nfas nfas2 x h grown here new pushed = record {
  same_length = rw pushed (length-append nfas (x ∷ []) ∙ ap (λ k. k + 1) h.same_length);
  states = λ i y at. elim (pushed_cases nfas x i y (rw pushed at at)) [
    | inl old ↦ (let was = h.states i y old in (was.0, was.1, states_after lists lists2 was.0 (length was.0.kinds) y.states.items grown was.2))
    | inr last ↦ (g, (let e : i ≡ n = last.0 ∙ h.same_length in rw e here), rw last.1 new)
  ];
}

module _ (lists : List Labels) (ns : List Graph) (n : ℕ) (nfas : List NfaEdgeGroups) (h : AreNfasTo lists ns n nfas) where
  -- such an edge group is one of its state
  edge_group_there : (i p : ℕ) (l : EdgeGroup) (g : Graph) → IsEdgeGroupOf nfas i p l → slice_get ns i ≡ Some g → (ls : List EdgeGroup) × Contains ls l × AreEdgeGroups lists g.edges.tests p ls
  edge_group_there i p l g edge_group at =
      let of : AreEdgeGroupsOf nfas i p edge_group.0 = edge_group.1.0 in
      let nfa = h.states i of.0 of.2.0 in
      let same : nfa.0 ≡ g = same_at ns i nfa.0 g nfa.1 at in
      let edge_groups : AreEdgeGroups lists nfa.0.edges.tests p of.1.edge_groups.items = nfa.2.edge_groups p of.1 of.2.1 in
      (of.1.edge_groups.items, subst (λ ls. Contains ls l) of.2.2 edge_group.1.1, subst (λ (f : Graph). AreEdgeGroups lists f.edges.tests p of.1.edge_groups.items) same edge_groups)

  graph_there : (i p : ℕ) (l : EdgeGroup) → IsEdgeGroupOf nfas i p l → (g : Graph) × (slice_get ns i ≡ Some g)
  graph_there i p l edge_group =
      let of : AreEdgeGroupsOf nfas i p edge_group.0 = edge_group.1.0 in
      let nfa = h.states i of.0 of.2.0 in
      (nfa.0, nfa.1)

  nfa_there : (i : ℕ) (g : Graph) → n ≡ length ns → slice_get ns i ≡ Some g → (x : NfaEdgeGroups) × (slice_get nfas i ≡ Some x) × AreStatesTo lists g (length g.kinds) x.states.items
  nfa_there i g all at = elim ((slice_get_cases nfas i).1) [
    | inl there ↦
        (let nfa = h.states i there.0 there.2 in
        let same : nfa.0 ≡ g = same_at ns i nfa.0 g nfa.1 at in
        (there.0, there.2, subst (λ (f : Graph). AreStatesTo lists f (length f.kinds) there.0.states.items) same nfa.2))
    | inr past ↦ absurd (omega (arith, slice_get_within ns i g at, h.same_length, all))
  ]

  led : (i p q : ℕ) (r : Range) (g : Graph) → n ≡ length ns → slice_get ns i ≡ Some g → p < length g.kinds → Contains g.edges.tests (test p r q) → (k : ℕ) × (LeadsTo nfas i p k q × HasLabel lists k r)
  led i p q r g all at l edge =
      let nfa = nfa_there i g all at in
      elim ((slice_get_cases nfa.0.states.items p).1) [
        | inl there ↦
            (let edge_group = ((nfa.2.edge_groups p there.0 there.2).labels r q).0 edge in
            (edge_group.0.group, ((edge_group.0, ((there.0.edge_groups.items, ((nfa.0, there.0, (nfa.1, there.2, refl)), edge_group.1)), refl, edge_group.2)), edge_group.3)))
        | inr past ↦ absurd (omega (arith, nfa.2.same_length))
      ]

  leads_edge : (i p q : ℕ) (r : Range) (g : Graph) → slice_get ns i ≡ Some g → (k : ℕ) × (LeadsTo nfas i p k q × HasLabel lists k r) → Contains g.edges.tests (test p r q)
  leads_edge i p q r g at by =
      let to : LeadsTo nfas i p by.0 q = by.1.0 in
      let there = edge_group_there i p to.0 g to.1.0 at in
      (there.2.labels r q).1 (to.0, there.1, to.1.2, subst (λ k. HasLabel lists k r) (sym to.1.1) by.1.1)

  pub grouped : n ≡ length ns → AreGrouped ns lists nfas
  grouped all = record {
    automata = h.same_length ∙ all;
    states = λ i g at. let nfa = nfa_there i g all at in (nfa.0, (nfa.1, nfa.2.same_length));
    lists_in = λ i p k q edge_group. let g = graph_there i p edge_group.0 edge_group.1.0 in let there = edge_group_there i p edge_group.0 g.0 edge_group.1.0 g.1 in subst (λ j. j < length lists) edge_group.1.1 (there.2.within edge_group.0 there.1);
    labels = λ i p q r g at l. (led i p q r g all at l, leads_edge i p q r g at);
  }
