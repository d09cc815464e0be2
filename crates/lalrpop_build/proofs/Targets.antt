-- The targets of an item by one value, as computed and by edges.
use Rattle.std.proofs.Common.{◌≡◌, ℕ, ◌<◌, ◌⊎◌, inl, inr, List, [], ◌∷◌, length, filter, refl, ap, ap₂, sym, subst, arith, Bool, true, ◌&&◌, ◌==◌, nat_le, eqb-true, eq-eqb, leb-true, le-leb, Some}
use Rattle.std.specs.List.{Contains, slice_get}
use Rattle.std.proofs.lemmas.Bool.{and_parts, and_from}
use Rattle.std.proofs.lemmas.Option.{get_or_from_slice_get, slice_get_within, slice_get_cases}
use Rattle.lalrpop_hir.specs.Range.{Range, Covers}
use Rattle.lalrpop_hir.specs.Tree.{Tree}
use Rattle.lalrpop_nfa.specs.declared.edge.Edge.{Edge}
use Rattle.lalrpop_nfa.specs.declared.edge.Other.{Other}
use Rattle.lalrpop_nfa.specs.Graph.{Graph}
use Rattle.lalrpop_nfa.specs.Path.{test, other, IsUntested}
use Rattle.lalrpop_nfa.specs.Internal.Reads.{Reads}
use Rattle.lalrpop_nfa.specs.Compiled.{IsCompiled}
use Rattle.lalrpop_nfa.specs.Automata.{AreCompiled}
use Rattle.lalrpop_dfa.specs.Ascending.{Item}
use Rattle.lalrpop_build.specs.Internal.Subsets.{no_graph, graph_at, test_targets, default_targets, or_instead, targets, item_targets}
use Rattle.lalrpop_hir.proofs.Members.{Has, has_from, contains_from, has_filter, filter_has, has_map, map_has}

-- the first list, or the second if the first is empty
pub instead_cases : (ts qs : List ℕ) (q : ℕ) → Has (or_instead ts qs) q → Has ts q ⊎ ((ts ≡ []) × Has qs q)
instead_cases [] qs q h = inr (refl, h)
instead_cases (t ∷ ts) qs q h = inl h

pub instead_first : (ts qs : List ℕ) (q : ℕ) → Has ts q → Has (or_instead ts qs) q
instead_first [] qs q h = absurd h
instead_first (t ∷ ts) qs q h = h

module _ (g : Graph) (p c : ℕ) where
  abbrev covers_here : Edge Range → Bool
  covers_here e = (e.from == p) && (nat_le e.label.start c && nat_le c e.label.end)

  pub tested_has : (r : Range) (q : ℕ) → Contains g.edges.tests (test p r q) → Covers r c → Has (test_targets g p c) q
  tested_has r q h k =
      has_map (λ (e : Edge Range). e.to) (filter covers_here g.edges.tests) (test p r q)
      (has_filter covers_here g.edges.tests (test p r q) (has_from g.edges.tests (test p r q) h)
      (and_from (p == p) (nat_le r.start c && nat_le c r.end) (eq-eqb p p refl) (and_from (nat_le r.start c) (nat_le c r.end) (le-leb r.start c k.0) (le-leb c r.end k.1))))

  pub tested_parts : (q : ℕ) → Has (test_targets g p c) q → (r : Range) × (Contains g.edges.tests (test p r q) × Covers r c)
  tested_parts q h =
      let m : (e : Edge Range) × (Has (filter covers_here g.edges.tests) e × (e.to ≡ q)) = map_has (λ (e : Edge Range). e.to) (filter covers_here g.edges.tests) q h in
      let e : Edge Range = m.0 in
      let f : Has g.edges.tests e × (covers_here e ≡ true) = filter_has covers_here g.edges.tests e m.1.0 in
      let a = and_parts (e.from == p) (nat_le e.label.start c && nat_le c e.label.end) f.1 in
      let b = and_parts (nat_le e.label.start c) (nat_le c e.label.end) a.1 in
      let from : e.from ≡ p = eqb-true e.from p a.0 in
      let same : e ≡ test p e.label q = ap₂ (λ (i j : ℕ). test i e.label j) from m.1.1 in
      (e.label, (contains_from g.edges.tests (test p e.label q) (rw same at f.0), (leb-true e.label.start c b.0, leb-true c e.label.end b.1)))

  pub default_has : (q : ℕ) → Contains g.edges.others (other p q) → Has (default_targets g p) q
  default_has q h =
      has_map (λ (e : Edge Other). e.to) (filter (λ (e : Edge Other). e.from == p) g.edges.others) (other p q)
      (has_filter (λ (e : Edge Other). e.from == p) g.edges.others (other p q) (has_from g.edges.others (other p q) h) (eq-eqb p p refl))

  pub default_parts : (q : ℕ) → Has (default_targets g p) q → Contains g.edges.others (other p q)
  default_parts q h =
      let m : (e : Edge Other) × (Has (filter (λ (e : Edge Other). e.from == p) g.edges.others) e × (e.to ≡ q)) =
      map_has (λ (e : Edge Other). e.to) (filter (λ (e : Edge Other). e.from == p) g.edges.others) q h in
      let e : Edge Other = m.0 in
      let f : Has g.edges.others e × ((e.from == p) ≡ true) = filter_has (λ (e : Edge Other). e.from == p) g.edges.others e m.1.0 in
      let from : e.from ≡ p = eqb-true e.from p f.1 in
      let same : e ≡ other p q = ap₂ (λ (i j : ℕ). other i j) from m.1.1 in
      contains_from g.edges.others (other p q) (rw same at f.0)

  none_tested : IsUntested g.edges p c → (ts : List ℕ) → ((q : ℕ) → Has ts q → Has (test_targets g p c) q) → ts ≡ []
  none_tested un [] f = refl
  none_tested un (q ∷ ts) f = let r = tested_parts q (f q (inl refl)) in absurd (un r.0 q r.1.0 r.1.1)

  pub untested_nil : IsUntested g.edges p c → test_targets g p c ≡ []
  untested_nil un = none_tested un (test_targets g p c) (λ q h. h)

  pub nil_untested : test_targets g p c ≡ [] → IsUntested g.edges p c
  nil_untested e r q h k = let t : Has (test_targets g p c) q = tested_has r q h k in rw e at t

  pub targets_parts : (q : ℕ) → Has (targets g p c) q → Reads g.edges p c q
  targets_parts q h = elim (instead_cases (test_targets g p c) (default_targets g p) q h) [
    | inl t ↦ inl (tested_parts q t)
    | inr f ↦ inr (default_parts q f.1, nil_untested f.0)
  ]

  pub targets_have : (q : ℕ) → Reads g.edges p c q → Has (targets g p c) q
  targets_have q (inl h) = instead_first (test_targets g p c) (default_targets g p) q (tested_has h.0 q h.1.0 h.1.1)
  targets_have q (inr h) = subst (λ (ts : List ℕ). Has (or_instead ts (default_targets g p)) q) (sym (untested_nil h.1)) (default_has q h.0)

-- the automaton with an index
pub graph_is : (ns : List Graph) (i : ℕ) (g : Graph) → slice_get ns i ≡ Some g → graph_at ns i ≡ g
graph_is ns i g h = get_or_from_slice_get ns i g no_graph h

pub item_targets_place : (ns : List Graph) (c : ℕ) (y z : Item) → Has (item_targets ns c y) z → z.0 ≡ y.0
unfolding item_targets
item_targets_place ns c y z h =
    let m : (q : ℕ) × (Has (targets (graph_at ns y.0) y.1 c) q × ((y.0, q) ≡ z)) = map_has (λ (q : ℕ). (y.0, q)) (targets (graph_at ns y.0) y.1 c) z h in
    ap (λ x. x.0) (sym m.1.1)

pub item_targets_parts : (ns : List Graph) (c : ℕ) (y z : Item) (g : Graph) → slice_get ns y.0 ≡ Some g → Has (item_targets ns c y) z → (z.0 ≡ y.0) × Reads g.edges y.1 c z.1
unfolding item_targets
item_targets_parts ns c y z g at h =
    let m : (q : ℕ) × (Has (targets (graph_at ns y.0) y.1 c) q × ((y.0, q) ≡ z)) = map_has (λ (q : ℕ). (y.0, q)) (targets (graph_at ns y.0) y.1 c) z h in
    let place : z.0 ≡ y.0 = ap (λ x. x.0) (sym m.1.1) in
    let state : m.0 ≡ z.1 = ap (λ x. x.1) m.1.1 in
    let r : Reads (graph_at ns y.0).edges y.1 c m.0 = targets_parts (graph_at ns y.0) y.1 c m.0 m.1.0 in
    let s : Reads g.edges y.1 c m.0 = subst (λ (f : Graph). Reads f.edges y.1 c m.0) (graph_is ns y.0 g at) r in
    (place, subst (λ (q : ℕ). Reads g.edges y.1 c q) state s)

pub item_targets_have : (ns : List Graph) (c : ℕ) (y : Item) (q : ℕ) (g : Graph) → slice_get ns y.0 ≡ Some g → Reads g.edges y.1 c q → Has (item_targets ns c y) (y.0, q)
unfolding item_targets
item_targets_have ns c y q g at r =
    has_map (λ (q : ℕ). (y.0, q)) (targets (graph_at ns y.0) y.1 c) q
    (targets_have (graph_at ns y.0) y.1 c q (subst (λ (f : Graph). Reads f.edges y.1 c q) (sym (graph_is ns y.0 g at)) r))

-- the tree of an automaton of the list
pub compiled_at : (ts : List Tree) (ns : List Graph) → AreCompiled ts ns → (i : ℕ) (g : Graph) → slice_get ns i ≡ Some g → (t : Tree) × ((slice_get ts i ≡ Some t) × IsCompiled t g)
compiled_at ts ns h i g at =
    let l : i < length ns = slice_get_within ns i g at in
    elim (slice_get_cases ts i).1 [
      | inl x ↦ (x.0, (x.2, h.each i x.0 g x.2 at))
      | inr past ↦ absurd (omega (arith, h.same_length, past.0))
    ]

pub compiled_of : (ts : List Tree) (ns : List Graph) → AreCompiled ts ns → (i : ℕ) (t : Tree) → slice_get ts i ≡ Some t → (g : Graph) × ((slice_get ns i ≡ Some g) × IsCompiled t g)
compiled_of ts ns h i t at =
    let l : i < length ts = slice_get_within ts i t at in
    elim (slice_get_cases ns i).1 [
      | inl x ↦ (x.0, (x.2, h.each i t x.0 at x.2))
      | inr past ↦ absurd (omega (arith, h.same_length, past.0))
    ]
