-- How states and edges that are added to a graph make the fragments of trees.
use Rattle.std.proofs.Common.{◌≡◌, ◌≢◌, ℕ, zero, suc, ◌<◌, ◌≤◌, ◌+◌, List, [], ◌∷◌, ◌++◌, length, refl, ap, sym, ◌∙◌, arith, length-append, append_assoc, get_or, take}
use Rattle.std.specs.Prelude.{Some, None, map, replicate, max, drop}
use Rattle.std.specs.List.{filter, push}
use Rattle.std.specs.Option.{option_or}
use Rattle.std.proofs.Math.Seq.{drop-cons}
use Rattle.std.proofs.lemmas.List.{length-replicate, append-nil}
use Rattle.std.proofs.lemmas.Bool.{ne_eqb}
use Rattle.std.proofs.lemmas.List.Elements.{filter-append}
use Rattle.lalrpop_hir.specs.Range.{Range}
use Rattle.lalrpop_hir.specs.Tree.{Tree, Trees, none, also}
use Rattle.lalrpop_hir.specs.Parts.{trees}
use Rattle.lalrpop_hir.specs.Internal.Depth.{depth, greatest_depth}
use Rattle.lalrpop_nfa.specs.declared.edge.Edge.{Edge}
use Rattle.lalrpop_nfa.specs.declared.edge.StateKind.{StateKind}
use Rattle.lalrpop_nfa.specs.declared.edge.StateKind.TheVariants.{Neither}
use Rattle.lalrpop_nfa.specs.Graph.{Graph, Lists}
use Rattle.lalrpop_nfa.specs.Walk.{leaves}
use Rattle.lalrpop_nfa.specs.Path.{noop, other}
use Rattle.lalrpop_nfa.specs.Internal.Fragment.{Fragment, Construction, no_edges, fragment_of, joined, noops_to, before, one_of, optional_expr, star_expr, plus_expr, repeat_expr, copies, optional_copies, alternation_expr, branches, extended, fresh_graph, compiled}
use Rattle.lalrpop_hir.specs.States.{accept_state, start_state}
use Rattle.lalrpop_nfa.specs.Compiled.{edges_from}
use Rattle.lalrpop_hir.specs.declared.error.NfaConstructionError.{NfaConstructionError}
use Rattle.lalrpop_hir.specs.Fault.{Fault, fault, first_fault, last_fault}
use Rattle.lalrpop_nfa.specs.Internal.Valid.{IsValid, AreValid}
use Rattle.lalrpop_nfa.specs.Internal.Added.{with_kind, with_edges, with_noops, with_tests}
use Rattle.lalrpop_nfa.specs.Internal.Extends.{KeepsNoops, Extends, Branched, beside}

-- ---- lists of edges

-- none of these edges, one for each element, leaves q, since they all leave another state
filter_map_none : {A L : Type 0} (f : A → Edge L) (s : ℕ) (same : (a : A) → (f a).from ≡ s) (q : ℕ) (xs : List A) → s ≢ q → filter (leaves q) (map f xs) ≡ []
filter_map_none f s same q [] ne = refl
filter_map_none f s same q (a ∷ xs) ne = rw (same a, ne_eqb s q ne) (filter_map_none f s same q xs ne)

-- ---- a new state

kinds_with : (g : Graph) (kind : StateKind) → length (with_kind g kind).kinds ≡ length g.kinds + 1
kinds_with g kind = rw length-append refl

-- a new state still has no edge that reads nothing after other states got theirs
pub noops_new : (g h k : Graph) (s : ℕ) → s ≡ length g.kinds → h ≡ with_kind g Neither → edges_from s h.edges ≡ no_edges → KeepsNoops h k → filter (leaves s) k.edges.noops ≡ []
noops_new g h k s t u bare kept =
    let m : length h.kinds ≡ length g.kinds + 1 = rw u (kinds_with g Neither) in
    kept s (omega arith) ∙ ap (λ (e : Lists). e.noops) bare

-- ---- fragments

replicate_add : {A : Type 0} (m n : ℕ) (x : A) → replicate m x ++ replicate n x ≡ replicate (m + n) x
replicate_add zero n x = let e : zero + n ≡ n = omega arith in rw e refl
replicate_add (suc m) n x = let e : suc m + n ≡ suc (m + n) = omega arith in rw e (ap (λ ys. x ∷ ys) (replicate_add m n x))

kinds_extended : (g : Graph) (s : Fragment) → length (extended g s).kinds ≡ length g.kinds + s.size
kinds_extended g s = rw (length-append, length-replicate) refl

extended_twice : (g : Graph) (y x : Fragment) (s : ℕ) → extended (extended g y) x ≡ extended g (record { size = y.size + x.size; entry = s; edges = joined y.edges x.edges })
extended_twice g y x s = rw (← replicate_add y.size x.size Neither) (simp append_assoc)

pub Extends-kinds : (x : Construction) (target entry : ℕ) (g h : Graph) → Extends x target g h entry → length h.kinds ≡ length g.kinds + (x target (length g.kinds)).size
Extends-kinds x target entry g h a = rw a.graph (kinds_extended g (x target (length g.kinds)))

pub Extends-before : (x y : Construction) (target mid entry : ℕ) (g h k : Graph) → Extends y target g h mid → Extends x mid h k entry → Extends (before x y) target g k entry
Extends-before x y target mid entry g h k a b =
    let m = Extends-kinds y target mid g h a in
    let s = y target (length g.kinds) in
    let r = x s.entry (length g.kinds + s.size) in
    record {
      begins = rw (m, a.begins) at b.begins;
      graph = rw (m, a.begins) at b.graph ∙ (ap (λ j. extended j r) a.graph ∙ extended_twice g s r r.entry);
      kept = λ q l. b.kept q (omega arith) ∙ a.kept q l;
    }

-- ---- edges from one new state

pub take_past : {X : Type 0} (i : ℕ) (xs : List X) → length xs ≤ i → take i xs ≡ xs
take_past zero [] h = refl
take_past zero (x ∷ xs) h = absurd (omega arith)
take_past (suc i) [] h = refl
take_past (suc i) (x ∷ xs) h = ap (λ ys. x ∷ ys) (take_past i xs (omega arith))

kept_noops : (k l : Graph) (s : ℕ) (qs : List ℕ) (q : ℕ) → s ≢ q → l ≡ with_noops k s qs → filter (leaves q) l.edges.noops ≡ filter (leaves q) k.edges.noops
kept_noops k l s qs q ne is = rw is (filter-append (leaves q) k.edges.noops (map (noop s) qs) ∙ rw (filter_map_none (noop s) s (λ a. refl) q qs ne) (append-nil (filter (leaves q) k.edges.noops)))

alternation_extended : (g : Graph) (a : Fragment) (s entry : ℕ) (qs : List ℕ) → with_noops (extended (with_kind g Neither) a) s qs ≡ extended g (record { size = a.size + 1; entry = entry; edges = joined a.edges (noops_to s qs) })
alternation_extended g a s entry qs = let e : a.size + 1 ≡ suc a.size = omega arith in rw e (simp (append_assoc, append-nil))

-- a state, then a fragment, then the edges of the state
module _ (x : Construction) (target s sub_entry : ℕ) (g h k l : Graph) (qs : List ℕ) (t : s ≡ length g.kinds) (u : h ≡ with_kind g Neither) (a : Extends x target h k sub_entry) (w : l ≡ with_noops k s qs) where
  one_more : length h.kinds ≡ length g.kinds + 1
  one_more = rw u (kinds_with g Neither)

  alternated : (entry : ℕ) → l ≡ extended g (record { size = (x target (length g.kinds + 1)).size + 1; entry = entry; edges = joined (x target (length g.kinds + 1)).edges (noops_to (length g.kinds) qs) })
  alternated entry = rw (w, a.graph, one_more, u, t) (alternation_extended g (x target (length g.kinds + 1)) (length g.kinds) entry qs)

  alternated_kept : KeepsNoops g l
  alternated_kept q below = let m = one_more in kept_noops k l s qs q (omega arith) w ∙ (a.kept q (omega arith) ∙ rw u refl)

module _ (x : Construction) (target s sub_entry : ℕ) (g h k l : Graph) where
  pub Extends-star_expr : s ≡ length g.kinds → h ≡ with_kind g Neither → Extends x s h k sub_entry → l ≡ with_noops k s (target ∷ sub_entry ∷ []) → Extends (star_expr x) target g l s
  Extends-star_expr t u a w = record {
    begins = t;
    graph = alternated x s s sub_entry g h k l (target ∷ sub_entry ∷ []) t u a w (length g.kinds) ∙ (rw (a.begins, one_more x s s sub_entry g h k l (target ∷ sub_entry ∷ []) t u a w, t) refl);
    kept = alternated_kept x s s sub_entry g h k l (target ∷ sub_entry ∷ []) t u a w;
  }

  pub Extends-plus_expr : s ≡ length g.kinds → h ≡ with_kind g Neither → Extends x s h k sub_entry → l ≡ with_noops k s (target ∷ sub_entry ∷ []) → Extends (plus_expr x) target g l sub_entry
  Extends-plus_expr t u a w = let e = Extends-star_expr t u a w in record {
    begins = rw (one_more x s s sub_entry g h k l (target ∷ sub_entry ∷ []) t u a w, t) at a.begins;
    graph = e.graph;
    kept = e.kept;
  }

  -- the fragment first, then the state and its edges
  pub Extends-optional_expr : Extends x target g h sub_entry → s ≡ length h.kinds → k ≡ with_kind h Neither → l ≡ with_noops k s (target ∷ sub_entry ∷ []) → Extends (optional_expr x) target g l s
  Extends-optional_expr a t u w =
      let m = Extends-kinds x target sub_entry g h a in
      let n : length k.kinds ≡ length h.kinds + 1 = rw u (kinds_with h Neither) in
      record {
        begins = t ∙ m;
        graph = rw (w, u, t, m, a.begins, a.graph, ← replicate_add (x target (length g.kinds)).size 1 Neither) (simp (append_assoc, append-nil));
        kept = λ q l'. kept_noops k l s (target ∷ sub_entry ∷ []) q (omega arith) w ∙ (rw u refl ∙ a.kept q l');
      }

pub Extends-one_of : (rs : List Range) (target s : ℕ) (g h i k : Graph) → s ≡ length g.kinds → h ≡ with_kind g Neither
    → i ≡ with_tests h s rs target → k ≡ with_edges i (record i.edges { others = i.edges.others ++ other s 1 ∷ [] }) → Extends (one_of rs) target g k s
Extends-one_of rs target s g h i k t u v w = record {
  begins = t;
  graph = rw (w, v, u, t) (simp append-nil);
  kept = λ q l. rw (w, v, u) refl;
}

-- ---- branches

pub Branched-next : (target : ℕ) (all ts : Trees) (t : Tree) (g h k : Graph) (es : List ℕ) (q : ℕ) → Branched target all (also t ts) g h es → Extends (fragment_of t) target h k q → length g.kinds ≤ length h.kinds → Branched target all ts g k (es ++ q ∷ [])
Branched-next target all ts t g h k es q a b long =
    let m = Extends-kinds (fragment_of t) target q h k b in
    let s = fragment_of t target (length h.kinds) in
    record {
      begin = append_assoc es (q ∷ []) (branches ts target (length k.kinds)).entries ∙ (rw (m, b.begins) a.begin);
      graph = rw m (ap (λ j. extended j (beside (branches ts target (length h.kinds + s.size)))) b.graph ∙ (extended_twice h s (beside (branches ts target (length h.kinds + s.size))) 0 ∙ a.graph));
      kept = λ p l. b.kept p (omega arith) ∙ a.kept p l;
    }

pub Extends-alternation_expr : (ts : Trees) (target s : ℕ) (g h k l : Graph) (es : List ℕ) → s ≡ length g.kinds → h ≡ with_kind g Neither → Branched target ts none h k es → l ≡ with_noops k s es → Extends (alternation_expr (branches ts)) target g l s
Extends-alternation_expr ts target s g h k l es t u a w =
    let m : length h.kinds ≡ length g.kinds + 1 = rw u (kinds_with g Neither) in
    let b = branches ts target (length g.kinds + 1) in
    let whole : k ≡ extended h (beside (branches ts target (length h.kinds))) = simp append-nil at a.graph in
    let all : es ≡ (branches ts target (length h.kinds)).entries = simp append-nil at a.begin in
    let n : length k.kinds ≡ length h.kinds + (branches ts target (length h.kinds)).size = rw whole (kinds_extended h (beside (branches ts target (length h.kinds)))) in
    record {
      begins = t;
      graph = rw (w, whole, all, m, u, t) (alternation_extended g (beside b) (length g.kinds) (length g.kinds) b.entries);
      kept = λ q below. kept_noops k l s es q (omega arith) w ∙ (a.kept q (omega arith) ∙ rw u refl);
    }

-- ---- lists of trees

option_or_none : (a : Fault) → option_or None a ≡ option_or a None
option_or_none None = refl
option_or_none (Some x) = refl

option_or_assoc : (a b c : Fault) → option_or (option_or a b) c ≡ option_or a (option_or b c)
option_or_assoc None b c = refl
option_or_assoc (Some x) b c = refl

last_fault-push : (ts : List Tree) (t : Tree) → last_fault (trees (ts ++ t ∷ [])) ≡ option_or (fault t) (last_fault (trees ts))
last_fault-push [] t = option_or_none (fault t)
last_fault-push (u ∷ ts) t =
    ap (λ f. option_or f (fault u)) (last_fault-push ts t) ∙ option_or_assoc (fault t) (last_fault (trees ts)) (fault u)

greatest_depth-push : (ts : List Tree) (t : Tree) → greatest_depth (trees (ts ++ t ∷ [])) ≡ max (depth t) (greatest_depth (trees ts))
greatest_depth-push [] t = omega arith
greatest_depth-push (u ∷ ts) t = omega (arith, greatest_depth-push ts t)

-- a list that ends with t
module _ (xs ys : List Tree) (t : Tree) (is : ys ≡ push xs t) where
  last_is : last_fault (trees ys) ≡ option_or (fault t) (last_fault (trees xs))
  last_is = ap (λ zs. last_fault (trees zs)) is ∙ last_fault-push xs t

  greatest_is : greatest_depth (trees ys) ≡ max (depth t) (greatest_depth (trees xs))
  greatest_is = ap (λ zs. greatest_depth (trees zs)) is ∙ greatest_depth-push xs t

  pub below-last : (n : ℕ) → greatest_depth (trees ys) ≤ n → depth t ≤ n
  below-last n h = omega (arith, greatest_is)

  pub below-front : (n : ℕ) → greatest_depth (trees ys) ≤ n → greatest_depth (trees xs) ≤ n
  below-front n h = omega (arith, greatest_is)

  pub fault-last : (e : NfaConstructionError) (f : Fault) → fault t ≡ Some e → last_fault (trees ys) ≡ f → f ≡ Some e
  fault-last e f h g = sym g ∙ (last_is ∙ rw h refl)

  pub fault-front : (f : Fault) → fault t ≡ None → last_fault (trees ys) ≡ f → last_fault (trees xs) ≡ f
  fault-front f h g = (rw h at (sym {a = last_fault (trees ys)} {b = option_or (fault t) (last_fault (trees xs))} last_is)) ∙ g

  pub moved : (all done : List Tree) → all ≡ ys ++ done → all ≡ xs ++ t ∷ done
  moved all done e = e ∙ (ap (λ zs. zs ++ done) is ∙ append_assoc xs (t ∷ []) done)

pub drop_past : {X : Type 0} (i : ℕ) (xs : List X) → length xs ≤ i → drop i xs ≡ []
drop_past zero [] h = refl
drop_past zero (x ∷ xs) h = absurd (omega arith)
drop_past (suc i) [] h = refl
drop_past (suc i) (x ∷ xs) h = drop_past i xs (omega arith)

pub drop_next : {X : Type 0} (xs : List X) (i : ℕ) (x : X) → i < length xs → x ≡ get_or xs i x → drop i xs ≡ x ∷ drop (i + 1) xs
drop_next xs i x inside is = let e : i + 1 ≡ suc i = omega arith in rw e (drop-cons xs i x inside ∙ ap (λ y. y ∷ drop (suc i) xs) (sym is))

-- one part of several compiled
module _ (all : List Tree) (i : ℕ) (t : Tree) (inside : i < length all) (is : t ≡ get_or all i t) where
  pub first_fault-next : fault t ≡ None → first_fault (trees (drop i all)) ≡ first_fault (trees all) → first_fault (trees (drop (i + 1) all)) ≡ first_fault (trees all)
  first_fault-next compilable h = rw compilable at (rw (drop_next all i t inside is) at h)

  pub AreValid-next : IsValid t → (AreValid (trees (drop i all)) → AreValid (trees all)) → AreValid (trees (drop (i + 1) all)) → AreValid (trees all)
  AreValid-next s f a = f (rw (drop_next all i t inside is) (s, a))

  pub Branched-more : (target : ℕ) (g h k : Graph) (es : List ℕ) (q : ℕ) → Branched target (trees all) (trees (drop i all)) g h es → Extends (fragment_of t) target h k q → length g.kinds ≤ length h.kinds → Branched target (trees all) (trees (drop (i + 1) all)) g k (es ++ q ∷ [])
  Branched-more target g h k es q a b long = Branched-next target (trees all) (trees (drop (i + 1) all)) t g h k es q (rw (drop_next all i t inside is) at a) b long

pub repeat_more : (x : Construction) (min : ℕ) → min ≢ 0 → min ≢ 1 → repeat_expr x min None ≡ before (copies x min) (star_expr x)
repeat_more x zero m n = absurd (m refl)
repeat_more x (suc zero) m n = absurd (n refl)
repeat_more x (suc (suc k)) m n = refl

-- one more copy before the others
module _ (x : Construction) (n target mid entry : ℕ) (g h k : Graph) where
  pub Extends-copies : Extends (copies x n) target g h mid → Extends x mid h k entry → Extends (copies x (n + 1)) target g k entry
  Extends-copies a b = let e : n + 1 ≡ suc n = omega arith in rw e (Extends-before x (copies x n) target mid entry g h k a b)

  pub Extends-optional_copies : Extends (optional_copies x n) target g h mid → Extends (optional_expr x) mid h k entry → Extends (optional_copies x (n + 1)) target g k entry
  Extends-optional_copies a b = let e : n + 1 ≡ suc n = omega arith in rw e (Extends-before (optional_expr x) (optional_copies x n) target mid entry g h k a b)

-- the whole automaton: a fresh one, the tree's fragment, and START's edge
pub compiled_extended : (t : Tree) (g h k : Graph) (entry : ℕ) → g ≡ fresh_graph → Extends (fragment_of t) accept_state g h entry → k ≡ with_edges h (record h.edges { noops = h.edges.noops ++ noop start_state entry ∷ [] }) → k ≡ compiled t
compiled_extended t g h k entry u a w = rw (w, a.graph, a.begins, u) (simp append-nil)
