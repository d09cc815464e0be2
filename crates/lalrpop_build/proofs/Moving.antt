-- Where items lead by a value, edge by edge.
use Rattle.std.proofs.Common.{◌≡◌, ℕ, ◌<◌, List, [], ◌∷◌, length, map, refl, ap, sym, subst, arith, true, false, cond, ◌==◌, inl, inr}
use Rattle.std.specs.Prelude.{slice_get, Some}
use Rattle.std.specs.List.{filter, flat_map}
use Rattle.lalrpop_nfa.specs.Graph.{Graph}
use Rattle.lalrpop_dfa.specs.Ascending.{Item}
use Rattle.lalrpop_nfa.specs.Walk.{leaves}
use Rattle.lalrpop_build.specs.Internal.Subsets.{default_targets, item_targets}
use Rattle.lalrpop_build.specs.Internal.Taken.{targets_of_run}
use Rattle.lalrpop_build.specs.declared.transitions.Transition.{Transition}
use Rattle.lalrpop_nfa.specs.declared.edge.Edge.{Edge}
use Rattle.lalrpop_nfa.specs.Path.{test, other}
use Rattle.lalrpop_build.specs.Internal.Given.{AreAutomata, AreItemsOf}
use Rattle.lalrpop_hir.proofs.Members.{has_from, contains_from, flat_map_has}
use Rattle.lalrpop_build.proofs.Targets.{compiled_at, graph_is, item_targets_parts}

module _ {L : Type 0} (i p : ℕ) where
  pub default_start : (es : List (Edge L)) → map (λ (e : Edge L). let z : Item = (i, e.to) in z) (filter (leaves p) es) ≡ map (λ q. let z : Item = (i, q) in z) (map (λ (e : Edge L). e.to) (filter (λ (e : Edge L). e.from == p) es))
  default_start [] = refl
  default_start (e ∷ es) =
      elim (e.from == p) as (λ b.
      map (λ (e : Edge L). let z : Item = (i, e.to) in z) (cond b (e ∷ filter (leaves p) es) (filter (leaves p) es))
      ≡ map (λ q. let z : Item = (i, q) in z) (map (λ (e : Edge L). e.to) (cond b (e ∷ filter (λ (e : Edge L). e.from == p) es) (filter (λ (e : Edge L). e.from == p) es)))) [
        | true ↦ ap (λ ys. let z : Item = (i, e.to) in z ∷ ys) (default_start es)
        | false ↦ default_start es
      ]

-- if there is no test edge, the other edges lead
pub bare_run : (ns : List Graph) (x : Item) (g : Graph) → slice_get ns x.0 ≡ Some g → map (λ q. let z : Item = (x.0, q) in z) (default_targets g x.1) ≡ targets_of_run ns x []
unfolding targets_of_run
bare_run ns x g at = rw (graph_is ns x.0 g at) refl

-- otherwise only the test edges do
pub edges_run : (ns : List Graph) (x : Item) (run : List Transition) → (length run ≡ 0 → ⊥) → map (λ (e : Transition). let z : Item = (x.0, e.to) in z) run ≡ targets_of_run ns x run
unfolding targets_of_run
edges_run ns x [] some = absurd (some refl)
edges_run ns x (e ∷ run) some = ap (λ ys. let z : Item = (x.0, e.to) in z ∷ ys) (rest run)
  where
    rest : (es : List Transition) → map (λ (e : Transition). let z : Item = (x.0, e.to) in z) es ≡ map (λ q. let z : Item = (x.0, q) in z) (map (λ (e : Transition). e.to) es)
    rest [] = refl
    rest (e ∷ es) = ap (λ ys. let z : Item = (x.0, e.to) in z ∷ ys) (rest es)

-- the target of an item by a value is an item
pub targets_inside : (ns : List Graph) (c : ℕ) (s : List Item) → AreAutomata ns → AreItemsOf ns s → AreItemsOf ns (flat_map (item_targets ns c) s)
targets_inside ns c s a inside z h =
    let (y, f) = flat_map_has (item_targets ns c) s z (has_from (flat_map (item_targets ns c) s) z h) in
    let (g, at) = inside y (contains_from s y f.0) in
    let r = item_targets_parts ns c y z g at.0 f.1 in
    let k = compiled_at a.0 ns a.1 y.0 g at.0 in
    let small : z.1 < length g.kinds = elim r.1 [
      | inl t ↦ (k.1.1.tests_in (test y.1 t.0 z.1) t.1.0).1
      | inr o ↦ (let e : z.1 ≡ 1 = (k.1.1.others_in (other y.1 z.1) o.0).1 in omega (arith, e, k.1.1.start_in))
    ] in
    (g, (subst (λ i. slice_get ns i ≡ Some g) (sym r.0) at.0, small))
