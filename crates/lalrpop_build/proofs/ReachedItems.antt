-- The set after a word holds the items that the word leads to.
use Rattle.std.proofs.Common.{◌≡◌, ℕ, zero, suc, ◌+◌, ◌↔◌, inl, inr, List, [], ◌∷◌, ◌++◌, refl, ap, sym, subst, ◌∙◌, arith, true, Some}
use Rattle.std.specs.List.{Contains, slice_get}
use Rattle.lalrpop_hir.specs.Tree.{Tree}
use Rattle.lalrpop_nfa.specs.Graph.{Graph}
use Rattle.lalrpop_nfa.specs.Path.{Path}
use Rattle.lalrpop_nfa.specs.Internal.Reads.{Reads}
use Rattle.lalrpop_hir.specs.States.{start_state}
use Rattle.lalrpop_nfa.specs.Compiled.{IsCompiled}
use Rattle.lalrpop_nfa.specs.Automata.{AreCompiled}
use Rattle.lalrpop_dfa.specs.Ascending.{Item, AreAscendingItems}
use Rattle.lalrpop_build.specs.Items.{IsReached}
use Rattle.lalrpop_build.specs.Internal.Given.{IsItemOf}
use Rattle.lalrpop_build.specs.Internal.Subsets.{follows_by_epsilon, item_targets, move, starts_from, first_set_of}
use Rattle.lalrpop_build.specs.Internal.BreadthFirst.{after}
use Rattle.lalrpop_build.specs.Internal.Built.{subset_automaton}
use Rattle.lalrpop_hir.proofs.Members.{Has, has_from, contains_from}
use Rattle.lalrpop_build.proofs.WordOrder.{from_the_end}
use Rattle.lalrpop_build.proofs.BreadthFirst.{after_push}
use Rattle.lalrpop_nfa.proofs.PathLemmas.{path_join, path_split, path_edge, path_inside}
use Rattle.lalrpop_build.proofs.Targets.{item_targets_parts, item_targets_have, compiled_at}
use Rattle.lalrpop_build.proofs.Sets.{closed_parts, closed_has, move_parts, move_has, first_set_ascends, move_ascends}
use Rattle.lalrpop_build.proofs.Follows.{follows_place, follows_path, path_follows}

-- where the START states are
starts_parts : (i : ℕ) (gs : List Graph) (y : Item) → Has (starts_from i gs) y → y.1 ≡ start_state
starts_parts i [] y h = absurd h
starts_parts i (g ∷ gs) y (inl e) = ap (λ z. z.1) (sym e)
starts_parts i (g ∷ gs) y (inr h) = starts_parts (i + 1) gs y h

starts_have : (gs : List Graph) (i j k : ℕ) (g : Graph) → k ≡ i + j → slice_get gs j ≡ Some g → Has (starts_from i gs) (k, start_state)
starts_have [] i j k g e at = cc
starts_have (f ∷ gs) i zero k g e at = inl (let same : i ≡ k = omega arith in ap (λ (n : ℕ). (n, start_state)) same)
starts_have (f ∷ gs) i (suc j) k g e at = inr (starts_have gs (i + 1) j k g (omega arith) at)

module _ (ns : List Graph) where
  -- each set after a word ascends
  pub after_ascends : (w : List ℕ) → AreAscendingItems (after (subset_automaton ns) (first_set_of ns) w)
  after_ascends = from_the_end (λ (w : List ℕ). AreAscendingItems (after (subset_automaton ns) (first_set_of ns) w)) (first_set_ascends ns)
      (λ w c _. rw (after_push (subset_automaton ns) (first_set_of ns) w c) (move_ascends ns (after (subset_automaton ns) (first_set_of ns) w) c))

module _ (ts : List Tree) (ns : List Graph) (h : AreCompiled ts ns) where
  abbrev HoldsReached : List Item → List ℕ → Type 0
  HoldsReached s w = (x : Item) → Has s x ↔ IsReached ns w x

  reached_item : (w : List ℕ) (x : Item) → IsReached ns w x → IsItemOf ns x
  reached_item w x r =
      let c : (t : Tree) × ((slice_get ts x.0 ≡ Some t) × IsCompiled t r.0) = compiled_at ts ns h x.0 r.0 r.1.0 in
      (r.0, (r.1.0, path_inside c.0 r.0 c.1.1 x.1 start_state w c.1.1.start_in r.1.1))

  first_reached : HoldsReached (first_set_of ns) []
  unfolding first_set_of
  first_reached x = (
    λ k.
        let p : IsItemOf ns x × ((y : Item) × (Has (starts_from 0 ns) y × (follows_by_epsilon ns y x ≡ true))) = closed_parts ns (starts_from 0 ns) x k in
        let g : Graph = p.0.0 in
        (g, (p.0.1.0, subst (λ (q : ℕ). Path g.edges x.1 q []) (starts_parts 0 ns p.1.0 p.1.1.0) (follows_path ns p.1.0 x g p.0.1.0 p.1.1.1))),
    λ r.
        let c : (t : Tree) × ((slice_get ts x.0 ≡ Some t) × IsCompiled t r.0) = compiled_at ts ns h x.0 r.0 r.1.0 in
        closed_has ns (starts_from 0 ns) x (x.0, start_state) (reached_item [] x r) (starts_have ns 0 x.0 x.0 r.0 (omega arith) r.1.0)
        (path_follows ns c.0 (x.0, start_state) x r.0 c.1.1 r.1.0 refl r.1.1),
  )

  move_reached : (s : List Item) (w : List ℕ) (c : ℕ) → HoldsReached s w → HoldsReached (move ns s c) (w ++ c ∷ [])
  move_reached s w c before x = (to, back)
    where
      to : Has (move ns s c) x → IsReached ns (w ++ c ∷ []) x
      to k =
          let p : IsItemOf ns x × ((y z : Item) × (Has s y × Has (item_targets ns c y) z × (follows_by_epsilon ns z x ≡ true))) = move_parts ns s c x k in
          let y : Item = p.1.0 in
          let z : Item = p.1.1 in
          let r : IsReached ns w y = (before y).0 p.1.2.0 in
          let g : Graph = r.0 in
          let edge : (z.0 ≡ y.0) × Reads g.edges y.1 c z.1 = item_targets_parts ns c y z g r.1.0 p.1.2.1 in
          let place : y.0 ≡ x.0 = sym edge.0 ∙ follows_place ns z x p.1.2.2 in
          let at : slice_get ns x.0 ≡ Some g = subst (λ (i : ℕ). slice_get ns i ≡ Some g) place r.1.0 in
          let end : Path g.edges x.1 z.1 [] = follows_path ns z x g at p.1.2.2 in
          (g, (at, path_join g.edges x.1 y.1 (c ∷ []) (path_edge g.edges x.1 c y.1 z.1 edge.1 end) start_state w r.1.1))

      back : IsReached ns (w ++ c ∷ []) x → Has (move ns s c) x
      back r =
          let g : Graph = r.0 in
          let t : (t : Tree) × ((slice_get ts x.0 ≡ Some t) × IsCompiled t g) = compiled_at ts ns h x.0 g r.1.0 in
          let p = path_split g.edges x.1 c start_state w r.1.1 in
          move_has ns s c x (x.0, p.0) (x.0, p.1) (reached_item (w ++ c ∷ []) x r) ((before (x.0, p.0)).1 (g, (r.1.0, p.2.0)))
          (item_targets_have ns c (x.0, p.0) p.1 g r.1.0 p.2.1)
          (path_follows ns t.0 (x.0, p.1) x g t.1.1 r.1.0 refl p.2.2)

  pub after_has : (w : List ℕ) (x : Item) → Has (after (subset_automaton ns) (first_set_of ns) w) x ↔ IsReached ns w x
  after_has = from_the_end (λ (w : List ℕ). HoldsReached (after (subset_automaton ns) (first_set_of ns) w) w) first_reached
      (λ w c before. rw (after_push (subset_automaton ns) (first_set_of ns) w c) (move_reached (after (subset_automaton ns) (first_set_of ns) w) w c before))

  -- the set after a word holds the items that the word leads to
  pub reached_items : (w : List ℕ) (x : Item) → Contains (after (subset_automaton ns) (first_set_of ns) w) x ↔ IsReached ns w x
  reached_items w x = (
    λ k. (after_has w x).0 (has_from (after (subset_automaton ns) (first_set_of ns) w) x k),
    λ r. contains_from (after (subset_automaton ns) (first_set_of ns) w) x ((after_has w x).1 r),
  )
