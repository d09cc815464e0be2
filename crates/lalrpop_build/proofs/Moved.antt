-- Where an item of a moved set comes from, and values by which the items of a set take the same edges.
use Rattle.std.proofs.Common.{◌≡◌, ℕ, List, [], sym, subst, ◌∙◌, true, ◌==◌, Some, eqb-true, eq-eqb}
use Rattle.std.specs.List.{slice_get}
use Rattle.lalrpop_hir.specs.Tree.{Tree}
use Rattle.lalrpop_nfa.specs.Graph.{Graph}
use Rattle.lalrpop_nfa.specs.Path.{Path, here, epsilon, read, otherwise, noop}
use Rattle.lalrpop_nfa.specs.Internal.Reads.{Reads}
use Rattle.lalrpop_hir.specs.States.{reject_state}
use Rattle.lalrpop_nfa.specs.Compiled.{IsCompiled}
use Rattle.lalrpop_dfa.specs.Ascending.{Item}
use Rattle.lalrpop_build.specs.Internal.Given.{IsItemOf}
use Rattle.lalrpop_build.specs.Internal.Subsets.{follows_by_epsilon, item_targets, move, is_dead}
use Rattle.lalrpop_hir.proofs.Members.{Has, has_from, contains_from, all_has, all_from_has}
use Rattle.lalrpop_build.proofs.Targets.{item_targets_place, item_targets_parts, item_targets_have}
use Rattle.lalrpop_build.proofs.Sets.{move_parts, move_has, move_ascends, same_items}
use Rattle.lalrpop_build.proofs.Follows.{follows_place, follows_path}

pub dead_states : (s : List Item) → is_dead s ≡ true → (x : Item) → Has s x → x.1 ≡ reject_state
dead_states s d x h = eqb-true x.1 reject_state (all_has (λ (x : Item). x.1 == reject_state) s d x h)

pub dead_from : (s : List Item) → ((x : Item) → Has s x → x.1 ≡ reject_state) → is_dead s ≡ true
dead_from s f = all_from_has (λ (x : Item). x.1 == reject_state) s (λ x h. eq-eqb x.1 reject_state (f x h))

-- only its other edge leaves REJECT
pub reject_path : (t : Tree) (g : Graph) → IsCompiled t g → (q p : ℕ) (w : List ℕ) → Path g.edges q p w → w ≡ [] → p ≡ reject_state → q ≡ reject_state
reject_path t g c q p w (here a same) e r = sym same ∙ r
reject_path t g c q p w (epsilon a b u k s) e r = absurd ((c.noops_in (noop a b) k).2 r)
reject_path t g c q p w (read a b u x d k n s) e r = cc
reject_path t g c q p w (otherwise a b u d k n s) e r = cc

-- where an item of a moved set comes from: an item of the set, an edge and a path that reads nothing
pub record IsMoved (ns : List Graph) (s : List Item) (c : ℕ) (x : Item) : Type 0 where
  pub graph : Graph
  pub at : slice_get ns x.0 ≡ Some graph
  pub item : IsItemOf ns x
  pub first : ℕ
  pub second : ℕ
  pub member : Has s (x.0, first)
  pub edge : Reads graph.edges first c second
  pub end : Path graph.edges x.1 second []
  pub follows : follows_by_epsilon ns (x.0, second) x ≡ true

pub moved : (ns : List Graph) (s : List Item) (c : ℕ) (x : Item) → Has (move ns s c) x → IsMoved ns s c x
moved ns s c x h =
    let p : IsItemOf ns x × ((y z : Item) × (Has s y × Has (item_targets ns c y) z × (follows_by_epsilon ns z x ≡ true))) = move_parts ns s c x h in
    let y : Item = p.1.0 in
    let z : Item = p.1.1 in
    let g : Graph = p.0.0 in
    let first : z.0 ≡ y.0 = item_targets_place ns c y z p.1.2.1 in
    let second : z.0 ≡ x.0 = follows_place ns z x p.1.2.2 in
    let place : y.0 ≡ x.0 = sym first ∙ second in
    let at : slice_get ns y.0 ≡ Some g = subst (λ (i : ℕ). slice_get ns i ≡ Some g) (sym place) p.0.1.0 in
    let edge : (z.0 ≡ y.0) × Reads g.edges y.1 c z.1 = item_targets_parts ns c y z g at p.1.2.1 in
    record {
      graph = g;
      at = p.0.1.0;
      item = p.0;
      first = y.1;
      second = z.1;
      member = subst (λ (i : ℕ). Has s (i, y.1)) place p.1.2.0;
      edge = edge.1;
      end = follows_path ns z x g p.0.1.0 p.1.2.2;
      follows = subst (λ (i : ℕ). follows_by_epsilon ns (i, z.1) x ≡ true) second p.1.2.2;
    }

-- the items take by d what they take by c
abbrev pub TakeAlso : List Graph → List Item → ℕ → ℕ → Type 0
TakeAlso ns s c d = (x : Item) (g : Graph) (p q : ℕ) → slice_get ns x.0 ≡ Some g → Has s (x.0, p) → Reads g.edges p c q → Reads g.edges p d q

-- values by which the items take the same edges lead to the same set
module _ (ns : List Graph) (s : List Item) where
  reads_has : (c d : ℕ) → TakeAlso ns s c d → (x : Item) → Has (move ns s c) x → Has (move ns s d) x
  reads_has c d a x h =
      let m : IsMoved ns s c x = moved ns s c x h in
      move_has ns s d x (x.0, m.first) (x.0, m.second) m.item m.member
      (item_targets_have ns d (x.0, m.first) m.second m.graph m.at (a x m.graph m.first m.second m.at m.member m.edge)) m.follows

  pub reads_moves : (c d : ℕ) → TakeAlso ns s c d → TakeAlso ns s d c → move ns s c ≡ move ns s d
  reads_moves c d a b = same_items (move ns s c) (move ns s d) (move_ascends ns s c) (move_ascends ns s d) (λ x. (
    λ h. contains_from (move ns s d) x (reads_has c d a x (has_from (move ns s c) x h)),
    λ h. contains_from (move ns s c) x (reads_has d c b x (has_from (move ns s d) x h)),
  ))
