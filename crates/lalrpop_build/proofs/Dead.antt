-- Dead sets, and values that the labels treat alike.
use Rattle.std.proofs.Common.{◌≡◌, ℕ, ◌<◌, ◌≤◌, inl, inr, List, [], refl, arith, true, Some}
use Rattle.std.specs.List.{Contains, slice_get}
use Rattle.lalrpop_hir.specs.Range.{Range, Covers}
use Rattle.lalrpop_hir.specs.Tree.{Tree}
use Rattle.lalrpop_nfa.specs.Graph.{Graph}
use Rattle.lalrpop_nfa.specs.Path.{test, other}
use Rattle.lalrpop_nfa.specs.Internal.Reads.{Reads}
use Rattle.lalrpop_hir.specs.States.{reject_state}
use Rattle.lalrpop_nfa.specs.Compiled.{IsCompiled}
use Rattle.lalrpop_nfa.specs.Partition.{IsCovered, Alike}
use Rattle.lalrpop_nfa.specs.Automata.{AreCompiled}
use Rattle.lalrpop_dfa.specs.Ascending.{Item}
use Rattle.lalrpop_build.specs.Items.{IsLeaving}
use Rattle.lalrpop_build.specs.Internal.Given.{AreAutomata}
use Rattle.lalrpop_build.specs.Internal.Transitions.{AreTransitions}
use Rattle.lalrpop_build.specs.declared.transitions.Transition.{Transition}
use Rattle.lalrpop_hir.proofs.Contained.{contains_none}
use Rattle.lalrpop_build.specs.Internal.Subsets.{move, is_dead}
use Rattle.lalrpop_build.specs.Internal.BreadthFirst.{DeadStays}
use Rattle.lalrpop_build.specs.Internal.Built.{subset_automaton}
use Rattle.lalrpop_hir.proofs.Members.{Has, contains_from}
use Rattle.lalrpop_build.proofs.Targets.{compiled_at}
use Rattle.lalrpop_build.proofs.Moved.{dead_states, dead_from, reject_path, IsMoved, moved, TakeAlso, reads_moves}

module _ (ts : List Tree) (ns : List Graph) (h : AreCompiled ts ns) where
  -- if each edge that is taken is an other edge, the moved set is dead
  otherwise_dead : (s : List Item) (c : ℕ) → ((x : Item) (g : Graph) (r : Range) (q : ℕ) → Has s x → slice_get ns x.0 ≡ Some g → Contains g.edges.tests (test x.1 r q) → Covers r c → ⊥) → is_dead (move ns s c) ≡ true
  otherwise_dead s c none = dead_from (move ns s c) (λ x k. ends x (moved ns s c x k))
    where
      lands : (x : Item) (g : Graph) (t : Tree) → IsCompiled t g → slice_get ns x.0 ≡ Some g → (p q : ℕ) → Has s (x.0, p) → Reads g.edges p c q → q ≡ reject_state
      lands x g t k at p q m (inl r) = absurd (none (x.0, p) g r.0 q m at r.1.0 r.1.1)
      lands x g t k at p q m (inr r) = (k.others_in (other p q) r.0).1

      ends : (x : Item) → IsMoved ns s c x → x.1 ≡ reject_state
      ends x m =
          let k : (t : Tree) × IsCompiled t m.graph = (let z = compiled_at ts ns h x.0 m.graph m.at in (z.0, z.1.1)) in
          reject_path k.0 m.graph k.1 x.1 m.second [] m.end refl (lands x m.graph k.0 k.1 m.at m.first m.second m.member m.edge)

  -- dead sets lead only to dead sets
  pub dead_stays : DeadStays (subset_automaton ns)
  dead_stays s c d = otherwise_dead s c (λ x g r q m at k n.
      let z = compiled_at ts ns h x.0 g at in
      (z.1.1.tests_in (test x.1 r q) k).2 (dead_states s d x m))

  -- a value that no label covers leads to a dead set
  pub uncovered_dead : (s : List Item) (c : ℕ) → (IsCovered (IsLeaving ns s) c → ⊥) → is_dead (move ns s c) ≡ true
  uncovered_dead s c none = otherwise_dead s c (λ x g r q m at k n. none (r, ((x, g, q, (contains_from s x m, at, k)), n)))

  -- labels end below this value
  pub covered_small : (s : List Item) (c : ℕ) → IsCovered (IsLeaving ns s) c → c ≤ 1114111
  covered_small s c r =
      let l : IsLeaving ns s r.0 = r.1.0 in
      let z = compiled_at ts ns h l.0.0 l.1 l.3.1 in
      let b = (z.1.1.labels (test l.0.1 r.0 l.2) l.3.2).2 in
      omega (arith, b, r.1.1.1)

  pub large_uncovered : (s : List Item) (c : ℕ) → 1114111 < c → IsCovered (IsLeaving ns s) c → ⊥
  large_uncovered s c l r = omega (arith, covered_small s c r)

  pub large_dead : (s : List Item) (c : ℕ) → 1114111 < c → is_dead (move ns s c) ≡ true
  large_dead s c l = uncovered_dead s c (large_uncovered s c l)

-- values in the same labels lead to the same set
module _ (ns : List Graph) (s : List Item) where
  alike_reads : (c d : ℕ) → Alike (IsLeaving ns s) c d → TakeAlso ns s c d
  alike_reads c d a x g p q at m (inl r) = inl (r.0, (r.1.0, (a r.0 ((x.0, p), g, q, (contains_from s (x.0, p) m, at, r.1.0))).0 r.1.1))
  alike_reads c d a x g p q at m (inr r) = inr (r.0, λ t e k n. r.1 t e k ((a t ((x.0, p), g, e, (contains_from s (x.0, p) m, at, k))).1 n))

  pub alike_back : (c d : ℕ) → Alike (IsLeaving ns s) c d → Alike (IsLeaving ns s) d c
  alike_back c d a r h = ((a r h).1, (a r h).0)

  pub alike_moves : (c d : ℕ) → Alike (IsLeaving ns s) c d → move ns s c ≡ move ns s d
  alike_moves c d a = reads_moves ns s c d (alike_reads c d a) (alike_reads d c (alike_back c d a))

  -- two values that no label covers lead to the same set
  pub uncovered_same : (c d : ℕ) → (IsCovered (IsLeaving ns s) c → ⊥) → (IsCovered (IsLeaving ns s) d → ⊥) → move ns s c ≡ move ns s d
  uncovered_same c d a b = alike_moves c d (λ r h. ((λ k. absurd (a (r, (h, k)))), (λ k. absurd (b (r, (h, k))))))

-- a value above all labels takes no test edge
pub takes_none : (ns : List Graph) (a : AreAutomata ns) (s : List Item) (v : ℕ) (leads : List Transition) → 1114111 < v → leads ≡ [] → AreTransitions ns s v leads
takes_none ns a s v leads large none l = (
  λ h. absurd (contains_none l (rw none at h)),
  λ (g, r, (member, at, edge, low)). absurd (large_uncovered a.0 ns a.1 s v large (r, ((l.item, g, l.to, (member, at, edge)), low))),
)
