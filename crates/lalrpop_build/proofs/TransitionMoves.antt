-- Values that take the same test edges lead to the same set.
use Rattle.std.proofs.Common.{◌≡◌, ℕ, inl, inr, List, subst, sym, ◌∙◌, Some}
use Rattle.std.specs.List.{Contains}
use Rattle.std.specs.List.Sorted.{IsPermutation}
use Rattle.std.proofs.lemmas.List.Sorted.{Contains-permutation, IsPermutation-sym}
use Rattle.lalrpop_nfa.specs.Graph.{Graph}
use Rattle.lalrpop_nfa.specs.Path.{test}
use Rattle.lalrpop_dfa.specs.Ascending.{Item}
use Rattle.lalrpop_build.specs.Internal.Subsets.{move}
use Rattle.lalrpop_build.specs.Internal.Transitions.{IsTransition, AreTransitions}
use Rattle.lalrpop_build.specs.declared.transitions.Transition.{Transition}
use Rattle.lalrpop_hir.proofs.Members.{contains_from}
use Rattle.lalrpop_build.proofs.Moved.{TakeAlso, reads_moves}

module _ (ns : List Graph) (s : List Item) (leads : List Transition) where
  also_leads : (c d : ℕ) → AreTransitions ns s c leads → AreTransitions ns s d leads → (x : Item) (q : ℕ) → IsTransition ns s c x q → IsTransition ns s d x q
  also_leads c d f g x q h = let l : Transition = record { item = x; to = q } in (g l).0 ((f l).1 h)

  also_take : (c d : ℕ) → AreTransitions ns s c leads → AreTransitions ns s d leads → TakeAlso ns s c d
  also_take c d a b x g p q at m (inl (r, (edge, low))) =
      let (h, t, (member, there, edge2, low2)) = also_leads c d a b (x.0, p) q (g, r, (contains_from s (x.0, p) m, at, edge, low)) in
      let same : h ≡ g = (let e : Some h ≡ Some g = sym there ∙ at in cc) in
      inl (t, (subst (λ (k : Graph). Contains k.edges.tests (test p t q)) same edge2, low2))
  also_take c d a b x g p q at m (inr (edge, none)) = inr (
    edge,
    λ t e k low.
        let (h, r, (member, there, edge2, low2)) = also_leads d c b a (x.0, p) e (g, t, (contains_from s (x.0, p) m, at, k, low)) in
        let same : h ≡ g = (let e : Some h ≡ Some g = sym there ∙ at in cc) in
        none r e (subst (λ (k : Graph). Contains k.edges.tests (test p r e)) same edge2) low2,
  )

  pub leads_move : (c d : ℕ) → AreTransitions ns s c leads → AreTransitions ns s d leads → move ns s c ≡ move ns s d
  leads_move c d a b = reads_moves ns s c d (also_take c d a b) (also_take d c b a)

-- in another order the edges are the same
pub takes_sorted : (ns : List Graph) (s : List Item) (v : ℕ) (leads sorted : List Transition) → IsPermutation leads sorted → AreTransitions ns s v leads → AreTransitions ns s v sorted
takes_sorted ns s v leads sorted same are l = (λ h. (are l).0 (Contains-permutation sorted leads l (IsPermutation-sym leads sorted same) h), λ h. Contains-permutation leads sorted l same ((are l).1 h))
