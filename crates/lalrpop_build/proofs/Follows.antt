-- What an item leads to by reading nothing, as paths.
use Rattle.std.proofs.Common.{◌≡◌, List, [], sym, subst, true, ◌==◌, Some, eqb-true, eq-eqb}
use Rattle.std.specs.List.{slice_get}
use Rattle.std.proofs.lemmas.Bool.{and_parts, and_from}
use Rattle.lalrpop_hir.specs.Tree.{Tree}
use Rattle.lalrpop_nfa.specs.Graph.{Graph}
use Rattle.lalrpop_nfa.specs.Path.{Path}
use Rattle.lalrpop_nfa.specs.Compiled.{IsCompiled}
use Rattle.lalrpop_dfa.specs.Ascending.{Item}
use Rattle.lalrpop_build.specs.Internal.Subsets.{graph_at, is_epsilon_path, follows_by_epsilon}
use Rattle.lalrpop_build.proofs.Epsilon.{epsilon_path, path_epsilon}
use Rattle.lalrpop_build.proofs.Targets.{graph_is}

module _ (ns : List Graph) where
  pub follows_place : (y x : Item) → follows_by_epsilon ns y x ≡ true → y.0 ≡ x.0
  unfolding follows_by_epsilon
  follows_place y x f = eqb-true y.0 x.0 (and_parts (y.0 == x.0) (is_epsilon_path (graph_at ns x.0) y.1 x.1) f).0

  pub follows_path : (y x : Item) (g : Graph) → slice_get ns x.0 ≡ Some g → follows_by_epsilon ns y x ≡ true → Path g.edges x.1 y.1 []
  unfolding follows_by_epsilon
  follows_path y x g at f =
      subst (λ (e : Graph). Path e.edges x.1 y.1 []) (graph_is ns x.0 g at)
      (epsilon_path (graph_at ns x.0) y.1 x.1 (and_parts (y.0 == x.0) (is_epsilon_path (graph_at ns x.0) y.1 x.1) f).1)

  pub path_follows : (t : Tree) (y x : Item) (g : Graph) → IsCompiled t g → slice_get ns x.0 ≡ Some g → y.0 ≡ x.0 → Path g.edges x.1 y.1 [] → follows_by_epsilon ns y x ≡ true
  unfolding follows_by_epsilon
  path_follows t y x g c at e p =
      and_from (y.0 == x.0) (is_epsilon_path (graph_at ns x.0) y.1 x.1) (eq-eqb y.0 x.0 e)
      (subst (λ (f : Graph). is_epsilon_path f y.1 x.1 ≡ true) (sym (graph_is ns x.0 g at)) (path_epsilon g (λ n k. (c.noops_in n k).1) y.1 x.1 p))
