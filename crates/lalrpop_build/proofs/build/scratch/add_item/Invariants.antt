use Rattle.std.proofs.Common.{◌≡◌, ℕ, ◌⊎◌, take}
use Rattle.std.specs.Prelude.{◌↔◌}
use Rattle.std.specs.List.{Contains}
use Rattle.lalrpop_build.specs.Internal.Scratch.{AreNoted, HoldMarked}
use Rattle.lalrpop_build.specs.Internal.ClassTransitions.{Gained}
use Rattle.lalrpop_build.proofs.Leavings.{EdgeTo, EdgeBoundary}
use Rattle.lalrpop_build.proofs.build.scratch.add_item.Given as goal

abbrev pub invariant-loop-edge : goal.invariant-loop-edge
invariant-loop-edge l = record {
  boundaries : (k : ℕ) → Contains l.boundaries.places.items k ↔ (Contains l.fn.boundaries.places.items k ⊎ EdgeBoundary l.alphabet.groups (take l.edge-index l.edge-items) k);
  classes : Gained l.fn.edges.lists.items l.edges.lists.items (λ c x. (x.item ≡ l.item) × EdgeTo l.alphabet.groups (take l.edge-index l.edge-items) c x.to);
  marked : HoldMarked l.alphabet.groups l.boundaries;
  noted : AreNoted l.edges.lists.items l.edges.used.items;
}
