use Rattle.std.proofs.Common.{take}
use Rattle.std.specs.List.{Contains}
use Rattle.lalrpop_build.specs.Internal.Alphabet.{LeadsBy}
use Rattle.lalrpop_build.specs.Internal.Scratch.{AreNoted, HoldMarked}
use Rattle.lalrpop_build.specs.Internal.ClassTransitions.{Gained, AreBoundariesOf}
use Rattle.lalrpop_build.proofs.build.scratch.gather.Given as goal

abbrev pub invariant-loop-item : goal.invariant-loop-item
invariant-loop-item l = record {
  boundaries : AreBoundariesOf l.alphabet (take l.item-index l.items) l.boundaries.places.items;
  classes : Gained l.fn.edges.lists.items l.edges.lists.items (λ c x. Contains (take l.item-index l.items) x.item × LeadsBy l.alphabet x.item.0 x.item.1 c x.to);
  marked : HoldMarked l.alphabet.groups l.boundaries;
  noted : AreNoted l.edges.lists.items l.edges.used.items;
}
