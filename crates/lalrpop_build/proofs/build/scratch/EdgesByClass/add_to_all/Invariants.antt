use Rattle.std.proofs.Common.{◌≡◌, take}
use Rattle.std.specs.List.{Contains}
use Rattle.lalrpop_build.specs.Internal.Scratch.{AreNoted}
use Rattle.lalrpop_build.specs.Internal.ClassTransitions.{Gained}
use Rattle.lalrpop_build.proofs.build.scratch.EdgesByClass.add_to_all.Given as goal

abbrev pub invariant-loop-class : goal.invariant-loop-class
invariant-loop-class l = record {
  gained : Gained l.fn.self.lists.items l.self.lists.items (λ c x. Contains (take l.class-index l.classes) c × (x ≡ l.fn.transition));
  noted : AreNoted l.self.lists.items l.self.used.items;
}
