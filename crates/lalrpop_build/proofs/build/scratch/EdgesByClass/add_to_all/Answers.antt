use Rattle.std.proofs.Common.{◌≡◌, get_or, subst, arith}
use Rattle.std.specs.List.{Contains}
use Rattle.std.proofs.lemmas.List.{take_all}
use Rattle.std.proofs.lemmas.List.Elements.{Contains-get_or}
use Rattle.lalrpop_build.specs.Internal.ClassTransitions.{Gained}
use Rattle.lalrpop_build.proofs.Leavings.{gained_none, gained_then, class_more}
use Rattle.lalrpop_hir.proofs.Contained.{contains_none}
use Rattle.lalrpop_build.proofs.build.scratch.EdgesByClass.add_to_all.Goals as goal

pub loop-class-init : goal.loop-class-init
loop-class-init c = record {
  gained = gained_none c.args.self.now.lists.items (λ i l h. contains_none i h.0);
  noted = c.requires.noted;
}

pub add-requires-clause-within : goal.add-requires-clause-within
add-requires-clause-within c =
    let below = c.requires.within (get_or c.args.classes.now c.loop-class.class-index 0) (Contains-get_or c.args.classes.now c.loop-class.class-index 0 c.loop-class-test.true) in
    omega (arith, c.loop-class.invariant.gained.0, below)

pub loop-class-preserved : goal.loop-class-preserved
loop-class-preserved c = record {
  gained = gained_then c.args.self.now.lists.items c.loop-class.self.lists.items _ c.loop-class.invariant.gained c.in_ok-add.ensures.gained
      (class_more c.args.classes.now c.loop-class.class-index 0 c.args.transition.now c.loop-class-test.true);
  noted = c.in_ok-add.ensures.noted;
}

pub returns-clause-gained : goal.returns-clause-gained
returns-clause-gained c =
    subst (λ cs. Gained c.args.self.now.lists.items c.loop-class.self.lists.items (λ i l. Contains cs i × (l ≡ c.args.transition.now)))
    (take_all c.loop-class.class-index c.args.classes.now c.loop-class-test.false) c.loop-class.invariant.gained
