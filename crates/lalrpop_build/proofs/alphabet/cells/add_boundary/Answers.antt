use Rattle.std.proofs.Common.{◌∙◌, refl}
use Rattle.lalrpop_build.proofs.Boundaries.{rising_more, above_all, not_last}
use Rattle.lalrpop_build.proofs.alphabet.cells.add_boundary.Goals as goal

pub returns-in_ok-push-clause-rising : goal.returns-in_ok-push-clause-rising
returns-in_ok-push-clause-rising c =
    rw c.in_ok-push.ensures.items
    (rising_more c.args.boundaries.now.items c.args.boundary c.requires.rising
    (above_all c.args.boundaries.now.items c.args.boundary c.requires.rising c.requires.not_below
    (λ e. not_last c.last.result _ c.args.boundary c.ne.result c.ne.ensures c.if-ne.true refl (c.last.ensures.value ∙ (rw (← c.deref.ensures.value) at e)))))
