use Rattle.lalrpop_rules.proofs.ModeRuns.{act-within}
use Rattle.bajofeki.proofs.place.pass.Goals.{then-piece+in_ok-act_all, else-piece}
use Rattle.bajofeki.proofs.place.pass.Goals as goal

pub returns-clause-there : goal.returns-clause-there
returns-clause-there c = λ there.
    elim c.if-piece.branch [
      | then-piece+in_ok-act_all w ↦ rw w.place-is (act-within c.args.lexer.now.modes w.actions.result.now c.args.place.now.stack _ w.in_ok-act_all.ensures.acted w.actions.ensures.within there)
      | else-piece w ↦ rw w.place-is there
    ]
