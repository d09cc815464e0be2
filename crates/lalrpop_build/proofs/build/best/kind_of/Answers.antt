use Rattle.std.proofs.Common.{map, sym, ◌∙◌}
use Rattle.lalrpop_build.proofs.Bests.{accepts_one, accepts_two, accepts_none}
use Rattle.lalrpop_build.proofs.build.best.kind_of.Goals as goal
use Rattle.lalrpop_build.proofs.build.best.kind_of.Goals.{then-all_reject, else-all_reject}

pub returns-in_default-clause-ok : goal.returns-in_default-clause-ok
returns-in_default-clause-ok c =
    elim c.if-all_reject.branch [
      | then-all_reject w ↦ rw w.result-is (sym c.all_reject.ensures ∙ w.if-all_reject.true)
      | else-all_reject w ↦ rw w.result-is (accepts_none (map (λ p. p.0) c.args.precedences.now) c.args.set.now c.in_default.ensures (sym c.all_reject.ensures ∙ w.if-all_reject.false))
    ]

pub returns-in-None-clause-ok : goal.returns-in-None-clause-ok
returns-in-None-clause-ok c = accepts_one _ c.args.set.now c.in-Some.best c.in-Some.ensures c.in-None.is

pub returns-in-Some-tied-clause-err : goal.returns-in-Some-tied-clause-err
returns-in-Some-tied-clause-err c = accepts_two _ c.args.set.now c.in-Some.best c.in-Some-tied.second c.in-Some.ensures c.in-Some-tied.is
