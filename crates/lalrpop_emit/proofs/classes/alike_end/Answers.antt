use Rattle.std.proofs.Common.{arith}
use Rattle.lalrpop_emit.proofs.Steady.{unmarked_alike}
use Rattle.lalrpop_emit.proofs.classes.alike_end.Goals as goal

pub returns-else-not-marks-end-clause-alike : goal.returns-else-not-marks-end-clause-alike
returns-else-not-marks-end-clause-alike c = λ v from below.
    unmarked_alike c.args.dfa.now c.args.marks.now c.args.value v c.requires.marks from (omega (arith, below, c.unmarked.invariant.most)) (λ u after to. c.unmarked.invariant.unmarked u after (omega (arith, to, below)))

pub returns-after-unmarked-clause-alike : goal.returns-after-unmarked-clause-alike
returns-after-unmarked-clause-alike c = λ v from below.
    unmarked_alike c.args.dfa.now c.args.marks.now c.args.value v c.requires.marks from (omega (arith, below, c.unmarked.invariant.most)) (λ u after to. c.unmarked.invariant.unmarked u after (omega (arith, to, below)))
