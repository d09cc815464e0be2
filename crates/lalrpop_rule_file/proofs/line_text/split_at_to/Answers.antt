use Rattle.std.proofs.Common.{arith}
use Rattle.std.proofs.lemmas.Bool.{false≢true}
use Rattle.lalrpop_rule_file.proofs.FromTos.{no_boundary, one_further, up_to_here}
use Rattle.lalrpop_rule_file.proofs.line_text.split_at_to.Goals.{then-is_char_boundary+in_default, else-is_char_boundary}
use Rattle.lalrpop_rule_file.proofs.line_text.split_at_to.Goals as goal

pub returns-in-Some-clause-some : goal.returns-in-Some-clause-some
returns-in-Some-clause-some c =
    up_to_here c.args.inner.now c.range.result.now c.range_from.result.now c.in-Some.rest.now c.loop-at.at c.loop-at-test.true c.range.ensures.value c.range_from.ensures.value c.in-Some.ensures.some c.loop-at.invariant

pub loop-at-preserved : goal.loop-at-preserved
loop-at-preserved c =
    one_further c.args.inner.now c.loop-at.at c.loop-at.invariant
    (elim c.if-is_char_boundary.branch [
      | then-is_char_boundary+in_default w ↦ rw (← w.range_from.ensures.value) w.in_default.ensures.none
      | else-is_char_boundary w ↦ no_boundary c.args.inner.now c.loop-at.at c.utf8.inner c.loop-at-test.true (λ at. false≢true (w.if-is_char_boundary.ensures.test.1 at))
    ])

pub returns-clause-none : goal.returns-clause-none
returns-clause-none c k less = c.loop-at.invariant k (omega (arith, less, c.loop-at-test.false))
