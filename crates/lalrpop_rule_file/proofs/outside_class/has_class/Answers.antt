use Rattle.std.proofs.Common.{◌∙◌, refl, sym, ap, arith, length}
use Rattle.std.proofs.lemmas.Bool.{false≢true}
use Rattle.lalrpop_rule_file.proofs.ClassLaws.{asked_further, class_here, none_at_end}
use Rattle.lalrpop_rule_file.proofs.outside_class.has_class.Goals.{else-depth-eq0-via-then-depth-eq0+else-begins_one, else-depth-eq0-via-else-depth-eq0}
use Rattle.lalrpop_rule_file.proofs.outside_class.has_class.Goals as goal

pub returns-then-begins_one : goal.returns-then-begins_one
returns-then-begins_one c =
    (λ _. c.loop-first.invariant.1.1 (class_here c.loop-first.depth c.in-Some.first.now c.loop-first.rest.now c.in-Some.text.now c.if-depth-eq0.true c.in-Some.ensures.cases.0 (c.begins_one.ensures.0 c.if-begins_one.true)), λ _. refl)

pub loop-first-preserved : goal.loop-first-preserved
loop-first-preserved c =
    let size = ap length c.in-Some.ensures.cases.0 in (
      omega (arith, c.after_one.ensures.shorter, c.after_one.ensures.few, c.loop-first.invariant.0, size),
      asked_further c.args.pattern.now c.loop-first.rest.now c.in-Some.text.now c.after_one.result.1.now c.loop-first.depth c.in-Some.first.now c.after_one.result.0 c.in-Some.ensures.cases.0 c.after_one.ensures.value
          (elim c.else-depth-eq0.branch [
            | else-depth-eq0-via-then-depth-eq0+else-begins_one w ↦ λ _ begins. false≢true (sym w.if-begins_one.false ∙ w.begins_one.ensures.1 begins)
            | else-depth-eq0-via-else-depth-eq0 w ↦ λ none _. w.if-depth-eq0.false none
          ]) c.loop-first.invariant.1,
    )

pub returns : goal.returns
returns c = (λ e. absurd (false≢true e), λ has. absurd (none_at_end c.loop-first.depth c.loop-first.rest.now c.in_default.ensures.cases (c.loop-first.invariant.1.0 has)))
