use Rattle.std.proofs.Common.{◌∙◌, refl, sym}
use Rattle.std.proofs.lemmas.Bool.{false≢true}
use Rattle.lalrpop_rule_file.proofs.EarlyEnds.{here_it_seems, no_boundary, nowhere, one_further, seems_at}
use Rattle.lalrpop_rule_file.proofs.goes_on.goes_on.Goals.{else-is_char_boundary-via-then-is_char_boundary+else-seems_to_end, else-is_char_boundary-via-else-is_char_boundary}
use Rattle.lalrpop_rule_file.proofs.goes_on.goes_on.Goals as goal

pub returns-then-seems_to_end : goal.returns-then-seems_to_end
returns-then-seems_to_end c = (
  λ _. here_it_seems c.args.mark c.args.text.now c.loop-at.at
      ((seems_at c.args.mark c.args.text.now c.range.result.now c.range_from.result.now c.loop-at.at c.seems_to_end.result c.range.ensures.value c.range_from.ensures.value c.seems_to_end.ensures).0 c.if-seems_to_end.true),
  λ _. refl,
)

pub loop-at-preserved : goal.loop-at-preserved
loop-at-preserved c =
    let text = c.args.text.now in
    one_further c.args.mark text c.loop-at.at c.loop-at.invariant
    (elim c.else-is_char_boundary.branch [
      | else-is_char_boundary-via-then-is_char_boundary+else-seems_to_end w ↦
          λ seems. false≢true (sym w.if-seems_to_end.false
          ∙ (seems_at c.args.mark text w.range.result.now w.range_from.result.now c.loop-at.at w.seems_to_end.result w.range.ensures.value w.range_from.ensures.value w.seems_to_end.ensures).1 seems)
      | else-is_char_boundary-via-else-is_char_boundary w ↦
          no_boundary c.args.mark text c.loop-at.at c.requires c.utf8.text c.loop-at-test.true (λ at. false≢true (w.if-is_char_boundary.ensures.test.1 at))
    ])

pub returns : goal.returns
returns c = (λ e. absurd (false≢true e), λ goes. absurd (nowhere c.args.mark c.args.text.now c.loop-at.at c.loop-at-test.false c.loop-at.invariant goes))
