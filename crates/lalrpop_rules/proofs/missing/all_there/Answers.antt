use Rattle.std.proofs.Common.{ℕ, ◌<◌, get_or, sym, subst, arith}
use Rattle.std.proofs.lemmas.Option.{slice_get_within, slice_get-get_or, get_or_from_slice_get}
use Rattle.bajofeki_rules.specs.EnteredModes.{OneLeadsInto}
use Rattle.bajofeki_rules.specs.declared.mode_rule.ModeRule.{ModeRule}
use Rattle.lalrpop_rules.proofs.NamedModes.{rules_more}
use Rattle.lalrpop_rules.proofs.missing.all_there.Goals as goal

pub loop-rule-preserved : goal.loop-rule-preserved
loop-rule-preserved c =
    let rs = c.args.rules.now in
    let i = c.loop-rule.rule in
    let first = c.index-rules-rule.result in
    let second = c.index-rules-rule-in-loop-rule.result in
    let same = get_or_from_slice_get rs i (get_or rs i second) first (slice_get-get_or rs i second c.loop-rule-test.true) in
    rules_more c.args.modes rs i first c.loop-rule.invariant c.in_default.ensures.none
    (subst (λ (q : ModeRule). (m : ℕ) → OneLeadsInto q.actions.now m → m < c.args.modes) (sym same) c.in_default-missing_target.ensures.none)

pub returns-clause-there : goal.returns-clause-there
returns-clause-there c i m q at names =
    c.loop-rule.invariant i m q (omega (arith, slice_get_within c.args.rules.now i q at, c.loop-rule-test.false)) at names
