use Rattle.std.proofs.Common.{◌++◌, ◌∙◌, flat_map, map, string_bytes, ap}
use Rattle.lalrpop_rules.specs.ModeSet.{rules_of}
use Rattle.lalrpop_rules.specs.RuleSet.{names_of}
use Rattle.reports_lib.specs.PieceLines.{mode_named}
use Rattle.reports_lib.specs.RuleClashes.{named_line}
use Rattle.reports_lib.proofs.ClashLineLaws.{lines_pushed}
use Rattle.reports_lib.proofs.named_clashes.clash_lines.Goals as goal

pub loop-mode-preserved : goal.loop-mode-preserved
loop-mode-preserved c =
    let modes = map (λ m. m.now) c.args.modes.now in
    let names = names_of (rules_of c.args.rules.now) in
    lines_pushed (λ cs. cs.items) modes names c.args.found.now c.loop-mode.mode c.index-found-mode.result _ _ c.loop-mode-test.true c.loop-mode.invariant
    ((rw (c.mode_named.ensures.name, c.deref.ensures.value) at c.in_ok-push_clashes.ensures)
    ∙ ap (λ v. string_bytes c.loop-mode.lines ++ flat_map (named_line names (mode_named modes c.loop-mode.mode)) v.items) c.index-found-mode.is)
