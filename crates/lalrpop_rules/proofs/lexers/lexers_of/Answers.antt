use Rattle.std.proofs.Common.{◌∙◌, List, map, length, ap, sym, subst, arith, ◌∷◌, [], length-append}
use Rattle.lalrpop_hir.specs.Tree.{Tree}
use Rattle.lalrpop_hir.specs.Clash.{NoClash}
use Rattle.lalrpop_hir.specs.Report.{IsReport}
use Rattle.lalrpop_rules.specs.declared.error.RulesError.{RulesError}
use Rattle.lalrpop_rules.specs.Internal.Lexers.{IsModeFault, seen}
use Rattle.lalrpop_rules.proofs.ModeByMode.{same_trees, lexers_more, clear_more, fault_of_report}
use Rattle.lalrpop_rules.proofs.lexers.lexers_of.Goals as goal

pub returns-in-Err-clause-error : goal.returns-in-Err-clause-error
returns-in-Err-clause-error c =
    let r = seen c.args.regexs.now (map (λ p. p.0) c.args.precedences.now) (map (λ k. k.modes.items) c.args.known.now) c.args.kinds.now c.args.modes in
    let same = same_trees (λ k. k.modes.items) c.args.known.now c.args.kinds.now c.args.regexs.now c.loop-mode.mode in
    subst (λ (e : RulesError). IsModeFault r e) (sym c.modes_error.ensures.same)
    (fault_of_report r c.loop-mode.mode c.in-Err.report c.loop-mode-test.true c.requires.no_fault
    (subst (λ (ts : List Tree). IsReport ts r.precedences c.in-Err.report) same c.in-Err.ensures.report) c.loop-mode.invariant.2)

pub loop-mode-preserved : goal.loop-mode-preserved
loop-mode-preserved c =
    let r = seen c.args.regexs.now (map (λ p. p.0) c.args.precedences.now) (map (λ k. k.modes.items) c.args.known.now) c.args.kinds.now c.args.modes in
    let same = same_trees (λ k. k.modes.items) c.args.known.now c.args.kinds.now c.args.regexs.now c.loop-mode.mode in (
      lexers_more r c.loop-mode.all.items _ c.in-Ok.lexer c.loop-mode.mode c.loop-mode.invariant.0 c.loop-mode.invariant.1 c.in_ok-push-in-Ok.ensures.items
          (c.in-Ok.ensures.trees ∙ same) c.in-Ok.ensures.precedences,
      omega (arith, ap length c.in_ok-push-in-Ok.ensures.items, length-append c.loop-mode.all.items (c.in-Ok.lexer ∷ []), c.loop-mode.invariant.1),
      clear_more r c.loop-mode.mode c.loop-mode.invariant.2 (subst (λ (ts : List Tree). NoClash ts r.precedences) same c.in-Ok.ensures.no_clash),
    )

pub returns-clause-no_clash : goal.returns-clause-no_clash
returns-clause-no_clash c m within = c.loop-mode.invariant.2 m (omega (arith, within, c.loop-mode-test.false))
