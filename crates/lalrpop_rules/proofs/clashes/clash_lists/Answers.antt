use Rattle.std.proofs.Common.{◌∙◌, List, map, length, ap, sym, subst, arith, ◌∷◌, [], length-append}
use Rattle.lalrpop_hir.specs.Tree.{Tree}
use Rattle.lalrpop_hir.specs.Clashes.{AreClashes}
use Rattle.lalrpop_hir.specs.Report.{IsFaultOf}
use Rattle.lalrpop_rules.specs.declared.error.RulesError.{RulesError}
use Rattle.lalrpop_rules.specs.Internal.Lexers.{IsClashesFault, seen}
use Rattle.lalrpop_rules.proofs.ModeByMode.{same_trees}
use Rattle.lalrpop_rules.proofs.ClashLists.{lists_more, lists_pushed, fault_of_clashes}
use Rattle.lalrpop_rules.proofs.clashes.clash_lists.Goals as goal

pub returns-in-Err-clause-error : goal.returns-in-Err-clause-error
returns-in-Err-clause-error c =
    let r = seen c.args.regexs.now (map (λ p. p.0) c.args.precedences.now) (map (λ k. k.modes.items) c.args.known.now) c.args.kinds.now c.args.modes in
    let same = same_trees (λ k. k.modes.items) c.args.known.now c.args.kinds.now c.args.regexs.now c.loop-mode.mode in
    subst (λ (e : RulesError). IsClashesFault e) (sym c.modes_error.ensures.same)
    (fault_of_clashes r c.loop-mode.mode c.in-Err.report c.requires.no_fault (subst (λ (ts : List Tree). IsFaultOf ts c.in-Err.report) same c.in-Err.ensures.error))

pub loop-mode-preserved : goal.loop-mode-preserved
loop-mode-preserved c =
    let r = seen c.args.regexs.now (map (λ p. p.0) c.args.precedences.now) (map (λ k. k.modes.items) c.args.known.now) c.args.kinds.now c.args.modes in
    let same = same_trees (λ k. k.modes.items) c.args.known.now c.args.kinds.now c.args.regexs.now c.loop-mode.mode in
    let pushed = lists_pushed (λ cs. cs.items) c.loop-mode.all.items _ c.in-Ok.found c.in_ok-push-in-Ok.ensures.items in (
      lists_more r (map (λ cs. cs.items) c.loop-mode.all.items) _ c.in-Ok.found.items c.loop-mode.mode c.loop-mode.invariant.0 c.loop-mode.invariant.1 pushed
          (subst (λ (ts : List Tree). AreClashes ts r.precedences c.in-Ok.found.items) same c.in-Ok.ensures.clashes),
      ap length pushed ∙ length-append (map (λ cs. cs.items) c.loop-mode.all.items) (c.in-Ok.found.items ∷ []) ∙ omega (arith, c.loop-mode.invariant.1),
    )
