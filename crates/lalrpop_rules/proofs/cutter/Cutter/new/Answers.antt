use Rattle.std.proofs.Common.{◌≡◌, arith, subst}
use Rattle.lalrpop_rules.specs.Internal.CutToEnd.{CutToEnd, uncut}
use Rattle.lalrpop_rules.specs.Internal.Cutting.{AreUncut}
use Rattle.lalrpop_rules.proofs.FirstCuts.{one_more, cutting_at_first, unsought_at_first, spare_at_first}
use Rattle.lalrpop_rules.proofs.cutter.Cutter.new.Goals as goal

pub loop-mode-preserved : goal.loop-mode-preserved
loop-mode-preserved c =
    let e = c.in_ok-cut.ensures in
    let d : CutToEnd = c.in_ok-cut.cut in
    let start : d ≡ uncut c.lexer.result.now c.args.lexer.now.skips c.args.text.now d.memo = rw c.skips.ensures.skips at e.start in
    one_more c.args.lexer.now c.lexer.result.now c.args.text.now c.loop-mode.mode c.loop-mode.cuts.items c.push.new.self.items d c.loop-mode.invariant start
    c.lexer.ensures.trees c.lexer.ensures.precedences c.lexer.ensures.automaton e.unsought e.spare c.in-Ok.ensures.items

pub invariant_of-result : goal.invariant_of-result
invariant_of-result c =
    let all : c.loop-mode.mode ≡ c.args.lexer.now.modes = omega (arith, c.loop-mode-test.false, c.loop-mode.auto.mode-end, c.modes-mode-end.ensures.count) in
    cutting_at_first c.args.lexer.now c.args.text.now c.loop-mode.cuts.items c.utf8.text c.requires.some
    (subst (λ n. AreUncut c.args.lexer.now c.args.text.now n c.loop-mode.cuts.items) all c.loop-mode.invariant)

pub returns-clause-unsought : goal.returns-clause-unsought
returns-clause-unsought c =
    let all : c.loop-mode.mode ≡ c.args.lexer.now.modes = omega (arith, c.loop-mode-test.false, c.loop-mode.auto.mode-end, c.modes-mode-end.ensures.count) in
    unsought_at_first c.args.lexer.now c.args.text.now c.loop-mode.cuts.items c.requires.some
    (subst (λ n. AreUncut c.args.lexer.now c.args.text.now n c.loop-mode.cuts.items) all c.loop-mode.invariant)

pub returns-clause-spare : goal.returns-clause-spare
returns-clause-spare c =
    let all : c.loop-mode.mode ≡ c.args.lexer.now.modes = omega (arith, c.loop-mode-test.false, c.loop-mode.auto.mode-end, c.modes-mode-end.ensures.count) in
    spare_at_first c.args.lexer.now c.args.text.now c.loop-mode.cuts.items
    (subst (λ n. AreUncut c.args.lexer.now c.args.text.now n c.loop-mode.cuts.items) all c.loop-mode.invariant)
