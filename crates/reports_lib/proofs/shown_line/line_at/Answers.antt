use Rattle.std.proofs.Common.{◌≡◌, ◌-◌, List, ℕ, drop, sym, ap, ◌∙◌, arith}
use Rattle.bajofeki_rules.specs.Lines.{lines}
use Rattle.reports_lib.proofs.LineLaws.{line_found, next_lines, no_line}
use Rattle.reports_lib.proofs.shown_line.line_at.Goals as goal

pub returns-in-None : goal.returns-in-None
returns-in-None c =
    let none = rw c.in-None.is at c.split_line.ensures.none in
    no_line (lines c.args.bytes.now) c.loop-passed.passed (c.args.number - 1) (c.loop-passed.invariant ∙ ap lines none) (omega (arith, c.saturating_sub-passed-end.ensures))

pub loop-passed-preserved : goal.loop-passed-preserved
loop-passed-preserved c =
    next_lines (lines c.args.bytes.now) c.loop-passed.passed _ _ (c.loop-passed.invariant ∙ (rw c.in-Some.is at c.split_line.ensures.lines))

pub returns-in-Some-split_line : goal.returns-in-Some-split_line
returns-in-Some-split_line c =
    let end : c.loop-passed.passed ≡ c.args.number - 1 = omega (arith, c.saturating_sub-passed-end.ensures, c.loop-passed.auto.passed-end) in
    sym (line_found (lines c.args.bytes.now) (c.args.number - 1) _ _ (ap (λ n. drop n (lines c.args.bytes.now)) (sym end) ∙ c.loop-passed.invariant ∙ (rw c.in-Some-split_line.is at c.split_line-2.ensures.lines)))

pub returns-in-None-split_line : goal.returns-in-None-split_line
returns-in-None-split_line c =
    let none = rw c.in-None-split_line.is at c.split_line-2.ensures.none in
    no_line (lines c.args.bytes.now) c.loop-passed.passed (c.args.number - 1) (c.loop-passed.invariant ∙ ap lines none) (omega (arith, c.saturating_sub-passed-end.ensures, c.loop-passed.auto.passed-end))
