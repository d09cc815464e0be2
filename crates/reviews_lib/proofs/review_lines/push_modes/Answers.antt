use Rattle.std.proofs.Common.{◌++◌, ◌∙◌, ap}
use Rattle.reports_lib.specs.PieceLines.{mode_named}
use Rattle.reviews_lib.specs.ReviewLines.{mode_told}
use Rattle.reviews_lib.proofs.ReviewLaws.{mode_more}
use Rattle.reviews_lib.proofs.review_lines.push_modes.Goals as goal

pub loop-mode-preserved : goal.loop-mode-preserved
loop-mode-preserved c =
    let r = c.args.reported.now in
    let tell = mode_told c.args.form r c.args.empty.now in
    mode_more tell r.modes c.args.modes.now c.loop-mode.mode c.index-modes-mode.result _ _ _ c.loop-mode-test.true c.loop-mode.invariant
    ((rw c.mode-name.ensures at c.in_ok-push_mode.ensures)
    ∙ ap (λ v. c.loop-mode.lines.items ++ tell (mode_named r.modes c.loop-mode.mode) v) c.index-modes-mode.is)
