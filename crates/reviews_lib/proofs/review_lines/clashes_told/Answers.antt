use Rattle.std.proofs.Common.{List, ℕ, ◌++◌, ◌∙◌, ap, flat_map}
use Rattle.std.specs.Prelude.{Option}
use Rattle.lalrpop_hir.specs.Clashes.{Entry}
use Rattle.reports_lib.specs.PieceLines.{mode_named}
use Rattle.reviews_lib.specs.ReviewLines.{clash_told}
use Rattle.reviews_lib.proofs.ReviewLaws.{mapped_mode_more}
use Rattle.reviews_lib.proofs.review_lines.clashes_told.Goals as goal

pub loop-mode-preserved : goal.loop-mode-preserved
loop-mode-preserved c =
    let r = c.args.reported.now in
    let tell = λ (mode : Option (List ℕ)) (cs : List Entry). flat_map (clash_told c.args.form r mode) cs in
    mapped_mode_more (λ cs. cs.items) tell r.modes c.args.found.now c.loop-mode.mode c.index-found-mode.result _ _ c.loop-mode-test.true c.loop-mode.invariant
    ((rw (c.mode-name.ensures, c.deref.ensures.value) at c.in_ok-push_clashes.ensures)
    ∙ ap (λ v. c.loop-mode.lines.items ++ tell (mode_named r.modes c.loop-mode.mode) v.items) c.index-found-mode.is)
