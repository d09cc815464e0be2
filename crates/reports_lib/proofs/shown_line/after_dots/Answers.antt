use Rattle.std.proofs.Common.{List, ℕ, ◌++◌, ap, ◌∙◌}
use Rattle.std.specs.Char.{encode_utf8}
use Rattle.reports_lib.specs.ShownLine.{dots}
use Rattle.reports_lib.proofs.LineLaws.{sign_pushed}
use Rattle.reports_lib.proofs.shown_line.after_dots.Goals as goal

pub loop-c-preserved : goal.loop-c-preserved
loop-c-preserved c =
    c.in_ok-push-2.ensures.bytes ∙ ap (λ (t : List ℕ). t ++ encode_utf8 c.c-item.result) c.loop-c.invariant
    ∙ sign_pushed (dots c.args.before) c.args.signs.now c.loop-c.c-index c.c-item.result c.loop-c-test.true c.c-item.is
