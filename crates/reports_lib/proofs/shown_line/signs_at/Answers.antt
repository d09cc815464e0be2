use Rattle.std.proofs.Common.{List, ℕ, map, Some, ap, ◌∙◌}
use Rattle.std.specs.Str.{chars}
use Rattle.reports_lib.specs.ShownLine.{sign, signs_of}
use Rattle.reports_lib.proofs.LineLaws.{no_signs, signs_of_text}
use Rattle.reports_lib.proofs.shown_line.signs_at.Goals as goal

pub returns-in_ok-signs_of-in-Ok : goal.returns-in_ok-signs_of-in-Ok
returns-in_ok-signs_of-in-Ok c =
    ap Some (c.in_ok-signs_of-in-Ok.ensures ∙ ap (λ (t : List ℕ). map sign (chars t)) c.without_return.ensures)
    ∙ signs_of_text c.line_at.result.now c.in-Ok.text.now c.in-Ok.ensures.cases.0 c.in-Ok.ensures.cases.1 ∙ ap signs_of c.line_at.ensures

pub returns-in-Err : goal.returns-in-Err
returns-in-Err c = no_signs c.line_at.result.now c.in-Err.ensures.cases.0 ∙ ap signs_of c.line_at.ensures
