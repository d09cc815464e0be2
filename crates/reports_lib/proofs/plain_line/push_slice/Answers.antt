use Rattle.std.proofs.Common.{◌≡◌, sym, ap, ◌∙◌}
use Rattle.bajofeki_rules.specs.Quoted.{quoted}
use Rattle.reports_lib.specs.PieceLines.{slice_told}
use Rattle.reports_lib.proofs.SliceLaws.{bytes_told, text_told}
use Rattle.reports_lib.proofs.plain_line.push_slice.Goals as goal

pub returns-in-Ok : goal.returns-in-Ok
returns-in-Ok c =
    let cases = c.in-Ok.ensures.cases in
    let same : quoted c.in-Ok.text.now ≡ slice_told c.args.slice.now = ap quoted cases.0 ∙ sym (text_told c.args.slice.now cases.1) in
    rw (← same) c.push_quoted.ensures.quoted

pub returns-in-Err : goal.returns-in-Err
returns-in-Err c = rw (bytes_told c.args.slice.now c.in-Err.ensures.cases.0) c.push_bytes.ensures
