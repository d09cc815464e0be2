use Rattle.std.proofs.Common.{◌≡◌, sym, ◌∙◌}
use Rattle.std.specs.Str.Lossy.{utf8_lossy}
use Rattle.std.proofs.lemmas.Str.{utf8_lossy-IsUtf8}
use Rattle.reports_lib.proofs.json_line.write_slice.Goals as goal

pub returns-in-Ok-clause-tokens : goal.returns-in-Ok-clause-tokens
returns-in-Ok-clause-tokens c =
    let cases = c.in-Ok.ensures.cases in
    let same : c.in-Ok.text.now ≡ utf8_lossy c.args.slice.now = cases.0 ∙ sym (utf8_lossy-IsUtf8 c.args.slice.now cases.1) in
    rw (← same) c.write_string.ensures.tokens
