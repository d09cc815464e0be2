use Rattle.std.proofs.Common.{Some, sym, ap, ◌∙◌}
use Rattle.std.proofs.lemmas.Result.{err_from_is_err_and}
use Rattle.lalrpop_re.specs.Text.{Text}
use Rattle.lalrpop_re.specs.Internal.Reading.{primary}
use Rattle.lalrpop_re.specs.Internal.Views.{text}
use Rattle.lalrpop_re.specs.Internal.Characters.{character_at}
use Rattle.lalrpop_re.proofs.BracketLoops.{refuses_on}
use Rattle.lalrpop_re.proofs.UnescapeSteps.{character_found, set_refused, assertion_refused, none_refused}
use Rattle.lalrpop_re.proofs.unescape_text.parse_character.Goals as goal

pub returns-in_err-part-clause-value : goal.returns-in_err-part-clause-value
returns-in_err-part-clause-value c =
    let p = err_from_is_err_and c.from_residual.result c.from_residual.ensures.1 in
    rw (p.1, p.2) (refuses_on c.in_err-part.field-0.0 (primary (text c.args.cursor.now)) (character_at (text c.args.cursor.now)) c.in_err-part.ensures.value (none_refused (text c.args.cursor.now)))

pub returns-clause-value : goal.returns-clause-value
returns-clause-value c =
    let found = c.in_ok-part.ensures.value in
    let stands = rw c.in-Character.is at found.2.0 in
    character_found (text c.args.cursor.now) c.in-Character.c found.0.0 found.0.1 found.1 stands ∙ ap (λ (r : Text). Some (c.in-Character.c, r)) (sym found.2.1)

pub returns-in-Set-clause-value : goal.returns-in-Set-clause-value
returns-in-Set-clause-value c =
    let found = c.in_ok-part.ensures.value in
    let stands = rw c.in-Set.is at found.2.0 in
    rw c.error_at.ensures (set_refused (text c.args.cursor.now) _ _ found.0.0 found.0.1 found.1 stands)

pub returns-in-Assertion-clause-value : goal.returns-in-Assertion-clause-value
returns-in-Assertion-clause-value c =
    let found = c.in_ok-part.ensures.value in
    let stands = rw c.in-Assertion.is at found.2.0 in
    rw c.error_at-in-Assertion.ensures (assertion_refused (text c.args.cursor.now) _ found.0.0 found.0.1 found.1 stands)
