use Rattle.std.proofs.Common.{ap, sym, ◌∙◌, drop}
use Rattle.std.specs.Prelude.{is_some}
use Rattle.bajofeki.proofs.BegunLaws.{begun_by, bad_by}
use Rattle.bajofeki.proofs.text_front.front_of.Goals as goal

pub returns-in-Err-clause-begun : goal.returns-in-Err-clause-begun
returns-in-Err-clause-begun c none =
    begun_by c.args.bytes.now c.split_at.result.1.now c.in-Err.error.valid_up_to c.in-Err.error.error_len c.in-Err.ensures.cases.1 c.in-Err.ensures.fault
    (c.split_at.ensures.back ∙ ap (λ n. drop n c.args.bytes.now) c.valid_up_to.ensures)
    (ap is_some (sym c.error_len.ensures) ∙ sym c.is_some.ensures ∙ none)

pub returns-in-Err-clause-bad : goal.returns-in-Err-clause-bad
returns-in-Err-clause-bad c some =
    bad_by c.args.bytes.now c.split_at.result.1.now c.in-Err.error.valid_up_to c.in-Err.error.error_len c.in-Err.ensures.cases.1 c.in-Err.ensures.fault
    (c.split_at.ensures.back ∙ ap (λ n. drop n c.args.bytes.now) c.valid_up_to.ensures)
    (ap is_some (sym c.error_len.ensures) ∙ sym c.is_some.ensures ∙ some)
