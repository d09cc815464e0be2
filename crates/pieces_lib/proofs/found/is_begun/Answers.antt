use Rattle.std.proofs.Common.{ap, sym, ◌∙◌}
use Rattle.std.specs.Prelude.{not}
use Rattle.pieces_lib.proofs.FoundLaws.{bad_now, begun_now}
use Rattle.pieces_lib.proofs.found.is_begun.Goals as goal

pub returns-then-valid_up_to-eq0-clause-yes : goal.returns-then-valid_up_to-eq0-clause-yes
returns-then-valid_up_to-eq0-clause-yes c none =
    begun_now c.args.bytes.now c.in-Err.error.valid_up_to c.error_len.result c.in-Err.ensures.cases.1 (c.error_len.ensures ∙ c.in-Err.ensures.fault)
    (sym c.valid_up_to.ensures ∙ c.if-valid_up_to-eq0.true) (c.is_none.ensures ∙ ap not none)

pub returns-then-valid_up_to-eq0-clause-no : goal.returns-then-valid_up_to-eq0-clause-no
returns-then-valid_up_to-eq0-clause-no c some_len some none =
    bad_now c.args.bytes.now c.in-Err.error.valid_up_to c.error_len.result c.in-Err.ensures.cases.1 (c.error_len.ensures ∙ c.in-Err.ensures.fault)
    (λ _. c.is_none.ensures ∙ ap not some_len) none

pub returns-else-valid_up_to-eq0-clause-no : goal.returns-else-valid_up_to-eq0-clause-no
returns-else-valid_up_to-eq0-clause-no c other some none =
    bad_now c.args.bytes.now c.in-Err.error.valid_up_to _ c.in-Err.ensures.cases.1 c.in-Err.ensures.fault
    (λ is. absurd (c.if-valid_up_to-eq0.false (c.valid_up_to.ensures ∙ is))) none
