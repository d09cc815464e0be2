use Rattle.std.proofs.Common.{◌∙◌, sym}
use Rattle.lalrpop_re.proofs.Numbers.{hex_none, hex_read}
use Rattle.lalrpop_re.proofs.escape_sequence.character_of.Goals as goal

pub returns-in_err-number_of : goal.returns-in_err-number_of
returns-in_err-number_of c = c.from_residual.ensures ∙ sym (hex_none c.args.digits.now (sym c.number_of.ensures ∙ c.in_err-number_of.was))

pub returns : goal.returns
returns c = hex_read c.args.digits.now c.in_ok-number_of.field-0 c.from_u32.result (sym c.number_of.ensures ∙ c.in_ok-number_of.was) c.from_u32.ensures.value c.from_u32.ensures.cases
