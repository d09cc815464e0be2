use Rattle.std.proofs.Common.{◌∙◌, sym}
use Rattle.lalrpop_re.proofs.Numbers.{decimal_of_some, decimal_of_none}
use Rattle.lalrpop_re.proofs.operator.decimal_of.Goals as goal

pub returns-then-is_empty : goal.returns-then-is_empty
returns-then-is_empty c = sym (decimal_of_none c.args.digits.now (sym c.is_empty.ensures ∙ c.if-is_empty.true))

pub returns : goal.returns
returns c = c.number_of.ensures ∙ decimal_of_some c.args.digits.now (sym c.is_empty.ensures ∙ c.if-is_empty.false) c.requires
