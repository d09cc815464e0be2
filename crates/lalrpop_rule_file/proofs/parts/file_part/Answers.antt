use Rattle.std.proofs.Common.{refl, sym}
use Rattle.lalrpop_rule_file.proofs.Results.{if_not_some}
use Rattle.lalrpop_rule_file.proofs.parts.file_part.Goals as goal

pub returns-in-Err-Syntax-clause-error : goal.returns-in-Err-Syntax-clause-error
returns-in-Err-Syntax-clause-error c =
    let none = rw c.in-Err-Syntax.field-0-is at c.in-Err-Syntax.ensures.none in
    (refl, if_not_some c.number_of.result (sym c.if-is_some.ensures) c.number_of.ensures.none, none, c.pattern_column.ensures)
