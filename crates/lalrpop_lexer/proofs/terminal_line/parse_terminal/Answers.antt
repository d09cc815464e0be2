use Rattle.std.proofs.Common.{◌≡◌, subst}
use Rattle.lalrpop_lexer.specs.Line.{IsLine}
use Rattle.lalrpop_lexer.specs.declared.form.Form.TheVariants.{Pattern}
use Rattle.lalrpop_lexer.proofs.terminal_line.parse_terminal.Goals as goal

pub returns-in-Err-Syntax : goal.returns-in-Err-Syntax
returns-in-Err-Syntax c =
    let line = c.args.line.now in
    let n = c.in-Some.precedence in
    let text = c.in-Some.text.now in
    let form : c.in-Some.form ≡ Pattern = c.in-Err-Syntax.ensures.pattern (λ e. cc) in
    let none = rw c.in-Err-Syntax.field-0-is at c.in-Err-Syntax.ensures.none in
    record { said = (n, (text, (subst (λ k. IsLine line n k text) form c.in-Some.ensures.some, none))) }
