use Rattle.std.proofs.Common.{sym, subst, Some, None}
use Rattle.lalrpop_lexer.specs.Line.{IsLine}
use Rattle.bajofeki_rules.specs.Precedence.{IsPrecedence}
use Rattle.lalrpop_lexer.proofs.LineParts.{line-split, shown-text}
use Rattle.lalrpop_lexer.proofs.line.line_parts.Goals as goal

pub returns-in_err-digits-clause-none : goal.returns-in_err-digits-clause-none
returns-in_err-digits-clause-none c = rw c.from_residual-in_err-digits.ensures (λ n form text h.
    let line = c.in_ok-line.line.now in
    let same = shown-text _ c.in_ok-line.line c.args.line.now _ c.in_ok-line.ensures.value c.from_utf8.ensures.cases in
    let shown = subst (λ l. IsLine l n form text) same h in
    line-split line n form text shown None c.in_err-digits.ensures.cases)

pub returns-in_err-form-clause-none : goal.returns-in_err-form-clause-none
returns-in_err-form-clause-none c = rw c.from_residual-in_err-form.ensures (λ n form text h.
    let line = c.in_ok-line.line.now in
    let same = shown-text _ c.in_ok-line.line c.args.line.now _ c.in_ok-line.ensures.value c.from_utf8.ensures.cases in
    let shown = subst (λ l. IsLine l n form text) same h in
    let parts = line-split line n form text shown (Some (c.in_ok-digits.digits, c.in_ok-digits.rest)) c.in_ok-digits.ensures.cases in
    c.in_err-form.ensures.none form text parts.1)

pub returns-in_err-precedence-clause-none : goal.returns-in_err-precedence-clause-none
returns-in_err-precedence-clause-none c = rw c.from_residual-in_err-precedence.ensures (λ n form text h.
    let line = c.in_ok-line.line.now in
    let same = shown-text _ c.in_ok-line.line c.args.line.now _ c.in_ok-line.ensures.value c.from_utf8.ensures.cases in
    let shown = subst (λ l. IsLine l n form text) same h in
    let parts = line-split line n form text shown (Some (c.in_ok-digits.digits, c.in_ok-digits.rest)) c.in_ok-digits.ensures.cases in
    c.in_err-precedence.ensures.none n (subst (λ d. IsPrecedence d n) (sym parts.0) shown.precedence))
