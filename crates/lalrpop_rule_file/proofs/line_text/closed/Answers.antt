use Rattle.std.proofs.Common.{sym, refl, inl, inr}
use Rattle.std.proofs.lemmas.Bool.{eqb-false, eqb-true}
use Rattle.lalrpop_rule_file.specs.Words.{is_blank}
use Rattle.lalrpop_rule_file.specs.LineText.{delimiter}
use Rattle.lalrpop_rule_file.specs.Internal.Values.{form_of}
use Rattle.lalrpop_rule_file.proofs.Closings.{delimiter_ascii, no_char, positive, split_last}
use Rattle.lalrpop_rule_file.proofs.Spans.{passes_all}
use Rattle.lalrpop_rule_file.proofs.line_text.closed.Goals as goal

pub returns-in_default-clause-not_closed : goal.returns-in_default-clause-not_closed
returns-in_default-clause-not_closed c =
    let none = rw c.delimiter_of.ensures at c.in_default.ensures.cases in
    let form = form_of c.args.form in
    inl (no_char (delimiter form) c.args.inner.now (delimiter_ascii form).0 none, refl)

pub returns-then-not-is_empty-clause-not_closed : goal.returns-then-not-is_empty-clause-not_closed
returns-then-not-is_empty-clause-not_closed c =
    let split = rw c.delimiter_of.ensures at c.in-Some.ensures.cases in
    let form = form_of c.args.form in
    let last = split_last (delimiter form) c.args.inner.now c.in-Some.text.now c.in-Some.trail.now (delimiter_ascii form).0 split in
    inr (_, (_, (_, (last.0, last.1, c.split_front.ensures.span, positive _ (eqb-false _ _ (sym c.if-not-is_empty.ensures))))))

pub returns-clause-closed : goal.returns-clause-closed
returns-clause-closed c =
    let split = rw c.delimiter_of.ensures at c.in-Some.ensures.cases in
    let form = form_of c.args.form in
    let last = split_last (delimiter form) c.args.inner.now c.in-Some.text.now c.in-Some.trail.now (delimiter_ascii form).0 split in
    (_, (last.0, last.1, passes_all is_blank _ _ _ c.split_front.ensures.span (eqb-true _ _ (sym c.if-not-is_empty.ensures))))
