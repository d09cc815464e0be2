use Rattle.std.proofs.Common.{◌∙◌, sym}
use Rattle.lalrpop_re.specs.Internal.Views.{text}
use Rattle.lalrpop_re.proofs.Lexemes.{escape_ends, escape_signed}
use Rattle.lalrpop_re.proofs.escape_sequence.parse_escape.Goals as goal

pub returns-in_default-clause-value : goal.returns-in_default-clause-value
returns-in_default-clause-value c = rw c.error_at.ensures (escape_ends (text c.args.cursor.now) (sym c.peek.ensures ∙ c.in_default.is))

pub returns-clause-value : goal.returns-clause-value
returns-clause-value c =
    rw (escape_signed (text c.args.cursor.now) c.in-Some.c (sym c.peek.ensures ∙ c.in-Some.is), ← c.sign_of.ensures.value, ← c.advance.ensures.text) c.parse_signed.ensures.value
