use Rattle.std.proofs.Common.{arith, ◌∙◌}
use Rattle.std.proofs.lemmas.Bool.{false≢true}
use Rattle.lalrpop_lexer.proofs.LineParts.{list_all-digits}
use Rattle.lalrpop_lexer.proofs.line.precedence_of.Goals as goal
use Rattle.lalrpop_lexer.proofs.line.precedence_of.Goals.{then-digits-gt-MAX_DIGITS-via-then-digits-gt-MAX_DIGITS, then-digits-gt-MAX_DIGITS-via-else-digits-gt-MAX_DIGITS+then-not-has_digits_alone}

pub returns-then-digits-gt-MAX_DIGITS-clause-none : goal.returns-then-digits-gt-MAX_DIGITS-clause-none
returns-then-digits-gt-MAX_DIGITS-clause-none c = λ n p. elim c.then-digits-gt-MAX_DIGITS.branch [
  | then-digits-gt-MAX_DIGITS-via-then-digits-gt-MAX_DIGITS w ↦ omega arith
  | then-digits-gt-MAX_DIGITS-via-else-digits-gt-MAX_DIGITS+then-not-has_digits_alone w ↦ false≢true (w.if-not-has_digits_alone.ensures ∙ list_all-digits c.args.digits.now p.numeral.1)
]
