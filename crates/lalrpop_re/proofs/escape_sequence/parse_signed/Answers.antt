use Rattle.std.proofs.Common.{refl}
use Rattle.lalrpop_re.specs.Escape.{character, set, assertion}
use Rattle.lalrpop_re.specs.Internal.Reading.{signed}
use Rattle.lalrpop_re.specs.Internal.Signs.{perl_set}
use Rattle.lalrpop_re.specs.Internal.Views.{text}
use Rattle.lalrpop_re.proofs.escape_sequence.parse_signed.Goals as goal

pub returns-in-Character-clause-value : goal.returns-in-Character-clause-value
unfolding signed
returns-in-Character-clause-value c = rw c.in-Character.is ((character c.in-Character.c, text c.args.cursor.now), refl, (refl, refl))

pub returns-in_ok-class-in-Perl-clause-value : goal.returns-in_ok-class-in-Perl-clause-value
unfolding signed
returns-in_ok-class-in-Perl-clause-value c =
    rw c.in-Perl.is ((set (perl_set c.in-Perl.class) c.in-Perl.negated, text c.args.cursor.now), refl, ((c.in_ok-class-in-Perl.ensures, refl), refl))

pub returns-in-Assertion-clause-value : goal.returns-in-Assertion-clause-value
unfolding signed
returns-in-Assertion-clause-value c = rw c.in-Assertion.is ((assertion c.in-Assertion.look, text c.args.cursor.now), refl, (refl, refl))

pub returns-in_ok-parse_code-in-Code-clause-value : goal.returns-in_ok-parse_code-in-Code-clause-value
returns-in_ok-parse_code-in-Code-clause-value c =
    rw c.in-Code.is ((character c.in_ok-parse_code-in-Code.field-0, text c.parse_code.new.cursor), c.in_ok-parse_code-in-Code.ensures.value, (refl, refl))

pub returns-in-Edge-clause-value : goal.returns-in-Edge-clause-value
returns-in-Edge-clause-value c = rw c.in-Edge.is ((assertion c.parse_edge.result, text c.parse_edge.new.cursor), c.parse_edge.ensures.value, (refl, refl))
