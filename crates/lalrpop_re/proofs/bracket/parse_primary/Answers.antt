use Rattle.std.proofs.Common.{sym, ◌∙◌, refl}
use Rattle.lalrpop_re.specs.Escape.{character}
use Rattle.lalrpop_re.specs.Internal.Views.{text}
use Rattle.lalrpop_re.proofs.BracketLoops.{primary_plain}
use Rattle.lalrpop_re.proofs.bracket.parse_primary.Goals as goal

pub returns-then-first-ne92-clause-value : goal.returns-then-first-ne92-clause-value
returns-then-first-ne92-clause-value c =
    ((character c.in-Some.first, text c.advance.new.self), primary_plain (text c.args.cursor.now) (text c.advance.new.self) c.in-Some.first (sym c.peek.ensures ∙ c.in-Some.is) c.if-first-ne92.true c.advance.ensures.text, (refl, refl))
