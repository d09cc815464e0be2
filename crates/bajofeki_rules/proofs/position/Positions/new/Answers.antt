use Rattle.std.proofs.Common.{sym, ap}
use Rattle.std.proofs.lemmas.Str.{IsCharBoundary-start, chars-nil}
use Rattle.bajofeki_rules.specs.Position.{place_behind}
use Rattle.bajofeki_rules.proofs.position.Positions.new.Goals as goal

pub invariant_of-result : goal.invariant_of-result
invariant_of-result c = (c.utf8.text, IsCharBoundary-start c.args.text.now c.utf8.text, sym (ap place_behind chars-nil))
