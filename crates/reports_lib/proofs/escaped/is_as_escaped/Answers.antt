use Rattle.std.proofs.Common.{sym, ◌∙◌}
use Rattle.reports_lib.proofs.JsonLaws.{escaped_as_is}
use Rattle.reports_lib.proofs.escaped.is_as_escaped.Goals as goal

pub returns-then-are_seen : goal.returns-then-are_seen
returns-then-are_seen c _ = escaped_as_is c.args.printed.now (sym c.are_seen.ensures ∙ c.if-are_seen.true)
