use Rattle.std.proofs.Common.{sym}
use Rattle.lalrpop_review.proofs.idle_rules.idle_at.Goals as goal

pub returns-then-belongs : goal.returns-then-belongs
returns-then-belongs c = record { idle = c.idle_rule.ensures.idle c.args.lexer.now c.args.mode (sym c.kinds.ensures.kinds) c.if-belongs.ensures c.in_ok-told.ensures.told }
