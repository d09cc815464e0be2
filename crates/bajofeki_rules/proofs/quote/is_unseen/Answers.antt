use Rattle.std.proofs.Common.{sym, ◌∙◌}
use Rattle.std.proofs.lemmas.Bool.{ltb-true}
use Rattle.bajofeki_rules.proofs.Unseen.{unseen_in_ascii}
use Rattle.bajofeki_rules.proofs.quote.is_unseen.Goals as goal

pub returns-then-is_ascii : goal.returns-then-is_ascii
returns-then-is_ascii c = c.is_control.ensures ∙ sym (unseen_in_ascii c.args.c (ltb-true c.args.c 128 (sym c.is_ascii.ensures ∙ c.if-is_ascii.true)))
