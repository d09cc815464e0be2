use Rattle.std.proofs.Common.{map}
use Rattle.bajofeki_rules.specs.Internal.Marks.{HasRound}
use Rattle.bajofeki_rules.proofs.entered.mark_round.Given as goal

abbrev pub invariant-loop-rule : goal.invariant-loop-rule
invariant-loop-rule l = HasRound (map (λ r. r.modes.now) l.rules) (map (λ r. r.actions.now) l.rules) l.rule-index l.initial.marks l.marks l.is_any
