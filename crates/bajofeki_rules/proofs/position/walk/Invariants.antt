use Rattle.bajofeki_rules.proofs.Places.{IsWalk}
use Rattle.bajofeki_rules.proofs.position.walk.Given as goal

abbrev pub invariant-loop-c : goal.invariant-loop-c
invariant-loop-c l = IsWalk l.text l.from l.to l.yielded l.c-iterator.rest.now l.place
