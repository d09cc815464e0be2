use Rattle.std.proofs.Common.{refl}
use Rattle.lalrpop_review.proofs.IdleLaws.{told_idle, told_itself, told_not}
use Rattle.lalrpop_review.proofs.idle_rules.idle_rule.Goals as goal

pub returns-then-are_of_other_kinds : goal.returns-then-are_of_other_kinds
returns-then-are_of_other_kinds c = record {
  idle = λ r m kinds belongs are. told_idle c.args.kinds.now c.args.index c.args.told r m kinds are c.in-Some.winners c.deref.result.now c.in-Some.is c.deref.ensures.value c.new.result
      c.new.ensures.value belongs (c.if-are_of_other_kinds.ensures.0 refl);
}

pub returns-else-are_of_other_kinds : goal.returns-else-are_of_other_kinds
returns-else-are_of_other_kinds c = record {
  idle = λ r m kinds belongs are. told_not c.args.kinds.now c.args.index c.args.told r m kinds are c.in-Some.winners c.deref.result.now c.in-Some.is c.deref.ensures.value
      (λ others. cc (c.if-are_of_other_kinds.ensures.1 others));
}

pub returns-in-None : goal.returns-in-None
returns-in-None c = record { idle = λ r m kinds belongs are. told_itself c.args.kinds.now c.args.index c.args.told r m kinds are c.in-None.is }
