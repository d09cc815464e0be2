use Rattle.std.proofs.Common.{arith}
use Rattle.lalrpop_emit.proofs.ByteFaults.{matches_there, none_there, none_first, none_more, fault_to_match, fault_to_end}
use Rattle.lalrpop_emit.proofs.longest_match.fault_end.Goals as goal

pub fault-init : goal.fault-init
fault-init c = record {
  nothing = λ d h ts ps s none. none_first ts c.args.text.now c.args.start none;
  some = omega arith;
  within = omega (arith, c.requires.within);
  memo = c.requires.memo;
}

pub fault-preserved : goal.fault-preserved
fault-preserved c = record {
  nothing = λ d h ts ps s none.
      none_more ts c.args.text.now c.args.start c.fault.end (omega (arith, c.fault.invariant.some)) (c.fault.invariant.nothing d h ts ps s none)
      (none_there ts ps c.args.text.now c.fault.end c.longest.result c.is_some.result c.is_some.ensures c.if-is_some.false (c.longest.ensures.answer d h ts ps s));
  some = omega (arith, c.fault.invariant.some);
  within = omega (arith, c.fault-test.true);
  memo = c.longest.ensures.memo;
}

pub returns-then-is_some-clause-fault : goal.returns-then-is_some-clause-fault
returns-then-is_some-clause-fault c = λ d h ts ps s none.
    fault_to_match ts c.args.text.now c.args.start c.fault.end c.fault.invariant.some c.fault.invariant.within (c.fault.invariant.nothing d h ts ps s none)
    (matches_there ts ps c.args.text.now c.fault.end c.longest.result c.is_some.result c.is_some.ensures c.if-is_some.true (c.longest.ensures.answer d h ts ps s))

pub returns-clause-fault : goal.returns-clause-fault
returns-clause-fault c = λ d h ts ps s none.
    fault_to_end ts c.args.text.now c.args.start c.fault.end c.fault.invariant.some c.fault.invariant.within c.fault-test.false (c.fault.invariant.nothing d h ts ps s none)
