use Rattle.std.proofs.Common.{◌≡◌, take}
use Rattle.lalrpop_nfa.specs.Internal.Added.{with_tests}
use Rattle.lalrpop_nfa.specs.Internal.Adjacent.{IsOpen}
use Rattle.lalrpop_nfa.proofs.Nfa.class_expr.Given as goal

abbrev pub invariant-loop-range : goal.invariant-loop-range
invariant-loop-range l = record {
  pushed : l.self ≡ with_tests l.initial.self l.state (take l.range-index l.range-items) l.target;
  together : IsOpen l.state l.self.edges.tests;
}

abbrev pub invariant-loop-range-2 : goal.invariant-loop-range-2
invariant-loop-range-2 l = record {
  pushed : l.self ≡ with_tests l.initial.self l.state (take l.range-index l.range-items) l.target;
  together : IsOpen l.state l.self.edges.tests;
}
