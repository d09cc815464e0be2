use Rattle.lalrpop_build.specs.Internal.EdgeGroups.{IsGrown, AreStatesTo}
use Rattle.lalrpop_build.proofs.alphabet.groups.Lists.states_of.Given as goal

abbrev pub invariant-loop-number : goal.invariant-loop-number
invariant-loop-number l = record {
  states : AreStatesTo l.self l.fn.nfa l.number l.states.items;
  grown : IsGrown l.fn.self l.self;
}
