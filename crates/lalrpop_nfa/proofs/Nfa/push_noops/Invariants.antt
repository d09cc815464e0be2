use Rattle.std.proofs.Common.{◌≡◌, take}
use Rattle.lalrpop_nfa.specs.Internal.Added.{with_noops}
use Rattle.lalrpop_nfa.specs.Internal.Adjacent.{IsOpen}
use Rattle.lalrpop_nfa.proofs.Nfa.push_noops.Given as goal

abbrev pub invariant-loop-target : goal.invariant-loop-target
invariant-loop-target l = record {
  pushed : l.self ≡ with_noops l.fn.self l.from (take l.target-index l.targets);
  together : IsOpen l.from l.self.edges.noops;
}
