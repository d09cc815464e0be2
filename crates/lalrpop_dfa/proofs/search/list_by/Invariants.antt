use Rattle.std.proofs.Common.{◌≡◌, ℕ, ◌<◌, Some, length}
use Rattle.std.specs.Prelude.{slice_get}
use Rattle.lalrpop_dfa.specs.Dfa.{edge_target}
use Rattle.lalrpop_dfa.specs.Stored.{EndBefore}
use Rattle.lalrpop_dfa.proofs.search.list_by.Given as goal

abbrev pub invariant-loop-value : goal.invariant-loop-value
invariant-loop-value l = record {
  leads : (c : ℕ) → c < l.value → slice_get l.targets c ≡ Some (edge_target l.edges l.other c);
  passed : EndBefore l.edges l.place l.value;
  long : length l.targets ≡ 128;
}
