use Rattle.std.proofs.Common.{ℕ, ◌-◌, ◌<◌, ◌≤◌, List, length, drop}
use Rattle.lalrpop_hir.specs.Tree.{Tree}
use Rattle.lalrpop_dfa.specs.Dfa.{Row, Recognizes}
use Rattle.lalrpop_dense.specs.DenseTable.{IsTableFor}
use Rattle.lalrpop_rules.specs.Found.{MatchesAt, NoMatchBefore}
use Rattle.lalrpop_emit.specs.Internal.Lists.{ahead_numbers, list_numbers}
use Rattle.lalrpop_emit.specs.Internal.Memo.{IsMemoFor}
use Rattle.lalrpop_emit.proofs.longest_match.fault_end.Given as goal

-- nothing matches from the start up to this end
abbrev pub invariant-fault : goal.invariant-fault
invariant-fault l = record {
  nothing : (d : List Row) → IsTableFor (list_numbers l.table) d → (ts : List Tree) (ps : List ℕ) → Recognizes d ts ps → ¬ MatchesAt ts l.text l.start
      → NoMatchBefore ts (drop l.start l.text) (l.end - l.start);
  some : l.start < l.end;
  within : l.end ≤ length l.text;
  memo : IsMemoFor (ahead_numbers l.ahead) (list_numbers l.table) l.text l.memo;
}

abbrev pub decreases-fault : goal.decreases-fault
decreases-fault l = length l.text - l.end
