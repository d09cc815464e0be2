use Rattle.std.proofs.Common.{◌≡◌, ℕ, ◌-◌, ◌<◌, length}
use Rattle.std.specs.Prelude.{slice_index}
use Rattle.std.specs.List.{All}
use Rattle.lalrpop_dense.specs.Internal.Table.{class_of}
use Rattle.lalrpop_dense.specs.Internal.Runs.{IsRun}
use Rattle.lalrpop_dense.proofs.check.runs_of.Given as goal

-- the characters below the start are in runs
abbrev pub invariant-loop-start : goal.invariant-loop-start
invariant-loop-start l = record {
  list : All (IsRun l.layout) l.list.items;
  enough : length l.ends.items ≡ 256;
  ends : (c : ℕ) → c < l.start → c < slice_index l.ends.items (class_of l.layout c);
}

abbrev pub decreases-loop-start : goal.decreases-loop-start
decreases-loop-start l = 1114112 - l.start
