use Rattle.std.proofs.Common.{◌≡◌, ◌-◌, false, length, take, drop}
use Rattle.std.specs.Str.{chars}
use Rattle.lalrpop_hir.proofs.Cuts.{IsCut}
use Rattle.bajofeki.specs.Internal.Held.{IsUnmatched}
use Rattle.bajofeki.specs.Internal.Walking.{behind}
use Rattle.bajofeki.proofs.held_run.HeldRun.read_on.Given as goal

abbrev pub invariant-reading : goal.invariant-reading
invariant-reading l = record {
  cut : IsCut l.text l.read (drop l.read l.text);
  reached : l.place ≡ behind l.walker (chars (take l.read l.text));
  nothing : l.has_match ≡ false → IsUnmatched l.walker (chars (take l.read l.text));
}

abbrev pub decreases-reading : goal.decreases-reading
decreases-reading l = length l.text - l.read
