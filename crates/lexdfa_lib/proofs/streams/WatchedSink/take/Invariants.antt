use Rattle.std.proofs.Common.{◌≡◌, false, ◌-◌, ◌≤◌, length, take}
use Rattle.std.specs.Io.KnownBytes.{Appends}
use Rattle.lexdfa_lib.proofs.streams.WatchedSink.take.Given as goal

-- what was taken so far
abbrev pub invariant-loop-at : goal.invariant-loop-at
invariant-loop-at g l = record {
  inside : l.at ≤ length l.bytes;
  known : Appends (g.W.Write.contents l.fn.self.inner) (g.W.Write.contents l.self.inner) (take l.at l.bytes);
  good : l.self.is_broken ≡ false;
  no_late : l.self.late ≡ l.fn.self.late;
}

abbrev pub decreases-loop-at : goal.decreases-loop-at
decreases-loop-at g l = length l.bytes - l.at
