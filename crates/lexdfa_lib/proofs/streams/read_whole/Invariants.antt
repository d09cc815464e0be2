use Rattle.std.proofs.Common.{◌≡◌, ◌-◌, ◌^◌, length, vec_len}
use Rattle.lexdfa_lib.specs.Streams.{LeftOff, Reads}
use Rattle.lexdfa_lib.proofs.streams.read_whole.Given as goal

-- what was read so far
abbrev pub invariant-loop-all : goal.invariant-loop-all
invariant-loop-all g l = record {
  read : Reads l.fn.reader l.reader (record { bytes = l.all.items; end = LeftOff });
  size : length l.buffer ≡ 8192;
}

abbrev pub decreases-loop-all : goal.decreases-loop-all
decreases-loop-all g l = 2 ^ 64 - vec_len l.all
