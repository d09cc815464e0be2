use Rattle.std.proofs.Common.{flat_map, take}
use Rattle.std.specs.Fmt.{HasWritten, IsPlainFormatter}
use Rattle.bajofeki_rules.specs.Quoted.{value_told}
use Rattle.bajofeki_rules.proofs.quote.ShownWordDisplay.fmt.Given as goal

-- the values so far
abbrev pub invariant-loop-value : goal.invariant-loop-value
invariant-loop-value g l =
    IsPlainFormatter l.initial.f → HasWritten g.W.Write.write_str_gives l.initial.f (flat_map value_told (take l.value-index l.value-items)) l.f
