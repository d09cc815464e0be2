use Rattle.std.proofs.Common.{◌≡◌, drop, map}
use Rattle.std.specs.List.{list_all}
use Rattle.lalrpop_emit.specs.CSource.{is_narrow_ahead}
use Rattle.lalrpop_emit.specs.Internal.Lists.{ahead_numbers}
use Rattle.lalrpop_emit.proofs.c_file.are_narrow_ahead.Given as goal

-- what is left decides
abbrev pub invariant-loop-ahead : goal.invariant-loop-ahead
invariant-loop-ahead l = list_all is_narrow_ahead (map ahead_numbers (drop l.ahead-index l.aheads)) ≡ list_all is_narrow_ahead (map ahead_numbers l.aheads)
