use Rattle.std.proofs.Common.{◌≡◌, ◌==◌, length, map, take}
use Rattle.std.specs.List.{list_any}
use Rattle.lalrpop_rules.specs.Modes.{kinds_of}
use Rattle.lalrpop_rules.proofs.masked.masked_kinds.Given as goal

abbrev pub invariant-loop-index : goal.invariant-loop-index
invariant-loop-index l =
    (l.all.items ≡ kinds_of (take l.index (map (λ k. list_any (λ n. n == l.mode) k.modes.items) l.known)) (take l.index l.kinds))
    × (length l.all.items ≡ l.index)
