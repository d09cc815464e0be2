use Rattle.std.proofs.Common.{ℕ, ◌↔◌, take}
use Rattle.std.specs.List.{Contains}
use Rattle.lalrpop_hir.specs.Range.{Range}
use Rattle.lalrpop_build.specs.Internal.Grouped.{HasLabel}
use Rattle.lalrpop_build.proofs.alphabet.cells.labels_of.Given as goal

abbrev pub invariant-loop-list : goal.invariant-loop-list
invariant-loop-list l = (r : Range) → Contains l.labels.keys r ↔ ((n : ℕ) × HasLabel (take l.list-index l.lists) n r)
