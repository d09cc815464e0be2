use Rattle.std.proofs.Common.{ℕ, ◌↔◌, subst}
use Rattle.std.specs.List.{Contains}
use Rattle.std.proofs.lemmas.List.{take_all}
use Rattle.lalrpop_hir.specs.Range.{Range}
use Rattle.lalrpop_build.specs.Internal.Grouped.{HasLabel}
use Rattle.lalrpop_build.specs.Internal.Boundaries.{HasAllOf}
use Rattle.lalrpop_build.proofs.BoundaryLabels.{lists_more}
use Rattle.lalrpop_build.proofs.alphabet.cells.labels_of.Goals as goal

pub loop-list-preserved : goal.loop-list-preserved
loop-list-preserved c =
    let new : HasAllOf c.loop-list.labels.keys c.list-item.result.list.items c.insert_labels.new.labels.keys = rw c.deref.ensures.value at c.in_ok-insert_labels.ensures in
    lists_more c.args.lists.now c.loop-list.list-index c.list-item.result c.loop-list.labels.keys c.insert_labels.new.labels.keys c.loop-list-test.true c.list-item.is c.loop-list.invariant new

pub returns : goal.returns
returns c =
    subst (λ xs. (r : Range) → Contains c.loop-list.labels.keys r ↔ ((n : ℕ) × HasLabel xs n r)) (take_all c.loop-list.list-index c.args.lists.now c.loop-list-test.false) c.loop-list.invariant
