use Rattle.std.proofs.Common.{◌<◌, length, subst}
use Rattle.std.proofs.lemmas.List.{take_all}
use Rattle.lalrpop_build.specs.Internal.Boundaries.{HasAllOf}
use Rattle.lalrpop_build.proofs.BoundaryLabels.{labels_more}
use Rattle.lalrpop_build.proofs.LabelOrder.{range_same}
use Rattle.lalrpop_build.proofs.alphabet.cells.insert_labels.Goals as goal

pub loop-label-preserved : goal.loop-label-preserved
loop-label-preserved c =
    let (x, y, p, q, same) = c.in_ok-label.ensures.cases in
    let l : c.loop-label.label-index < length c.args.list.now = c.loop-label-test.true in
    labels_more c.loop-label.labels c.insert.new.self c.in_ok-label.label c.in_ok-insert.ensures.updates c.args.labels.now.keys c.args.list.now c.loop-label.label-index c.label-item.result l c.label-item.is
    (range_same (record { start = x.start; end = x.end }) (record { start = y.start; end = y.end }) c.label-item.result c.in_ok-label.label p q same.0 same.1) c.loop-label.invariant

pub returns : goal.returns
returns c = subst (λ xs. HasAllOf c.args.labels.now.keys xs c.loop-label.labels.keys) (take_all c.loop-label.label-index c.args.list.now c.loop-label-test.false) c.loop-label.invariant
