use Rattle.std.proofs.Common.{rules, ◌≡◌, ◌+◌, ◌≤◌, slice_get, Some}
use Rattle.lalrpop_hir.specs.Range.{Range}
use Rattle.lalrpop_build.proofs.Marking.{label_marked, ends_added}
use Rattle.lalrpop_build.proofs.alphabet.signatures.mark_label.Goals as goal

pub returns-clause-gained : goal.returns-clause-gained
returns-clause-gained c =
    let r : Range = c.args.label.now in
    let start : slice_get c.args.boundaries.now c.place_of-from.result ≡ Some r.start = search rules in
    let end : slice_get c.args.boundaries.now c.place_of-until.result ≡ Some (r.end + 1) = search rules in
    label_marked c.args.boundaries.now c.requires.rising r c.place_of-from.result c.place_of-until.result c.args.number c.args.signatures.now.items c.mark_cells.new.signatures.items start end c.in_ok-mark_cells.ensures

pub returns-clause-ends : goal.returns-clause-ends
returns-clause-ends c =
    let r : Range = c.args.label.now in
    let start : slice_get c.args.boundaries.now c.place_of-from.result ≡ Some r.start = search rules in
    let end : slice_get c.args.boundaries.now c.place_of-until.result ≡ Some (r.end + 1) = search rules in
    let some : r.start ≤ r.end = search rules in
    ends_added c.args.boundaries.now c.requires.rising r c.place_of-from.result c.place_of-until.result c.args.ends.now.items c.add.new.numbers.items c.add-2.new.numbers.items some start end c.in_ok-add.ensures c.in_ok-add-2.ensures
