use Rattle.std.proofs.Common.{sym, ◌∙◌}
use Rattle.lalrpop_re.specs.PosixSet.{posix_set}
use Rattle.lalrpop_re.proofs.SpanLaws.{HasRuns-exactly}
use Rattle.lalrpop_re.proofs.PosixLaws.{at_row, no_row}
use Rattle.lalrpop_re.proofs.posix.posix_class.Goals as goal

pub loop-class-preserved : goal.loop-class-preserved
loop-class-preserved c =
    (at_row c.args.name.now c.posix_classes-class-items.result.now c.loop-class.class-index _ (posix_set c.args.name.now) c.loop-class-test.true c.loop-class.invariant).1 (sym c.spells.ensures ∙ c.if-spells.false)

pub class_of_ranges-requires : goal.class_of_ranges-requires
class_of_ranges-requires c =
    let found = (at_row c.args.name.now c.posix_classes-class-items.result.now c.loop-class.class-index _ (posix_set c.args.name.now) c.loop-class-test.true c.loop-class.invariant).0 (sym c.spells.ensures ∙ c.if-spells.true) in
    found.2

pub returns-then-spells : goal.returns-then-spells
returns-then-spells c =
    let found = (at_row c.args.name.now c.posix_classes-class-items.result.now c.loop-class.class-index _ (posix_set c.args.name.now) c.loop-class-test.true c.loop-class.invariant).0 (sym c.spells.ensures ∙ c.if-spells.true) in
    record { found = (found.0, found.1, HasRuns-exactly c.in_ok-class_of_ranges.field-0 _ found.0 found.3 c.in_ok-class_of_ranges.ensures) }

pub returns : goal.returns
returns c = record { found = no_row c.args.name.now c.posix_classes-class-items.result.now c.loop-class.class-index (posix_set c.args.name.now) c.loop-class-test.false c.loop-class.invariant }
