use Rattle.std.proofs.Common.{arith, sym, ◌∙◌}
use Rattle.lalrpop_re.specs.Internal.Reading.{ends_part}
use Rattle.lalrpop_re.proofs.OpeningSteps.{cut_of, mark_within}
use Rattle.lalrpop_re.proofs.PartSteps.{part_found}
use Rattle.lalrpop_re.proofs.part.part_after.Goals as goal

pub returns-clause-value : goal.returns-clause-value
returns-clause-value c =
    let k = cut_of ends_part c.args.text.now c.split_before.result.0.now c.split_before.result.1.now c.split_before.ensures in
    part_found c.args.parts.now k c.in_ok-part.part.now (sym c.starts_with.ensures.value ∙ c.if-not-starts_with.false) (sym c.is_name.ensures ∙ c.if-not-is_name.false) (sym c.in_ok-part.ensures)

pub returns-clause-within : goal.returns-clause-within
returns-clause-within c =
    let k = cut_of ends_part c.args.text.now c.split_before.result.0.now c.split_before.result.1.now c.split_before.ensures in
    mark_within k (omega (arith, c.starts_with.ensures.bound))
