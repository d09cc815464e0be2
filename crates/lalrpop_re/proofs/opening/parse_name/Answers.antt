use Rattle.std.proofs.Common.{arith, sym, ◌∙◌}
use Rattle.lalrpop_re.specs.Internal.Reading.{ends_name}
use Rattle.lalrpop_re.proofs.OpeningSteps.{cut_of, mark_within, name_found}
use Rattle.lalrpop_re.proofs.opening.parse_name.Goals as goal

pub advance-requires : goal.advance-requires
advance-requires c =
    let k = cut_of ends_name c.rest.result.now c.split_before.result.0.now c.split_before.result.1.now c.split_before.ensures in
    rw (← c.rest.ensures) (mark_within k (omega (arith, c.starts_with.ensures.bound)))

pub returns-clause-value : goal.returns-clause-value
returns-clause-value c = λ t.
    let k = cut_of ends_name c.rest.result.now c.split_before.result.0.now c.split_before.result.1.now c.split_before.ensures in
    rw (c.advance.ensures.text, c.in_ok-name.ensures, ← c.rest.ensures)
    (name_found c.args.cursor.now.flags k (sym c.starts_with.ensures.value ∙ c.if-not-starts_with.false) (sym c.is_name.ensures ∙ c.if-not-is_name.false) t)
