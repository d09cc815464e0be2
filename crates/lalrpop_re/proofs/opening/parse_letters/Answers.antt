use Rattle.std.proofs.Common.{arith, sym, ◌∙◌}
use Rattle.lalrpop_re.specs.Internal.Reading.{ends_letters}
use Rattle.lalrpop_re.proofs.OpeningSteps.{cut_of, mark_within, group_found, not_empty, directive_found}
use Rattle.lalrpop_re.proofs.opening.parse_letters.Goals as goal

pub advance-requires : goal.advance-requires
advance-requires c =
    let k = cut_of ends_letters c.rest.result.now c.split_before.result.0.now c.split_before.result.1.now c.split_before.ensures in
    rw (← c.rest.ensures) (mark_within k (omega (arith, c.starts_with.ensures.bound)))

pub returns-then-starts_with-clause-value : goal.returns-then-starts_with-clause-value
returns-then-starts_with-clause-value c = λ t.
    let k = cut_of ends_letters c.rest.result.now c.split_before.result.0.now c.split_before.result.1.now c.split_before.ensures in
    let turned = rw c.flags.ensures at (sym c.flags_of.ensures ∙ c.in-Some.is) in
    rw (c.advance.ensures.text, ← c.rest.ensures)
    (group_found c.args.cursor.now.flags c.in-Some.flags k (sym c.starts_with.ensures.value ∙ c.if-starts_with.true) turned t)

pub advance-requires-then-not-is_empty : goal.advance-requires-then-not-is_empty
advance-requires-then-not-is_empty c =
    let k = cut_of ends_letters c.rest.result.now c.split_before.result.0.now c.split_before.result.1.now c.split_before.ensures in
    rw (← c.rest.ensures) (mark_within k (omega (arith, c.starts_with-in-Some.ensures.bound)))

pub returns-then-not-is_empty-clause-value : goal.returns-then-not-is_empty-clause-value
returns-then-not-is_empty-clause-value c = λ t.
    let k = cut_of ends_letters c.rest.result.now c.split_before.result.0.now c.split_before.result.1.now c.split_before.ensures in
    let turned = rw c.flags.ensures at (sym c.flags_of.ensures ∙ c.in-Some.is) in
    rw (c.advance-then-not-is_empty.ensures.text, ← c.rest.ensures)
    (directive_found c.args.cursor.now.flags c.in-Some.flags k (sym c.starts_with.ensures.value ∙ c.if-starts_with.false) (sym c.starts_with-in-Some.ensures.value ∙ c.if-starts_with-2.true) (not_empty c.split_before.result.0.now (sym c.is_empty-is_empty.ensures ∙ c.if-not-is_empty.true)) turned t)
