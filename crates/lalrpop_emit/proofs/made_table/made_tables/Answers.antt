use Rattle.std.proofs.Common.{◌≡◌, ◌+◌, ◌*◌, ◌∙◌, ℕ, ap, arith, length, subst}
use Rattle.lalrpop_emit.specs.Internal.Lists.{list_numbers}
use Rattle.lalrpop_emit.specs.Internal.Regular.{IsRegular}
use Rattle.lalrpop_emit.proofs.made_table.made_tables.Goals as goal

pub regular_ahead-requires-clause-regular : goal.regular_ahead-requires-clause-regular
regular_ahead-requires-clause-regular c =
    let t = list_numbers c.in_ok-table.table in
    let states = length c.args.dfa.now in
    let count : states ≡ length c.states-count.result.now = omega (arith, c.states-count.ensures.states.same_length) in
    let rows : 3 * states ≡ states + 2 * states = omega arith in
    subst (λ (n : ℕ). IsRegular t n (n + 2 * n)) count (subst (IsRegular t states) rows c.in_ok-table.ensures.regular)

pub regular_ahead-requires-clause-accept : goal.regular_ahead-requires-clause-accept
regular_ahead-requires-clause-accept c =
    let table = c.in_ok-table.table in
    let states = length c.args.dfa.now in
    let count = length c.states-count.result.now in
    let rows : 2 * states ≡ count + count = omega (arith, c.states-count.ensures.states.same_length) in
    let width : table.width ≡ c.len-width.result = omega (arith, c.in_ok-table.ensures.width, c.len-width.ensures) in
    c.in_ok-table.ensures.accept ∙ ap (λ (n : ℕ). n * (table.width + 1)) rows ∙ ap (λ (n : ℕ). (count + count) * (n + 1)) width
