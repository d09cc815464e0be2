use Rattle.std.proofs.Common.{◌≡◌, ◌+◌, ◌-◌, ℕ, ◌∷◌, drop, sym, subst, arith}
use Rattle.lalrpop_emit.specs.Ahead.{bad_column}
use Rattle.lalrpop_emit.specs.Internal.Columns.{AreColumns}
use Rattle.lalrpop_emit.specs.Internal.Lists.{list_numbers}
use Rattle.lalrpop_emit.proofs.BlockColumns.{column_behind, column_within, column_read, column_none}
use Rattle.lalrpop_emit.proofs.Walks.{character_size}
use Rattle.lalrpop_emit.proofs.ahead_columns.next_column.Goals as goal

pub returns-then-at-text : goal.returns-then-at-text
returns-then-at-text c = λ rest h.
    let t = list_numbers c.args.table.now in
    let width = c.args.ahead.now.width in
    let is : width - 2 + 1 ≡ bad_column width = omega (arith, c.requires.ahead.columns) in
    subst (λ (n : ℕ). AreColumns t c.args.ahead.now.width c.args.left (drop c.args.at c.args.text.now) (n ∷ rest)) (sym is)
    (column_behind t width c.args.text.now c.args.at rest c.args.left (omega (arith, c.if-at-text.true)) h)

pub returns-then-left-gt0 : goal.returns-then-left-gt0
returns-then-left-gt0 c = λ rest h.
    column_within (list_numbers c.args.table.now) c.args.ahead.now.width c.args.text.now c.args.at rest c.args.left (omega (arith, c.if-at-text.false)) (omega (arith, c.if-left-gt0.true)) h

pub overflow_sub-result-in-Some : goal.overflow_sub-result-in-Some
overflow_sub-result-in-Some c = omega (arith, c.in-Some.ensures.1, character_size c.in-Some.character.code)

pub returns-in-Some : goal.returns-in-Some
returns-in-Some c = λ rest h.
    let t = list_numbers c.args.table.now in
    let text = c.args.text.now in
    let none : c.args.left ≡ 0 = omega (arith, c.if-left-gt0.false) in
    let is = c.column_of.ensures in
    subst (λ (n : ℕ). AreColumns t c.args.ahead.now.width n (drop c.args.at text) (c.column_of.result ∷ rest)) (sym none)
    (subst (λ (n : ℕ). AreColumns t c.args.ahead.now.width 0 (drop c.args.at text) (n ∷ rest)) (sym is)
    (column_read t c.args.ahead.now.width text c.args.at rest c.in-Some.character.code c.in-Some.character.size (omega (arith, c.if-at-text.false)) c.in-Some.ensures.0 c.in-Some.ensures.1 h))

pub returns-in-None : goal.returns-in-None
returns-in-None c = λ rest h.
    let t = list_numbers c.args.table.now in
    let text = c.args.text.now in
    let none : c.args.left ≡ 0 = omega (arith, c.if-left-gt0.false) in
    let width = c.args.ahead.now.width in
    let is : width - 2 + 1 ≡ bad_column width = omega (arith, c.requires.ahead.columns) in
    subst (λ (n : ℕ). AreColumns t c.args.ahead.now.width n (drop c.args.at text) ((width - 2 + 1) ∷ rest)) (sym none)
    (subst (λ (n : ℕ). AreColumns t c.args.ahead.now.width 0 (drop c.args.at text) (n ∷ rest)) (sym is)
    (column_none t width text c.args.at rest (omega (arith, c.if-at-text.false)) c.in-None.ensures h))
