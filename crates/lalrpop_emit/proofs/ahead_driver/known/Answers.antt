use Rattle.std.proofs.Common.{◌≡◌, ◌+◌, ◌-◌, ◌<◌, ℕ, List, length, slice_index, slice_index_or, sym, ap, subst, ◌∙◌, arith}
use Rattle.std.proofs.lemmas.List.{get_or_read}
use Rattle.lalrpop_dense.specs.DenseTable.{TableNumbers}
use Rattle.lalrpop_emit.specs.Internal.Lists.{ahead_numbers}
use Rattle.lalrpop_emit.specs.Internal.Running.{IsNextEnd, Serves}
use Rattle.lalrpop_emit.proofs.RunTokens.{IsKnownEnd, end_within, known_end, rule_cell, serves_on, token_known}
use Rattle.lalrpop_emit.proofs.ahead_driver.known.Goals.{In_ok-end}
use Rattle.lalrpop_emit.proofs.ahead_driver.known.Goals as goal

-- where an end was found
found : (c : In_ok-end) (t : TableNumbers) (text : List ℕ) (at : ℕ) → Serves (ahead_numbers c.args.ahead.now) t text c.args.run.now at
    → IsKnownEnd (ahead_numbers c.args.ahead.now) t text at c.next_end.new.run c.in_ok-end.end
found c t text at s =
    known_end (ahead_numbers c.args.ahead.now) t text at c.args.run.now c.next_end.new.run c.in_ok-end.ensures.same c.in_ok-end.ensures.place c.in_ok-end.end
    c.in_ok-end.ensures.none c.in_ok-end.ensures.end s

serves_still : (c : In_ok-end) (t : TableNumbers) (text : List ℕ) (at : ℕ) → Serves (ahead_numbers c.args.ahead.now) t text c.args.run.now at
    → Serves (ahead_numbers c.args.ahead.now) t text c.next_end.new.run at
serves_still c t text at s =
    serves_on (ahead_numbers c.args.ahead.now) t text at c.args.run.now c.next_end.new.run c.in_ok-end.ensures.same c.in_ok-end.ensures.place
    (λ none. absurd (c.in_ok-end.ensures.none none)) s

within : (c : In_ok-end) → (0 < c.in_ok-end.end) × (c.in_ok-end.end < c.next_end.new.run.length)
within c =
    let served = c.requires.serves in
    end_within (ahead_numbers c.args.ahead.now) served.0 served.1.0 served.1.1.0 c.next_end.new.run c.in_ok-end.end (found c served.0 served.1.0 served.1.1.0 served.1.1.1) c.in_ok-end.ensures.room

-- the row that was read, and the cell for its rule
module _ (c : In_ok-end) (row : ℕ) (read : row ≡ slice_index_or c.next_end.new.run.rows.items (c.in_ok-end.end - 1) row) where
  row_read : row ≡ slice_index c.next_end.new.run.rows.items (c.in_ok-end.end - 1)
  row_read =
      let inside = within c in
      let room = c.in_ok-end.ensures.room in
      get_or_read c.next_end.new.run.rows.items (c.in_ok-end.end - 1) row (omega (arith, inside, room.length)) read 0

  cell_there : row + c.args.ahead.now.width < length c.args.ahead.now.cells.items
  cell_there =
      let served = c.requires.serves in
      let known = found c served.0 served.1.0 served.1.1.0 served.1.1.1 in
      omega (arith, row_read, rule_cell (ahead_numbers c.args.ahead.now) served.0 served.1.0 served.1.1.0 c.next_end.new.run c.in_ok-end.end known c.in_ok-end.ensures.room)

pub returns-in_err-end-clause-serves : goal.returns-in_err-end-clause-serves
returns-in_err-end-clause-serves c = λ t text at s.
    serves_on (ahead_numbers c.args.ahead.now) t text at c.args.run.now c.next_end.new.run c.in_err-end.ensures.same c.in_err-end.ensures.place c.in_err-end.ensures.none s

pub overflow_sub-end : goal.overflow_sub-end
overflow_sub-end c = omega (arith, within (goal.at.overflow_sub-end c).In_ok-end)

pub index-requires : goal.index-requires
index-requires c =
    let inside = within (goal.at.index-requires c).In_ok-end in
    let room = c.in_ok-end.ensures.room in
    omega (arith, inside, room.length, c.next_end.new.run.rows.ok)

pub overflow_add-index : goal.overflow_add-index
overflow_add-index c = omega (arith, cell_there (goal.at.overflow_add-index c).In_ok-end c.index.result.now c.index.ensures, c.args.ahead.now.cells.ok, c.args.ahead.now.cells.small)

pub index-rule-requires : goal.index-rule-requires
index-rule-requires c = omega (arith, cell_there (goal.at.index-rule-requires c).In_ok-end c.index.result.now c.index.ensures, c.args.ahead.now.cells.ok)

pub returns-then-rule-eq-NO_RULE-clause-serves : goal.returns-then-rule-eq-NO_RULE-clause-serves
returns-then-rule-eq-NO_RULE-clause-serves c = serves_still (goal.at.returns-then-rule-eq-NO_RULE-clause-serves c).In_ok-end

pub overflow_add-result : goal.overflow_add-result
overflow_add-result c =
    let served = c.requires.serves in
    let ok = (goal.at.overflow_add-result c).In_ok-end in
    let through = (found ok served.0 served.1.0 served.1.1.0 served.1.1.1).there.through in
    omega (arith, (within ok).1, through.inside, through.fits)

pub returns-clause-serves : goal.returns-clause-serves
returns-clause-serves c = serves_still (goal.at.returns-clause-serves c).In_ok-end

pub returns-clause-token : goal.returns-clause-token
returns-clause-token c = λ t text at s.
    let a = ahead_numbers c.args.ahead.now in
    let run = c.next_end.new.run in
    let ok = (goal.at.returns-clause-token c).In_ok-end in
    let row = c.index.result.now in
    let rule = get_or_read a.cells (row + a.width) c.index-rule.result.now (cell_there ok row c.index.ensures) c.index-rule.ensures 0 in
    token_known a t text at run c.in_ok-end.end (found ok t text at s) c.in_ok-end.ensures.room c.index-rule.result.now
    (sym (rule ∙ ap (λ (k : ℕ). slice_index a.cells (k + a.width)) (row_read ok row c.index.ensures))) c.if-rule-eq-NO_RULE.false

pub returns-clause-end : goal.returns-clause-end
returns-clause-end c = λ t text at s.
    let run = c.next_end.new.run in
    let known = found (goal.at.returns-clause-end c).In_ok-end t text at s in
    let place : c.in_ok-end.end ≡ run.base + c.in_ok-end.end - run.base = omega arith in
    (known.there.place, subst (IsNextEnd c.args.ahead.now.ends run (at - run.base)) place known.next)
