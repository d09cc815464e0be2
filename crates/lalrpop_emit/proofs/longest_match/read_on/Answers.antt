use Rattle.std.proofs.Common.{refl, arith}
use Rattle.lalrpop_emit.specs.Ahead.Standing.{Begin}
use Rattle.lalrpop_emit.specs.Internal.Lists.{ahead_numbers, list_numbers}
use Rattle.lalrpop_emit.proofs.AheadRows.{row_of}
use Rattle.lalrpop_emit.proofs.MemoCosts.{last_behind, lead_on, read_to_bit, read_to_end, step_short, vain_last}
use Rattle.lalrpop_emit.proofs.Steps.{last_start, lead_more, last_kept, row_kept, since_kept, nothing_stops, passed}
use Rattle.lalrpop_emit.proofs.longest_match.read_on.Goals as goal
use Rattle.lalrpop_emit.proofs.longest_match.read_on.Goals.{else-passes-via-then-passes+else-is_noted, else-passes-via-else-passes}

pub walk-init : goal.walk-init
walk-init c =
    let a = ahead_numbers c.args.ahead.now in
    let t = list_numbers c.args.table.now in
    let row = row_of a t c.requires.ahead a.start Begin c.requires.ahead.begins in
    record {
      row = row;
      last_row = row;
      behind = omega arith;
      lead = (0, (refl, refl));
      last = last_start a t c.args.text.now c.args.start;
      since = λ nothing. nothing;
      lead_on = (0, (refl, refl));
      in_vain = λ roomy end vain. vain;
    }

pub is_noted-requires-clause-place : goal.is_noted-requires-clause-place
is_noted-requires-clause-place c = (let passes = c.passes.ensures.0 c.if-passes.true in omega (arith, passes), c.in-Some.ensures.place.1)

pub returns-in_default-clause-nothing : goal.returns-in_default-clause-nothing
returns-in_default-clause-nothing c =
    c.walk.invariant.since
    (nothing_stops (ahead_numbers c.args.ahead.now) (list_numbers c.args.table.now) c.args.text.now c.walk.walk.row c.walk.walk.at c.in_default.ensures.step)

pub returns-then-is_noted-clause-row : goal.returns-then-is_noted-clause-row
returns-then-is_noted-clause-row c =
    row_kept (ahead_numbers c.args.ahead.now) (list_numbers c.args.table.now) c.args.text.now c.walk.walk c.walk.last c.in-Some.next c.last_of-last.result c.in-Some.ensures.step c.last_of-last.ensures
    c.walk.invariant.last_row c.in-Some.ensures.row.0

pub returns-then-is_noted-clause-last : goal.returns-then-is_noted-clause-last
returns-then-is_noted-clause-last c =
    last_kept (ahead_numbers c.args.ahead.now) (list_numbers c.args.table.now) c.args.text.now c.walk.walk c.walk.last c.in-Some.next c.last_of-last.result c.in-Some.ensures.step c.last_of-last.ensures
    c.args.start c.walk.invariant.lead c.walk.invariant.last

pub returns-then-is_noted-clause-nothing : goal.returns-then-is_noted-clause-nothing
returns-then-is_noted-clause-nothing c =
    let a = ahead_numbers c.args.ahead.now in
    let t = list_numbers c.args.table.now in
    let next = c.in-Some.next in
    let passes = passed a t c.args.text.now c.walk.walk.row c.walk.walk.at next.row next.at c.in-Some.ensures.step (c.passes.ensures.0 c.if-passes.true) in
    since_kept a t c.args.text.now c.walk.walk c.walk.last next c.last_of-last.result c.in-Some.ensures.step c.last_of-last.ensures c.walk.invariant.since
    (c.requires.memo next.row next.at c.in-Some.ensures.row.0 c.in-Some.ensures.row.1 passes (c.is_noted.ensures.noted c.if-is_noted.true))

pub walk-preserved : goal.walk-preserved
walk-preserved c =
    let a = ahead_numbers c.args.ahead.now in
    let t = list_numbers c.args.table.now in
    let text = c.args.text.now in
    let next = c.in-Some.next in
    let s = c.in-Some.ensures.step in
    let is = c.last_of-last.ensures in
    record {
      row = c.in-Some.ensures.row.0;
      last_row = row_kept a t text c.walk.walk c.walk.last next c.last_of-last.result s is c.walk.invariant.last_row c.in-Some.ensures.row.0;
      behind = last_behind a t text c.args.memo.now c.walk.walk c.walk.last next c.last_of-last.result s is c.walk.invariant.behind;
      lead = lead_more a t text c.args.start c.walk.walk.row c.walk.walk.at next.row next.at c.walk.invariant.lead s;
      last = last_kept a t text c.walk.walk c.walk.last next c.last_of-last.result s is c.args.start c.walk.invariant.lead c.walk.invariant.last;
      since = since_kept a t text c.walk.walk c.walk.last next c.last_of-last.result s is c.walk.invariant.since;
      lead_on = lead_on a t text c.walk.walk c.walk.last next c.last_of-last.result s is c.walk.invariant.lead_on;
      in_vain = λ roomy end vain.
          vain_last a t text c.args.memo.now end c.walk.walk c.walk.last next c.last_of-last.result s is (c.walk.invariant.in_vain roomy end)
          (λ none waits before passes noted. elim c.else-passes.branch [
            | else-passes-via-then-passes+else-is_noted w ↦ let holds = w.is_noted.ensures.not_noted waits roomy noted in let fails = w.if-is_noted.false in cc
            | else-passes-via-else-passes w ↦ let holds = c.passes.ensures.1 passes in let fails = w.if-passes.false in cc
          ]) vain;
    }

pub passes-requires-clause-short : goal.passes-requires-clause-short
passes-requires-clause-short c =
    step_short (ahead_numbers c.args.ahead.now) (list_numbers c.args.table.now) c.args.text.now c.walk.walk.row c.walk.walk.at c.in-Some.next.row c.in-Some.next.at c.in-Some.ensures.step

pub returns-in_default-clause-read : goal.returns-in_default-clause-read
returns-in_default-clause-read c =
    read_to_end (ahead_numbers c.args.ahead.now) (list_numbers c.args.table.now) c.args.text.now c.args.memo.now c.walk.last.row c.walk.last.at c.walk.walk.row c.walk.walk.at
    c.walk.invariant.lead_on c.in_default.ensures.step

pub returns-then-is_noted-clause-read : goal.returns-then-is_noted-clause-read
returns-then-is_noted-clause-read c =
    let a = ahead_numbers c.args.ahead.now in
    let t = list_numbers c.args.table.now in
    let text = c.args.text.now in
    let next = c.in-Some.next in
    let now = c.last_of-last.result in
    let s = c.in-Some.ensures.step in
    read_to_bit a t text c.args.memo.now now.row now.at next.row next.at (lead_on a t text c.walk.walk c.walk.last next now s c.last_of-last.ensures c.walk.invariant.lead_on)
    (passed a t text c.walk.walk.row c.walk.walk.at next.row next.at s (c.passes.ensures.0 c.if-passes.true)) (c.is_noted.ensures.noted c.if-is_noted.true)

pub returns-in_default-clause-in_vain : goal.returns-in_default-clause-in_vain
returns-in_default-clause-in_vain c = λ roomy. c.walk.invariant.in_vain roomy c.walk.walk.at (0, refl)

pub returns-then-is_noted-clause-behind : goal.returns-then-is_noted-clause-behind
returns-then-is_noted-clause-behind c =
    last_behind (ahead_numbers c.args.ahead.now) (list_numbers c.args.table.now) c.args.text.now c.args.memo.now c.walk.walk c.walk.last c.in-Some.next c.last_of-last.result c.in-Some.ensures.step
    c.last_of-last.ensures c.walk.invariant.behind

-- the bit that stops the walk is set at the end, and not before it
pub returns-then-is_noted-clause-in_vain : goal.returns-then-is_noted-clause-in_vain
returns-then-is_noted-clause-in_vain c = λ roomy.
    vain_last (ahead_numbers c.args.ahead.now) (list_numbers c.args.table.now) c.args.text.now c.args.memo.now c.in-Some.next.at c.walk.walk c.walk.last c.in-Some.next c.last_of-last.result
    c.in-Some.ensures.step c.last_of-last.ensures (c.walk.invariant.in_vain roomy c.in-Some.next.at) (λ none waits before passes noted. omega (arith, before)) (0, refl)
