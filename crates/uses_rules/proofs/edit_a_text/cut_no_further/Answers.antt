use Rattle.std.proofs.Common.{◌≤◌, ◌+◌, arith}
use Rattle.std.specs.Prelude.{take}
use Rattle.bajofeki_rules.specs.Stack.{start}
use Rattle.lalrpop_rules.specs.Modes.{after_all, trees_in}
use Rattle.uses_rules.proofs.Edits.{counts_of, reads_on}
use Rattle.uses_rules.proofs.edit_a_text.cut_no_further.Goals as goal

pub returns-clause-count : goal.returns-clause-count
returns-clause-count c = λ xs ys old new. counts_of xs ys c.in_ok-change.change (c.in_ok-change.ensures.change xs ys old new)

pub returns-clause-none : goal.returns-clause-none
returns-clause-none c =
    let change = c.in_ok-change.change in
    let here : change.first ≤ change.first = omega arith in
    let went : change.first ≤ change.first + change.removed = omega arith in
    let came : change.first ≤ change.first + change.inserted = omega arith in
    λ xs ys old new meet.
    let last = c.in_ok-change.ensures.earliest xs ys old new change.first change.first here went here came meet in
    let gone = last.0 in
    let put = last.1 in
    (omega arith, omega arith)

pub returns-clause-word : goal.returns-clause-word
returns-clause-word c = λ xs old x got before.
    let r = c.args.lexed.now.rules in
    let mode = (after_all r.actions (take c.in_ok-change.change.first xs) start).mode in
    let read = reads_on (trees_in r mode) c.args.lexed.now.text c.args.range.start x (c.in_ok-change.ensures.first xs old x got) before in
    (mode, read.0, read.1)
