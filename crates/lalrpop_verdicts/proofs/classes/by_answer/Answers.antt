use Rattle.std.proofs.Common.{◌≡◌, ◌≤◌, List, ℕ, ◌∙◌, ap, length, map, take, subst, arith}
use Rattle.std.specs.Option.{option_to_list}
use Rattle.lalrpop_verdicts.specs.Answers.{accepted_by}
use Rattle.lalrpop_verdicts.specs.Internal.Classes.{AreClassesOf}
use Rattle.lalrpop_verdicts.proofs.FirstLaws.{end_classes, push_row}
use Rattle.lalrpop_verdicts.proofs.RoundLaws.{stored_row, stored_rows}
use Rattle.lalrpop_verdicts.proofs.classes.by_answer.Goals as goal

pub loop-state-preserved : goal.loop-state-preserved
loop-state-preserved c =
    let states = c.states-state-items.result.now in
    let n = c.loop-state.state-index in
    let item = c.state-item.result in
    let row : c.in_ok-answer_of.field-0.items ≡ stored_row item = c.in_ok-answer_of.ensures ∙ ap (λ k. option_to_list (accepted_by k)) c.kind.ensures.kind in
    push_row stored_row states n c.push.new.self.known c.push.new.self.places.items item c.in_ok-answer_of.field-0.items c.loop-state-test.true c.state-item.is row
    (c.in_ok-push.ensures (map stored_row (take n states)) c.loop-state.invariant)

pub returns : goal.returns
returns c =
    let d = c.args.dfa.now in
    let states = c.states-state-items.result.now in
    let all : length states ≤ c.loop-state.state-index = omega arith in
    let classes = end_classes stored_row states c.loop-state.state-index c.loop-state.classes.known c.loop-state.classes.places.items all c.loop-state.invariant in
    rw c.into_places.ensures (subst (λ (rows : List (List ℕ)). AreClassesOf rows c.loop-state.classes.places.items) (stored_rows d states c.states-state-items.ensures.states) classes)
