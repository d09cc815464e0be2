use Rattle.std.proofs.Common.{◌≡◌, ◌-◌, List, [], arith, length, refl, subst, sym, ◌∙◌}
use Rattle.std.specs.Prelude.{slice_get, IfSome, Some}
use Rattle.lalrpop_dense.specs.DenseTable.{TableNumbers}
use Rattle.bajofeki_rules.specs.declared.action.Action.{Action}
use Rattle.bajofeki_rules.specs.Stack.{act_all, actions_of}
use Rattle.lalrpop_emit.specs.BytePieces.{Fits}
use Rattle.lalrpop_emit.specs.Internal.Driving.{stack_of}
use Rattle.lalrpop_emit.specs.Internal.Lists.{ahead_numbers}
use Rattle.lalrpop_emit.specs.Internal.Running.{IsRunOf, IsTokenAt}
use Rattle.lalrpop_emit.specs.Internal.Walking.{IsDrivable}
use Rattle.lalrpop_emit.proofs.Driving.{ahead_read, goes_on, some_table, token_comes}
use Rattle.lalrpop_emit.proofs.Found.{all_tables, token_there, tokens_as}
use Rattle.lalrpop_emit.proofs.ModeRuns.{looked, room_same, taken}
use Rattle.lalrpop_emit.proofs.driver.next.Goals as goal
use Rattle.lalrpop_emit.proofs.driver.next.Goals.{in-Some+else-not-has_actions, in_default}

pub known-token-requires-clause-serves : goal.known-token-requires-clause-serves
known-token-requires-clause-serves c =
    let n = c.args.numbers.now in
    let text = c.args.text.now in
    let s = c.args.state.now in
    let x = c.index.result.now in
    let drivable = subst IsDrivable c.numbers.view_is c.numbers.invariant.1 in
    let within = c.requires.state.there.0 in
    let ahead = ahead_read _ n c.numbers.inside.ahead.items s.mode x c.numbers.view_is refl (omega (arith, within, drivable.as_many)) c.index.ensures in
    let table = some_table n s.mode within in
    (table.0, (text, (s.at, c.requires.run.serves (ahead_numbers x) table.0 ahead table.1)))

pub has_actions-requires : goal.has_actions-requires
has_actions-requires c =
    let n = c.args.numbers.now in
    let text = c.args.text.now in
    let s = c.args.state.now in
    let x = c.index.result.now in
    let drivable = subst IsDrivable c.numbers.view_is c.numbers.invariant.1 in
    let within = c.requires.state.there.0 in
    let ahead = ahead_read _ n c.numbers.inside.ahead.items s.mode x c.numbers.view_is refl (omega (arith, within, drivable.as_many)) c.index.ensures in
    let tokens : (t : TableNumbers) → slice_get n.tables s.mode ≡ Some t → IsTokenAt t text s.at c.in-Some.token.rule c.in-Some.token.end =
    λ t there. c.in-Some.ensures.token t text s.at (c.requires.run.serves (ahead_numbers x) t ahead there) in
    let token = token_there n s.mode s.at text c.in-Some.token.rule c.in-Some.token.end drivable within tokens in
    token.below

pub take-requires : goal.take-requires
take-requires c =
    let n = c.args.numbers.now in
    let text = c.args.text.now in
    let s = c.args.state.now in
    let x = c.index.result.now in
    let drivable = subst IsDrivable c.numbers.view_is c.numbers.invariant.1 in
    let within = c.requires.state.there.0 in
    let ahead = ahead_read _ n c.numbers.inside.ahead.items s.mode x c.numbers.view_is refl (omega (arith, within, drivable.as_many)) c.index.ensures in
    let table = some_table n s.mode within in
    let run = c.known-token.new.run in
    let end = c.in-Some.ensures.end table.0 text s.at (c.requires.run.serves (ahead_numbers x) table.0 ahead table.1) in
    (x.ends, (s.at - run.base, (c.in-Some.token.end - run.base, (end.0, end.1))))

pub token_piece-requires-clause-rule : goal.token_piece-requires-clause-rule
token_piece-requires-clause-rule c =
    let n = c.args.numbers.now in
    let text = c.args.text.now in
    let s = c.args.state.now in
    let x = c.index.result.now in
    let drivable = subst IsDrivable c.numbers.view_is c.numbers.invariant.1 in
    let within = c.requires.state.there.0 in
    let ahead = ahead_read _ n c.numbers.inside.ahead.items s.mode x c.numbers.view_is refl (omega (arith, within, drivable.as_many)) c.index.ensures in
    let tokens : (t : TableNumbers) → slice_get n.tables s.mode ≡ Some t → IsTokenAt t text s.at c.in-Some.token.rule c.in-Some.token.end =
    λ t there. c.in-Some.ensures.token t text s.at (c.requires.run.serves (ahead_numbers x) t ahead there) in
    let token = token_there n s.mode s.at text c.in-Some.token.rule c.in-Some.token.end drivable within tokens in
    token.below

pub token_piece-requires-clause-end : goal.token_piece-requires-clause-end
token_piece-requires-clause-end c =
    let n = c.args.numbers.now in
    let text = c.args.text.now in
    let s = c.args.state.now in
    let x = c.index.result.now in
    let drivable = subst IsDrivable c.numbers.view_is c.numbers.invariant.1 in
    let within = c.requires.state.there.0 in
    let ahead = ahead_read _ n c.numbers.inside.ahead.items s.mode x c.numbers.view_is refl (omega (arith, within, drivable.as_many)) c.index.ensures in
    let tokens : (t : TableNumbers) → slice_get n.tables s.mode ≡ Some t → IsTokenAt t text s.at c.in-Some.token.rule c.in-Some.token.end =
    λ t there. c.in-Some.ensures.token t text s.at (c.requires.run.serves (ahead_numbers x) t ahead there) in
    let token = token_there n s.mode s.at text c.in-Some.token.rule c.in-Some.token.end drivable within tokens in
    omega (arith, token.place)

pub returns-then-not-has_actions-clause-next : goal.returns-then-not-has_actions-clause-next
returns-then-not-has_actions-clause-next c = λ r are.
    let n = c.args.numbers.now in
    let text = c.args.text.now in
    let s = c.args.state.now in
    let x = c.index.result.now in
    let drivable = subst IsDrivable c.numbers.view_is c.numbers.invariant.1 in
    let within = c.requires.state.there.0 in
    let ahead = ahead_read _ n c.numbers.inside.ahead.items s.mode x c.numbers.view_is refl (omega (arith, within, drivable.as_many)) c.index.ensures in
    let tokens : (t : TableNumbers) → slice_get n.tables s.mode ≡ Some t → IsTokenAt t text s.at c.in-Some.token.rule c.in-Some.token.end =
    λ t there. c.in-Some.ensures.token t text s.at (c.requires.run.serves (ahead_numbers x) t ahead there) in
    let token = token_there n s.mode s.at text c.in-Some.token.rule c.in-Some.token.end drivable within tokens in
    let rule = c.in-Some.token.rule in
    let stack = stack_of s c.args.below.now in
    let none : actions_of r.actions rule ≡ [] = c.if-not-has_actions.ensures refl r are in
    let fits : Fits (length c.args.below.now) (actions_of r.actions rule) stack = subst (λ (acts : List Action). Fits (length c.args.below.now) acts stack) (sym none) tt in
    let same : stack ≡ act_all (actions_of r.actions rule) stack = subst (λ (acts : List Action). stack ≡ act_all acts stack) (sym none) refl in
    token_comes r n.kinds (length c.args.below.now) text s.at stack stack c.token_piece.result rule c.in-Some.token.end c.token_piece.ensures.kind c.token_piece.ensures.rest token.place (token.longest r are) fits
    same

pub returns-then-not-has_actions-clause-goes_on : goal.returns-then-not-has_actions-clause-goes_on
returns-then-not-has_actions-clause-goes_on c =
    let n = c.args.numbers.now in
    let text = c.args.text.now in
    let s = c.args.state.now in
    let x = c.index.result.now in
    let drivable = subst IsDrivable c.numbers.view_is c.numbers.invariant.1 in
    let within = c.requires.state.there.0 in
    let ahead = ahead_read _ n c.numbers.inside.ahead.items s.mode x c.numbers.view_is refl (omega (arith, within, drivable.as_many)) c.index.ensures in
    let tokens : (t : TableNumbers) → slice_get n.tables s.mode ≡ Some t → IsTokenAt t text s.at c.in-Some.token.rule c.in-Some.token.end =
    λ t there. c.in-Some.ensures.token t text s.at (c.requires.run.serves (ahead_numbers x) t ahead there) in
    let token = token_there n s.mode s.at text c.in-Some.token.rule c.in-Some.token.end drivable within tokens in
    goes_on text s.at c.in-Some.token.end c.in-Some.token.end c.token_piece.result c.in-Some.token.rule c.token_piece.ensures.rest token.place refl

pub returns-then-not-has_actions-clause-run : goal.returns-then-not-has_actions-clause-run
returns-then-not-has_actions-clause-run c =
    let n = c.args.numbers.now in
    let text = c.args.text.now in
    let s = c.args.state.now in
    let x = c.index.result.now in
    let drivable = subst IsDrivable c.numbers.view_is c.numbers.invariant.1 in
    let within = c.requires.state.there.0 in
    let ahead = ahead_read _ n c.numbers.inside.ahead.items s.mode x c.numbers.view_is refl (omega (arith, within, drivable.as_many)) c.index.ensures in
    let run : IsRunOf n s.mode s.at text c.known-token.new.run =
    looked n s.at text s.mode c.args.run.now c.known-token.new.run c.known-token.ensures.same c.known-token.ensures.room c.requires.run (ahead_numbers x) ahead (λ t h. c.known-token.ensures.serves t text s.at h) in
    let tokens : (t : TableNumbers) → slice_get n.tables s.mode ≡ Some t → IsTokenAt t text s.at c.in-Some.token.rule c.in-Some.token.end =
    λ t there. c.in-Some.ensures.token t text s.at (c.requires.run.serves (ahead_numbers x) t ahead there) in
    let token = token_there n s.mode s.at text c.in-Some.token.rule c.in-Some.token.end drivable within tokens in
    let old = c.known-token.new.run in
    let room = room_same old c.take.new.run c.take.ensures.same c.take.ensures.word c.known-token.ensures.room in
    taken n s.at text s.mode c.in-Some.token.end old c.take.new.run c.take.ensures.same room run token.place.0 (ahead_numbers x) ahead
    (λ t there. c.in-Some.ensures.end t text s.at (c.requires.run.serves (ahead_numbers x) t ahead there)) c.take.ensures.place

pub next_apart-requires-clause-run : goal.next_apart-requires-clause-run
next_apart-requires-clause-run c =
    let n = c.args.numbers.now in
    let text = c.args.text.now in
    let s = c.args.state.now in
    let x = c.index.result.now in
    let drivable = subst IsDrivable c.numbers.view_is c.numbers.invariant.1 in
    let within = c.requires.state.there.0 in
    let ahead = ahead_read _ n c.numbers.inside.ahead.items s.mode x c.numbers.view_is refl (omega (arith, within, drivable.as_many)) c.index.ensures in
    let run : IsRunOf n s.mode s.at text c.known-token.new.run =
    looked n s.at text s.mode c.args.run.now c.known-token.new.run c.known-token.ensures.same c.known-token.ensures.room c.requires.run (ahead_numbers x) ahead (λ t h. c.known-token.ensures.serves t text s.at h) in
    run

pub next_apart-requires-clause-known : goal.next_apart-requires-clause-known
next_apart-requires-clause-known c =
    let n = c.args.numbers.now in
    let text = c.args.text.now in
    let s = c.args.state.now in
    let x = c.index.result.now in
    let drivable = subst IsDrivable c.numbers.view_is c.numbers.invariant.1 in
    let within = c.requires.state.there.0 in
    let ahead = ahead_read _ n c.numbers.inside.ahead.items s.mode x c.numbers.view_is refl (omega (arith, within, drivable.as_many)) c.index.ensures in
    let tokens : IfSome c.known-token.result (λ m. (t : TableNumbers) → slice_get n.tables s.mode ≡ Some t → IsTokenAt t text s.at m.rule m.end) =
    all_tables n s.mode text s.at c.known-token.result (λ t there. c.known-token.ensures.token t text s.at (c.requires.run.serves (ahead_numbers x) t ahead there)) in
    elim c.match-token.branch [
      | in-Some+else-not-has_actions w ↦ tokens_as n s.mode text s.at c.known-token.result c.match-token.token (w.token-is ∙ sym w.in-Some.is) tokens
      | in_default w ↦ tokens_as n s.mode text s.at c.known-token.result c.match-token.token w.token-is tokens
    ]
