use Rattle.std.proofs.Common.{subst}
use Rattle.lalrpop_dfa.specs.Internal.Marks.{IsEntered}
use Rattle.lalrpop_dfa.specs.Internal.Waits.{AreAllWaits, IsMostEntered}
use Rattle.lalrpop_dfa.proofs.Marking.{ever_entered}
use Rattle.lalrpop_dfa.proofs.Waiting.{lookahead_found}
use Rattle.lalrpop_dfa.proofs.lookahead.lookahead.Goals as goal

pub returns-then-is_entered : goal.returns-then-is_entered
returns-then-is_entered c =
    let d = c.args.dfa.now in
    let reached = c.in_ok-reached.reached.items in
    let ever = c.in_ok-ever.ever.items in
    let entered : IsEntered d reached ever = rw (c.deref.ensures.value, c.deref-2.ensures.value) at (c.is_entered.ensures.0 c.if-is_entered.true) in
    record { answer = ever_entered d c.in_ok-ever.ensures.well_formed reached ever c.in_ok-reached.ensures c.in_ok-ever.ensures.marks entered }

pub returns : goal.returns
returns c =
    let d = c.args.dfa.now in
    let reached = c.in_ok-reached.reached.items in
    let ever = c.in_ok-ever.ever.items in
    let numbers = c.in_ok-numbers.numbers.items in
    let finite : ¬ IsEntered d reached ever =
    λ e. (let yes = c.is_entered.ensures.1 (rw (c.deref.ensures.value, c.deref-2.ensures.value) e) in let not = c.if-is_entered.false in cc) in
    let all : AreAllWaits d ever numbers = subst (λ bs. AreAllWaits d bs numbers) c.deref-3.ensures.value c.in_ok-numbers.ensures in
    let most : IsMostEntered d reached numbers c.most_entered.result = rw (c.deref-4.ensures.value, c.deref-5.ensures.value) at c.most_entered.ensures in
    record { answer = lookahead_found d c.in_ok-ever.ensures.well_formed reached ever c.in_ok-reached.ensures c.in_ok-ever.ensures.marks finite numbers all c.most_entered.result most }
