use Rattle.std.proofs.Common.{◌≡◌, ◌≤◌, ◌+◌, ◌*◌, ◌^◌, ℕ, length, arith, subst}
use Rattle.lalrpop_emit.proofs.Told.{small_by_classes}
use Rattle.lalrpop_emit.proofs.classes.few_classes.Goals as goal

pub returns-clause-small : goal.returns-clause-small
returns-clause-small c =
    let firsts = c.in_ok-classes.classes.firsts in
    let width : c.len-width.result ≡ length firsts.items = omega (arith, c.len-width.ensures, firsts.ok.0) in
    small_by_classes c.args.dfa.now c.in_ok-classes.classes c.in_ok-classes.ensures.classes (subst (λ (n : ℕ). length c.args.dfa.now * (n + 131) ≤ 2 ^ 27) width c.if-not-has_room-2.ensures.room)
