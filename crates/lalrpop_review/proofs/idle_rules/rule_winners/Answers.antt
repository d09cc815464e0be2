use Rattle.std.proofs.Common.{subst}
use Rattle.std.specs.Prelude.{IfSome}
use Rattle.lalrpop_rules.specs.Modes.{trees_in}
use Rattle.lalrpop_review.specs.Internal.Idle.{IsOwnVerdict}
use Rattle.lalrpop_review.proofs.IdleLaws.{told_own}
use Rattle.lalrpop_review.proofs.idle_rules.rule_winners.Goals as goal

pub returns-in-Some : goal.returns-in-Some
returns-in-Some c =
    let r = c.args.lexer.now in
    let own : IsOwnVerdict r c.args.mode c.args.index c.in-Some.verdict = subst (λ o. IfSome o (IsOwnVerdict r c.args.mode c.args.index)) c.in-Some.is c.requires.own in
    record { told = told_own r c.args.mode c.args.index c.told_winners.result own.own (c.told_winners.ensures.told (trees_in r c.args.mode) r.precedences c.args.index own.verdict) }
