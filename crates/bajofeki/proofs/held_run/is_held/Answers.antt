use Rattle.std.proofs.Common.{subst}
use Rattle.std.specs.Prelude.{IfSome}
use Rattle.bajofeki.specs.Internal.Held.{IsHeld}
use Rattle.bajofeki.proofs.held_run.is_held.Goals as goal

pub is_open-requires-clause-held : goal.is_open-requires-clause-held
is_open-requires-clause-held c =
    c.read_on.ensures.held c.args.lexer.now c.args.mode
    (subst (λ o. IfSome o (IsHeld c.args.lexer.now c.args.mode c.args.text.now)) c.in-Some.is c.requires.held)

pub returns-then-not-run-clause-held : goal.returns-then-not-run-clause-held
returns-then-not-run-clause-held c =
    c.read_on.ensures.held c.args.lexer.now c.args.mode
    (subst (λ o. IfSome o (IsHeld c.args.lexer.now c.args.mode c.args.text.now)) c.in-Some.is c.requires.held)

pub returns-else-not-run-clause-held : goal.returns-else-not-run-clause-held
returns-else-not-run-clause-held c =
    c.read_on.ensures.held c.args.lexer.now c.args.mode
    (subst (λ o. IfSome o (IsHeld c.args.lexer.now c.args.mode c.args.text.now)) c.in-Some.is c.requires.held)
