use Rattle.std.proofs.Common.{subst}
use Rattle.std.specs.Prelude.{IfSome}
use Rattle.bajofeki.specs.Internal.Noted.{IsCutter}
use Rattle.bajofeki.proofs.stream.forget.Goals as goal

pub returns-in-Some : goal.returns-in-Some
returns-in-Some c = record {
  right = λ r at at2 text text2 is. c.forget.ensures.right r at at2 text text2 (subst (λ o. IfSome o (λ t. IsCutter r t at text)) c.in-Some.is is);
}
