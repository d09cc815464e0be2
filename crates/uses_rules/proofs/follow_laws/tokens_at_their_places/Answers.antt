use Rattle.std.proofs.lemmas.Result.{IfOk-weaker}
use Rattle.lalrpop_lexer.specs.Cutting.{with_places}
use Rattle.lalrpop_rules.proofs.CallerLaws.{token_at_its_place}
use Rattle.uses_rules.proofs.follow_laws.tokens_at_their_places.Goals as goal

pub returns : goal.returns
returns c = record { each = IfOk-weaker c.tokens.result _ _ (λ s tokens xs i token drains at. token_at_its_place _ _ c.args.text.now 0 i (with_places 0 xs) token (tokens xs drains) at) c.tokens.ensures.tokens }
