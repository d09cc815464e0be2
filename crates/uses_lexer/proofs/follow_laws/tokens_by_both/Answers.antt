use Rattle.std.proofs.Common.{map}
use Rattle.lalrpop_lexer.proofs.RenumberLaws.{tokens_alike, tokens_renumbered}
use Rattle.lalrpop_lexer.proofs.UniqueTokens.{tokens-unique}
use Rattle.lalrpop_lexer.specs.Renumbered.{renumbered}
use Rattle.lalrpop_lexer.specs.Cutting.{with_places}
use Rattle.uses_lexer.proofs.follow_laws.tokens_by_both.Goals as goal

pub returns : goal.returns
returns c =
    let one = c.args.one.now in
    let other = c.args.other.now in
    let text = c.args.text.now in
    record {
      alike = λ same xs ys drains too. tokens-unique other.trees other.precedences text 0 (with_places 0 xs) (with_places 0 ys)
          (tokens_alike one.trees one.precedences other.trees other.precedences same text 0 (with_places 0 xs) (c.in_ok-first.ensures.tokens xs drains)) (c.in_ok-second.ensures.tokens ys too);
      numbers = λ f g same xs ys drains too. tokens-unique other.trees other.precedences text 0 (map (renumbered f) (with_places 0 xs)) (with_places 0 ys)
          (tokens_renumbered f g one.trees one.precedences other.trees other.precedences same text 0 (with_places 0 xs) (c.in_ok-first.ensures.tokens xs drains)) (c.in_ok-second.ensures.tokens ys too);
    }
