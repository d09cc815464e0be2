use Rattle.std.proofs.Common.{[], ◌∷◌}
use Rattle.std.proofs.lemmas.List.Elements.{All-cons, All-nil}
use Rattle.lalrpop_lexer.specs.Joined.{plain}
use Rattle.lalrpop_lexer.specs.Neighbours.{IsWhole}
use Rattle.lalrpop_lexer.proofs.NeighbourLaws.{cut_back}
use Rattle.uses_lexer.proofs.join_tokens.can_touch.Goals as goal

pub returns : goal.returns
returns c =
    let ts = c.args.neighbours.now.trees in
    let ps = c.args.neighbours.now.precedences in
    let x = plain c.args.first.now in
    let y = plain c.args.second.now in
    record {
      two = λ yes first second.
          cut_back ts ps (x ∷ y ∷ []) (All-cons (IsWhole ts ps) x (y ∷ []) first (All-cons (IsWhole ts ps) y [] second (All-nil (IsWhole ts ps)))) (c.can_follow.ensures.answer.0 yes, tt);
    }
