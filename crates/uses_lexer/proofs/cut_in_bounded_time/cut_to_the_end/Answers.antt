use Rattle.std.proofs.Common.{◌++◌, ◌∷◌, [], subst}
use Rattle.std.specs.Prelude.{Option}
use Rattle.std.proofs.iter.Next.{Yields-more}
use Rattle.lalrpop_lexer.specs.Cutting.{GivesItem}
use Rattle.lalrpop_lexer.specs.Tokens.{Item}
use Rattle.uses_lexer.proofs.cut_in_bounded_time.cut_to_the_end.Goals as goal

pub loop-preserved : goal.loop-preserved
loop-preserved c =
    let so_far = c.loop.invariant in
    (so_far.0 ++ c.in-Some.field-0 ∷ [], Yields-more GivesItem _ so_far.0 c.loop.items c.in-Some.field-0 _ so_far.1 (subst (λ (o : Option Item). GivesItem c.loop.items o c.next.new.self) c.in-Some.is c.next.ensures.steps))
