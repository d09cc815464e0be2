use Rattle.std.proofs.Common.{List}
use Rattle.std.specs.Iterator.{Yields}
use Rattle.lalrpop_lexer.specs.Cutting.{left_of, GivesItem}
use Rattle.lalrpop_lexer.specs.Tokens.{Item}
use Rattle.uses_lexer.proofs.cut_in_bounded_time.cut_to_the_end.Given as goal

-- all that was returned so far
abbrev pub invariant-loop : goal.invariant-loop
invariant-loop l = (xs : List Item) × Yields GivesItem l.initial.items xs l.items

abbrev pub decreases-loop : goal.decreases-loop
decreases-loop l = left_of l.items
