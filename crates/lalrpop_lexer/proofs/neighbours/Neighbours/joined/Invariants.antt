use Rattle.std.proofs.Common.{map}
use Rattle.std.specs.String.{string_bytes}
use Rattle.lalrpop_lexer.specs.Joined.{plain}
use Rattle.lalrpop_lexer.specs.Internal.Joining.{IsJoinedUpTo}
use Rattle.lalrpop_lexer.proofs.neighbours.Neighbours.joined.Given as goal

-- the text of the tokens so far
abbrev pub invariant-loop-at : goal.invariant-loop-at
invariant-loop-at l = IsJoinedUpTo l.self.trees l.self.precedences (plain l.separator) (map plain l.tokens) l.at (string_bytes l.text)
