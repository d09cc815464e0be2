use Rattle.std.proofs.Common.{◌≡◌, length}
use Rattle.uses_lexer.proofs.build_many.falling_precedences.Given as goal

abbrev pub invariant-loop-index : goal.invariant-loop-index
invariant-loop-index l = length l.precedences.items ≡ l.index
