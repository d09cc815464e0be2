use Rattle.std.specs.Prelude.{map}
use Rattle.lalrpop_lexer.specs.Internal.RunningOn.{IsTableUpTo}
use Rattle.lalrpop_lexer.proofs.neighbours.Neighbours.new.Given as goal

-- the lists so far
abbrev pub invariant-loop-second : goal.invariant-loop-second
invariant-loop-second l = IsTableUpTo l.lexer l.second (map (λ v. v.items) l.lists.items)
