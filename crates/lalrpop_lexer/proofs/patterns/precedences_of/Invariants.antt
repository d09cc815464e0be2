use Rattle.std.proofs.Common.{◌≡◌, map, take}
use Rattle.lalrpop_lexer.proofs.patterns.precedences_of.Given as goal

abbrev pub invariant-loop-pattern : goal.invariant-loop-pattern
invariant-loop-pattern l = map (λ p. p.0) l.all.items ≡ map (λ p. p.0.0) (take l.pattern-index l.patterns)
