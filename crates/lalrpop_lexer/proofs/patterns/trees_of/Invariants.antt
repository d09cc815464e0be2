use Rattle.std.proofs.Common.{take}
use Rattle.lalrpop_lexer.specs.Spelled.{AreSpelled, texts_of}
use Rattle.lalrpop_lexer.proofs.patterns.trees_of.Given as goal

abbrev pub invariant-loop-pattern : goal.invariant-loop-pattern
invariant-loop-pattern l = AreSpelled (texts_of (take l.pattern-index l.patterns)) l.trees.items
