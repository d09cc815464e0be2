use Rattle.std.specs.Str.Iter.{char_indices_rest, char_indices_offset}
use Rattle.lalrpop_hir.proofs.Cuts.{IsCut}
use Rattle.lalrpop_rules.specs.Found.{NoMatchBefore}
use Rattle.lalrpop_rules.proofs.leftmost.find.Given as goal

abbrev pub invariant-loop-start : goal.invariant-loop-start
invariant-loop-start l = record {
  cut : IsCut l.text (char_indices_offset l.start-iterator) (char_indices_rest l.start-iterator);
  before : NoMatchBefore l.lexer.trees l.text (char_indices_offset l.start-iterator);
}
