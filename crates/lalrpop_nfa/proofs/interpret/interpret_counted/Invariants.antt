use Rattle.std.proofs.Common.{◌≤◌, ◌+◌, ◌*◌, length, take}
use Rattle.std.specs.Prelude.{IfSome}
use Rattle.std.specs.Option.{option_map}
use Rattle.std.specs.Str.{chars}
use Rattle.std.specs.Str.Iter.{char_indices_rest, char_indices_offset}
use Rattle.lalrpop_hir.specs.Tree.{Tree}
use Rattle.lalrpop_hir.specs.Language.{Matches}
use Rattle.lalrpop_hir.specs.Prefix.{IsPrefix}
use Rattle.lalrpop_nfa.specs.Compiled.{IsCompiled}
use Rattle.lalrpop_nfa.proofs.PrefixLemmas.{IsLongestOfUpTo}
use Rattle.lalrpop_nfa.proofs.Runs.{IsRun}
use Rattle.lalrpop_nfa.proofs.interpret.interpret_counted.Given as goal

abbrev pub invariant-loop-offset : goal.invariant-loop-offset
invariant-loop-offset l = record {
  run : IsRun l.nfa l.text (char_indices_offset l.offset-iterator) (char_indices_rest l.offset-iterator) l.simulation;
  best : (t : Tree) → IsCompiled t l.nfa → IsLongestOfUpTo (Matches t) l.text (char_indices_offset l.offset-iterator) (option_map (λ s. s.now) l.longest);
  prefix : IfSome (option_map (λ s. s.now) l.longest) (λ s. IsPrefix s l.text);
  never_falls : l.fn.steps ≤ l.steps;
  cost : l.steps ≤ l.fn.steps + length l.nfa.kinds * (length (chars (take (char_indices_offset l.offset-iterator) l.text)) + 1);
}
