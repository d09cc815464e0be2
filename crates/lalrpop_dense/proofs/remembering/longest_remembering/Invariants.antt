use Rattle.std.proofs.Common.{◌≡◌, ◌≢◌, ◌+◌, ◌*◌, ◌%◌, ◌≤◌, ℕ, List, [], length, take}
use Rattle.std.specs.Option.{option_map, IfSome}
use Rattle.std.specs.Str.{chars}
use Rattle.std.specs.Str.Iter.{char_indices_rest, char_indices_offset}
use Rattle.lalrpop_hir.specs.Tree.{Tree}
use Rattle.lalrpop_hir.specs.Prefix.{IsPrefix}
use Rattle.lalrpop_hir.proofs.Cuts.{IsCut}
use Rattle.lalrpop_dfa.specs.Dfa.{Recognizes}
use Rattle.lalrpop_dfa.proofs.LongestLemmas.{IsAfter, IsLongestUpTo}
use Rattle.lalrpop_dense.specs.Matching.{characters_of}
use Rattle.lalrpop_dense.specs.Internal.Memory.{room}
use Rattle.lalrpop_dense.proofs.Kept.{IsKept}
use Rattle.lalrpop_dense.proofs.remembering.longest_remembering.Given as goal

abbrev pub invariant-loop-offset : goal.invariant-loop-offset
invariant-loop-offset l = record {
  cut : IsCut l.text (char_indices_offset l.offset-iterator) (char_indices_rest l.offset-iterator);
  after : IsAfter l.dfa l.text (char_indices_offset l.offset-iterator) l.state;
  best : (ts : List Tree) (ps : List ℕ) → Recognizes l.dfa ts ps
      → IsLongestUpTo ts ps l.text (char_indices_offset l.offset-iterator) (option_map (λ m. (m.0, m.1.now)) l.longest);
  prefix : IfSome l.longest (λ m. IsPrefix m.1.now l.text × (m.1.now ≢ []));
  end : l.end ≡ l.start + characters_of (option_map (λ m. m.1.now) l.longest);
  index : l.index ≡ l.start + length (chars (take (char_indices_offset l.offset-iterator) l.text));
  steps : l.steps + l.start ≡ l.initial.steps + l.index;
  fewer : room l.memo ≤ room l.initial.memo;
  ends : l.end ≤ l.index;
  same : l.memo ≡ record l.initial.memo { marks = l.memo.marks };
  kept : IsKept l.dfa l.memo l.start (chars l.text) (characters_of (option_map (λ m. m.1.now) l.longest)) (chars (char_indices_rest l.offset-iterator)) l.state;
  paid : l.steps + l.start + 64 * room l.memo ≤ l.initial.steps + l.end + 64 * room l.initial.memo + l.index % 64;
}
