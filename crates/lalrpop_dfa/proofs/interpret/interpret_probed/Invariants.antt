use Rattle.std.proofs.Common.{◌≡◌, ◌≢◌, ◌+◌, ◌*◌, ◌^◌, ◌<◌, ◌≤◌, ℕ, List, [], length, take}
use Rattle.std.specs.Option.{option_map, IfSome}
use Rattle.std.specs.Str.{chars}
use Rattle.std.specs.Str.Iter.{char_indices_rest, char_indices_offset}
use Rattle.lalrpop_hir.specs.Tree.{Tree}
use Rattle.lalrpop_hir.specs.Prefix.{IsPrefix}
use Rattle.lalrpop_dfa.specs.Counts.{HaveAtMost}
use Rattle.lalrpop_dfa.specs.Dfa.{Recognizes}
use Rattle.lalrpop_dfa.proofs.LongestLemmas.{IsAfter, IsLongestUpTo}
use Rattle.lalrpop_dfa.proofs.Trails.{HasTrail}
use Rattle.lalrpop_hir.proofs.Cuts.{IsCut}
use Rattle.lalrpop_dfa.proofs.interpret.interpret_probed.Given as goal

abbrev pub invariant-loop-offset : goal.invariant-loop-offset
invariant-loop-offset l = record {
  cut : IsCut l.input (char_indices_offset l.offset-iterator) (char_indices_rest l.offset-iterator);
  after : IsAfter l.dfa l.input (char_indices_offset l.offset-iterator) l.state;
  best : (ts : List Tree) (ps : List ℕ) → Recognizes l.dfa ts ps
      → IsLongestUpTo ts ps l.input (char_indices_offset l.offset-iterator) (option_map (λ m. (m.0, m.1.now)) l.longest);
  prefix : IfSome l.longest (λ m. IsPrefix m.1.now l.input × (m.1.now ≢ []));
  cost : l.steps ≡ l.initial.steps + length (chars (take (char_indices_offset l.offset-iterator) l.input));
  never_falls : l.initial.probes ≤ l.probes;
  probed : (n d : ℕ) → HaveAtMost l.dfa n → n < 2 ^ d → l.probes ≤ l.initial.probes + length (chars (take (char_indices_offset l.offset-iterator) l.input)) * d;
  read : IfSome l.longest (λ m. l.initial.steps + length (chars m.1.now) ≤ l.steps);
  trail : IfSome l.longest (λ m. HasTrail l.dfa l.input (char_indices_offset l.offset-iterator) m.1.now);
}
