use Rattle.std.proofs.Common.{◌≡◌, ℕ, ◌+◌, ◌-◌, ◌≤◌, List, length, take}
use Rattle.std.specs.Option.{option_map, IfSome}
use Rattle.std.specs.Str.{chars}
use Rattle.lalrpop_hir.specs.Tree.{Tree}
use Rattle.lalrpop_dfa.specs.Dfa.{Recognizes}
use Rattle.lalrpop_dfa.proofs.LongestLemmas.{IsLongestUpTo}
use Rattle.lalrpop_dfa.proofs.Trails.{HasTrail}
use Rattle.lalrpop_dense.specs.Internal.Reading.{IsPlace, PaysPast, found}
use Rattle.lalrpop_dense.proofs.Walks.{IsWalked}
use Rattle.lalrpop_dense.proofs.run.walk.Given as goal

-- the text was read up to the place, and of the matches up to there the longest is known
abbrev pub invariant-walk : goal.invariant-walk
invariant-walk g l = record {
  walked : IsWalked l.layout l.dfa l.text l.at l.state;
  best : (ts : List Tree) (ps : List ℕ) → Recognizes l.dfa ts ps → IsLongestUpTo ts ps l.text l.at (option_map (found l.layout (g.C.Cells.numbers l.cells) l.text) l.longest);
  place : IfSome l.longest (IsPlace l.layout (g.C.Cells.numbers l.cells) l.text);
  cost : l.steps ≡ l.initial.steps + length (chars (take l.at l.text));
  below : length (chars (take l.at l.text)) ≤ l.at;
  limit : length (chars (take l.at l.text)) ≤ l.limit;
  past : PaysPast l.text l.at 0 (length (chars (take l.at l.text))) l.longest;
  read : IfSome l.longest (λ m. l.initial.steps + length (chars (take m.1 l.text)) ≤ l.steps);
  trail : IfSome l.longest (λ m. HasTrail l.dfa l.text l.at (take m.1 l.text));
}

abbrev pub decreases-walk : goal.decreases-walk
decreases-walk g l = l.limit - l.at
