use Rattle.std.proofs.Common.{◌≡◌, ℕ, ◌+◌, ◌-◌, ◌≤◌, List, length, take, drop}
use Rattle.std.specs.Prelude.{Option}
use Rattle.std.specs.Str.{chars}
use Rattle.lalrpop_hir.proofs.Cuts.{IsCut}
use Rattle.bajofeki.specs.Internal.Walking.{behind}
use Rattle.bajofeki.specs.Internal.Noted.{IsOver, IsStand}
use Rattle.bajofeki.proofs.Vain.{IsVainTo}
use Rattle.bajofeki.proofs.run.run_along.Given as goal

abbrev pub invariant-walk : goal.invariant-walk
invariant-walk l = record {
  cut : IsCut l.text l.end (drop l.end l.text);
  reached : l.place ≡ behind l.walker (chars (take l.end l.text));
  stand : (best : Option (ℕ × List ℕ)) × IsStand l.walker l.text l.matched l.there best;
  order : l.matched ≤ l.end;
  back : (n m : ℕ) → l.end + n ≡ l.matched + m → IsOver l.walker l.place (chars (drop l.end l.text)) n
      → IsOver l.walker l.there (chars (drop l.matched l.text)) m;
  vain : (v : List ℕ) × IsVainTo l.walker l.memo l.mode l.at l.text l.matched l.there l.end l.place (drop l.end l.text) v;
  read : l.initial.steps + length (chars (take l.end l.text)) ≤ l.steps;
  cost : l.steps ≤ l.initial.steps + l.end;
}

abbrev pub decreases-walk : goal.decreases-walk
decreases-walk l = length l.text - l.end
