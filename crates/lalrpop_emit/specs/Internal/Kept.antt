-- What a cutter keeps of a text of bytes between two pieces.
use Rattle.std.specs.Prelude.{◌≡◌, ℕ, ◌≤◌, List, length}
use Rattle.lalrpop_emit.specs.NumberedRules.{NumberedRules}
use Rattle.lalrpop_emit.specs.Internal.Driving.{IsState}
use Rattle.lalrpop_emit.specs.Internal.Memo.{IsMemoOf}
use Rattle.lalrpop_emit.specs.Internal.Running.{IsRunOf}
use Rattle.lalrpop_emit.specs.declared.driver.State.{State}
use Rattle.lalrpop_emit.specs.declared.run.Run.{Run}

-- where it goes on, and what it has found of the text
pub record ByteCut : Type 0 where
  pub state : State
  pub below : List ℕ
  pub run : Run
  pub memo : List ℕ

-- no more than 1024 modes lie below the one on top; what it has found was found in this text by these numbers
pub record IsCutOf (n : NumberedRules) (text : List ℕ) (c : ByteCut) : Type 0 where
  pub room : length c.below ≡ 1024
  pub within : c.state.at ≤ length text
  pub state : IsState (length n.tables) c.state c.below
  pub run : IsRunOf n c.state.mode c.state.at text c.run
  pub memo : IsMemoOf n text c.memo
