-- Classes of states after some rounds.
use Rattle.std.specs.Prelude.{◌≡◌, ◌≢◌, ℕ, ◌<◌, ◌≤◌, List, [], length, slice_index, Some, None, Vec}
use Rattle.std.specs.Global.{Global}
use Rattle.std.specs.HashMap.{HashMap, get, Updates}
use Rattle.lalrpop_dfa.specs.Dfa.{Row}
use Rattle.lalrpop_verdicts.specs.Answers.{answer_from}
use Rattle.lalrpop_verdicts.specs.Internal.Classes.{AlikeFrom, list_eq, row_at}

-- the classes of states that answer alike are equal, and states of one class accept alike
pub record IsRound (d : List Row) (classes : List ℕ) : Type 0 where
  pub same_length : length classes ≡ length d
  pub least : (p : ℕ) → p < length d → slice_index classes p ≤ p
  pub answers : (p q : ℕ) → p < length d → q < length d → slice_index classes p ≡ slice_index classes q → answer_from d p [] ≡ answer_from d q []
  pub kept : (p q : ℕ) → p < length d → q < length d → AlikeFrom d p q → slice_index classes p ≡ slice_index classes q

-- each row begins with the class of its own state, which is that state or one before it
pub record AreOwnRows (rows : List (List ℕ)) (classes : List ℕ) : Type 0 where
  pub same_length : length classes ≡ length rows
  pub least : (p : ℕ) → p < length rows → slice_index classes p ≤ p
  pub own : (p : ℕ) → p < length rows → slice_index (row_at rows p) 0 ≡ slice_index classes p

-- the class after a round: `first`, the class before, if that has the row of this state; or else the one that the map has for the row, where this state is added if there is none
pub data IsNextClass {S : Type 0} (rows : List (List ℕ)) (first state found : ℕ) (old new : HashMap (Vec ℕ Global) ℕ S) : Type 0 where
  stays : row_at rows first ≡ row_at rows state → found ≡ first → new ≡ old → IsNextClass rows first state found old new
  known : (k : Vec ℕ Global) → k.items ≡ row_at rows state → get list_eq old k ≡ Some found → new ≡ old → IsNextClass rows first state found old new
  added : row_at rows first ≢ row_at rows state → (k : Vec ℕ Global) → k.items ≡ row_at rows state → get list_eq old k ≡ None → found ≡ state → Updates list_eq old new k (Some state) → IsNextClass rows first state found old new
