-- A walk over states, one of each class that some word leads into.
use Rattle.std.specs.Prelude.{ℕ, ◌<◌, ◌≤◌, List, length, slice_index, Option, Vec}
use Rattle.std.specs.Global.{Global}
use Rattle.lalrpop_dfa.specs.Dfa.{Row, step}
use Rattle.lalrpop_verdicts.specs.Internal.Classes.{AreLeads, AreTried}
use Rattle.lalrpop_verdicts.specs.Internal.ClassRows.{AreNumbered, AreReached, IsMetClass}

-- the table has a list for each state: the state itself, and each state that a value leads to from it
pub record AreAllLeads (d : List Row) (table : List (Vec ℕ Global)) : Type 0 where
  pub values : List ℕ
  pub tried : AreTried d values
  pub leads : AreLeads d values table

-- each value leads from the states before this place into classes that were met
pub record IsStateWalk (d : List Row) (classes states : List ℕ) (place : ℕ) : Type 0 where
  pub reached : AreReached d classes states
  pub few : place ≤ length states
  pub closed : (i c : ℕ) → i < place → IsMetClass classes states (step d (slice_index states i) c)

-- a state of each class that some word leads into
pub record AreAllMet (d : List Row) (classes states : List ℕ) : Type 0 where
  pub numbers : List (Option ℕ)
  pub numbered : AreNumbered classes numbers states
  pub walk : IsStateWalk d classes states (length states)
