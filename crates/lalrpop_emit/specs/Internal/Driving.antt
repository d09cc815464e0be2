-- Where a text is cut, and what comes next there.
use Rattle.std.specs.Prelude.{◌≡◌, ℕ, ◌+◌, ◌<◌, ◌≤◌, List, true, false, length, take, reverse}
use Rattle.bajofeki_rules.specs.Stack.{Stack}
use Rattle.lalrpop_rules.specs.Modes.{ModeRules, EachMode}
use Rattle.lalrpop_emit.specs.BytePieces.{Fits, IsModePiece, StopsAt, piece_actions, after_piece}
use Rattle.lalrpop_emit.specs.declared.driver.State.{State}
use Rattle.lalrpop_emit.specs.declared.driver.Step.{Step}
use Rattle.lalrpop_emit.specs.declared.driver.Step.TheVariants.{Piece, End, TooDeep}

-- the stack: of the modes below the one on top the next one is the last
abbrev pub stack_of : State → List ℕ → Stack
stack_of s below = record { mode = s.mode; below = reverse (take s.depth below) }

-- the stack is within the room for it, and each of its modes is there
pub record IsState (modes : ℕ) (s : State) (below : List ℕ) : Type 0 where
  pub within : s.depth ≤ length below
  pub there : EachMode (λ m. m < modes) (stack_of s below)

-- at the place and the stack s this comes next, and then the stack is t
abbrev pub ComesNext : ModeRules → List ℕ → ℕ → List ℕ → ℕ → Stack → Step → Stack → Type 0
ComesNext r kinds room text at s (Piece p) t = IsModePiece r kinds text at s p × Fits room (piece_actions r.actions p) s × (t ≡ after_piece r.actions p s)
ComesNext r kinds room text at s End t = StopsAt r kinds room text true at s × (t ≡ s)
ComesNext r kinds room text at s TooDeep t = StopsAt r kinds room text false at s × (t ≡ s)

-- a piece begins at the place and isn't empty, and the text is cut on after it
pub record GoesOn (text : List ℕ) (at start size at2 : ℕ) : Type 0 where
  pub begins : start ≡ at
  pub some : 0 < size
  pub ends : at2 ≡ at + size
  pub within : at2 ≤ length text

-- where no piece comes, the place stays
abbrev pub GoesOnIf : List ℕ → ℕ → Step → ℕ → Type 0
GoesOnIf text at (Piece p) at2 = GoesOn text at p.start p.length at2
GoesOnIf text at End at2 = at2 ≡ at
GoesOnIf text at TooDeep at2 = at2 ≡ at
