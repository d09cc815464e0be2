-- How the state after a word goes on.
use Rattle.std.proofs.Common.{◌≡◌, ◌<◌, ℕ, List, [], ◌∷◌, ◌++◌, length, refl}
use Rattle.lalrpop_dfa.specs.Dfa.{Row, step, run, after, IsWellFormed}
use Rattle.lalrpop_dfa.proofs.EdgeTargets.{step_within}

pub run_append : (d : List Row) (p : ℕ) (v w : List ℕ) → run d p (v ++ w) ≡ run d (run d p v) w
run_append d p [] w = refl
run_append d p (c ∷ v) w = run_append d (step d p c) v w

-- one more value leads on from the state after the word
pub after_push : (d : List Row) (w : List ℕ) (c : ℕ) → after d (w ++ c ∷ []) ≡ step d (after d w) c
after_push d w c = run_append d 0 w (c ∷ [])

-- a word leads from a state to a state
pub run_within : (d : List Row) (p : ℕ) (w : List ℕ) → IsWellFormed d → p < length d → run d p w < length d
run_within d p [] h l = l
run_within d p (c ∷ w) h l = run_within d (step d p c) w h (step_within d p c h l)

-- after each word there is a state
pub after_within : (d : List Row) (w : List ℕ) → IsWellFormed d → after d w < length d
after_within d w h = run_within d 0 w h h.some
