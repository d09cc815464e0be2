-- States from which no match comes.
use Rattle.std.specs.Prelude.{◌≡◌, ℕ, ◌+◌, ◌*◌, ◌⊎◌, List, [], ◌∷◌, drop}
use Rattle.lalrpop_dfa.specs.Dfa.{Row, step, IsReject}
use Rattle.lalrpop_dfa.specs.Lookahead.{IsOpen}
use Rattle.lalrpop_dense.specs.Internal.Memory.{Memory, IsNoted}

-- from the state p on, the states along the word are open, up to its end or to a reject state
abbrev pub IsHopeless : List Row → ℕ → List ℕ → Type 0
IsHopeless d p [] = Unit {0}
IsHopeless d p (c ∷ w) = IsReject d (step d p c) ⊎ (IsOpen d (step d p c) × IsHopeless d (step d p c) w)

-- the word is what is left of a text after `at` characters: from each state that is noted at a place of it, no match comes there
abbrev pub IsSound : List Row → Memory → ℕ → List ℕ → Type 0
IsSound d m at w = (p k i : ℕ) → IsNoted m p k → 64 * k ≡ at + i → IsHopeless d p (drop i w)
