-- cases: proofs/Cases/Agree.antt
-- When two longest matches agree: one of a pattern's own automaton, one of the automaton of a list of only this pattern.
use Rattle.std.specs.Prelude.{◌≡◌, ℕ, List, [], ◌∷◌, Option, Some, None}

-- both give the same nonempty prefix, the second with the index 0, or neither gives a nonempty one
abbrev pub Agree : Option (List ℕ) → Option (ℕ × List ℕ) → Type 0
Agree None found = found ≡ None
Agree (Some []) found = found ≡ None
Agree (Some (b ∷ bs)) found = found ≡ Some (0, b ∷ bs)
