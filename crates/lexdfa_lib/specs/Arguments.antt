-- cases: proofs/Cases/Arguments.antt
-- The program's arguments.
use Rattle.std.specs.Prelude.{◌≡◌, ℕ, Bool, true, false, List, [], ◌∷◌, codes}

-- the arguments are a text, or `--all` and a text that is to be cut to its end
abbrev pub AreArguments : List (List ℕ) → Bool → List ℕ → Type 0
AreArguments words false text = words ≡ text ∷ []
AreArguments words true text = words ≡ codes "--all" ∷ text ∷ []
