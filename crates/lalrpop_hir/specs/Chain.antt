-- cases: proofs/Cases/Chain.antt
-- Pieces of a text, one after another.
use Rattle.std.specs.Prelude.{◌≡◌, ℕ, ◌+◌, List, [], ◌∷◌, drop}

-- each piece is right where it begins, the next begins where it ends, and what is wanted holds behind the last
abbrev pub Chain : {A : Type 0} → (A → ℕ) → (ℕ → A → Type 0) → (ℕ → Type 0) → ℕ → List A → Type 0
Chain size Is Ends at [] = Ends at
Chain size Is Ends at (x ∷ xs) = Is at x × Chain size Is Ends (at + size x) xs

-- nothing of the text is left at this place
abbrev pub AtEnd : List ℕ → ℕ → Type 0
AtEnd text at = drop at text ≡ []
