-- cases: proofs/Cases/Places.antt
-- What begins or ends wherever a byte or a character stands.
use Rattle.std.specs.Prelude.{◌≡◌, ℕ, List, [], ◌∷◌, ◌++◌}

-- wherever c stands in the list, it begins such a part
abbrev pub EachBegins : ℕ → (List ℕ → Type 0) → List ℕ → Type 0
EachBegins c IsPart list =
    (front rest : List ℕ) → list ≡ front ++ c ∷ rest → (part : List ℕ) × ((behind : List ℕ) × ((c ∷ rest ≡ part ++ behind) × IsPart part))

-- or ends one
abbrev pub EachEnds : ℕ → (List ℕ → Type 0) → List ℕ → Type 0
EachEnds c IsPart list =
    (front rest : List ℕ) → list ≡ front ++ c ∷ rest → (before : List ℕ) × ((part : List ℕ) × ((front ++ c ∷ [] ≡ before ++ part) × IsPart part))
