-- The colours of rules, each noted when the first token of its rule is painted.
use Rattle.std.specs.Prelude.{◌≡◌, ℕ, List, Option, Some, slice_get}
use Rattle.std.specs.Borrow.{Bor}
use Rattle.bajofeki.specs.Terminal.{colour_of}

-- what is noted of a rule is the colour of its name
abbrev pub AreColours : List (List ℕ) → List (Option (Bor (List ℕ))) → Type 0
AreColours names colours =
    (i : ℕ) (colour : Bor (List ℕ)) (name : List ℕ) → slice_get colours i ≡ Some (Some colour) → slice_get names i ≡ Some name
    → colour.now ≡ colour_of names name
