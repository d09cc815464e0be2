-- What goes wrong while a text is cut, and old pieces in a new text.
use Rattle.std.specs.Prelude.{◌≡◌, ℕ, ◌+◌, ◌-◌, ◌≤◌, ◌⊎◌, List, length}
use Rattle.lalrpop_rules.specs.Modes.{ModeRules}
use Rattle.bajofeki.specs.Lexed.{replaced}
use Rattle.bajofeki.specs.declared.error.EditError.{EditError}
use Rattle.bajofeki.specs.declared.error.EditError.TheVariants.{NoBoundary, TooLarge, OutOfMemory}

-- the text has 4,294,967,295 bytes or more, or there are as many rules; or memory was refused
abbrev pub IsCutError : ModeRules → List ℕ → EditError → Type 0
IsCutError r text NoBoundary = ⊥
IsCutError r text TooLarge = (4294967295 ≤ length text) ⊎ (4294967295 ≤ length r.trees)
IsCutError r text OutOfMemory = Unit {0}

-- the text is the one before with the bytes from `from` to `to` replaced by `size` others
abbrev pub IsEdited : List ℕ → List ℕ → ℕ → ℕ → ℕ → Type 0
IsEdited before text from to size =
    (from ≤ to) × (to ≤ length before) × ((new : List ℕ) × ((length new ≡ size) × (text ≡ replaced before from to new)))

-- where a place after what was replaced lies in the new text
abbrev pub moved_place : ℕ → ℕ → ℕ → ℕ → ℕ
moved_place from to size at = from + size + (at - to)
