-- cases: proofs/Cases/ModePlace.antt
-- Where the section of a mode begins in a file of rules.
use Rattle.std.specs.Prelude.{◌≡◌, ℕ, ◌+◌, Bool, false, if◌then◌else◌, List, ◌∷◌}
use Rattle.std.specs.List.{list_any, prefix_len}
use Rattle.std.specs.Str.{bytes_eq}
use Rattle.bajofeki_rules.specs.declared.position.Position.{Position}
use Rattle.lalrpop_rule_file.specs.Words.{is_blank}
use Rattle.lalrpop_rule_file.specs.FileModes.{Said, Heading, named_by}
use Rattle.lalrpop_rule_file.specs.RuleFile.{LinesSay}

-- whether a line that says this begins a section of the mode
abbrev pub begins_mode : Said → List ℕ → Bool
begins_mode (Heading section) mode = list_any (λ name. bytes_eq name mode) (named_by section)
begins_mode said mode = false

-- where the first section of the mode begins, behind the blanks of its line; the first of the lines has this number
abbrev pub section_place : ℕ → List (List ℕ) → List Said → List ℕ → Position
section_place n (line ∷ ls) (s ∷ said) mode =
    if begins_mode s mode then record { line = n; column = prefix_len is_blank line + 1 } else section_place (n + 1) ls said mode
section_place n ls said mode = record { line = 1; column = 1 }

-- so it tells where the section of each mode begins in lines of a file; lines count from 1
abbrev pub TellsSections : List (List ℕ) → (List ℕ → Position) → Type 0
TellsSections ls place_of = (said : List Said) → LinesSay ls said → (mode : List ℕ) → place_of mode ≡ section_place 1 ls said mode
