-- What tells the sections of a mode in a file of rules all of whose lines say something.
use Rattle.std.specs.Prelude.{ℕ, ◌+◌, Bool, false, not, ◌&&◌, ◌==◌, if◌then◌else◌, List, [], ◌∷◌}
use Rattle.std.specs.List.{list_any, prefix_len, slice_split}
use Rattle.std.specs.Str.{bytes_eq}
use Rattle.bajofeki_rules.specs.declared.position.Position.{Position}
use Rattle.lalrpop_rule_file.specs.Words.{is_blank, is_of_name}

-- behind blanks the line begins with a `[`, 91
abbrev pub begins_section : List ℕ → Bool
begins_section [] = false
begins_section (b ∷ line) = if is_blank b then begins_section line else b == 91

abbrev pub is_word : List ℕ → List ℕ → Bool
is_word mode [] = false
is_word mode (b ∷ word) = bytes_eq (b ∷ word) mode

-- a word of the line is this mode
abbrev pub has_word : List ℕ → List ℕ → Bool
has_word mode line = list_any (λ word. is_word mode word) (slice_split (λ b. not (is_of_name b)) line)

abbrev pub opens : List ℕ → List ℕ → Bool
opens mode line = begins_section line && has_word mode line

-- where the first line is that does so; the first of these lines has the number n
abbrev pub place_from : ℕ → List (List ℕ) → List ℕ → Position
place_from n [] mode = record { line = 1; column = 1 }
place_from n (line ∷ ls) mode = if opens mode line then record { line = n; column = prefix_len is_blank line + 1 } else place_from (n + 1) ls mode

abbrev pub section_at : List (List ℕ) → List ℕ → Position
section_at ls mode = place_from 1 ls mode
