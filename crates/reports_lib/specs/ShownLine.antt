-- cases: proofs/Cases/ShownLine.antt
-- A line of a file, as messages show it.
use Rattle.std.specs.Prelude.{ℕ, zero, suc, ◌-◌, false, nat_lt, ◌==◌, List, [], ◌∷◌, ◌++◌, length, take, drop, map, Option, Some, None, option_map, unwrap_or, slice_get, chars, codes, decimal, if◌then◌else◌}
use Rattle.std.specs.Bool.{then_some}
use Rattle.std.specs.List.{repeat}
use Rattle.std.specs.Str.{encode_utf8_all, is_utf8}
use Rattle.unicode_width.specs.Width.{str_width}
use Rattle.bajofeki_rules.specs.Quoted.{is_unseen}
use Rattle.lalrpop_rule_file.specs.RuleFile.{without_return}

-- the sign for a character: a blank for a tab, U+FFFD for any other that isn't seen, and else the character itself
abbrev pub sign : ℕ → ℕ
sign c = if c == 9 then 32 else (if is_unseen c then 65533 else c)

-- the signs of a line without its carriage return; it has none if it isn't UTF-8
abbrev pub signs_of : List ℕ → Option (List ℕ)
signs_of line = then_some (is_utf8 line) (map sign (chars (without_return line)))

-- of the line with this number, counted from 1
abbrev pub signs_at : List (List ℕ) → ℕ → Option (List ℕ)
signs_at ls n = signs_of (unwrap_or (slice_get ls (n - 1)) [])

-- dots, U+2026, if this many signs are left out
abbrev pub dots : ℕ → List ℕ
dots zero = []
dots (suc n) = 8230 ∷ []

-- 160 signs at most, where this many before them are left out
abbrev pub shown : ℕ → List ℕ → List ℕ
shown before signs = encode_utf8_all (dots before ++ (take 160 signs ++ dots (length signs - 160)))

-- of more than 160 signs those are shown that begin 100 before the place
abbrev pub first_shown : ℕ → ℕ → ℕ
first_shown count place = if nat_lt 160 count then place - 100 else 0

-- the signs from the first one that is shown, and on the next line a caret: before it stand blanks, as wide as what is shown before the place
abbrev pub pointed_from : ℕ → List ℕ → ℕ → List ℕ
pointed_from first signs place =
    codes "    " ++ (shown first (drop first signs) ++ (codes "\n    "
    ++ (repeat (str_width false (dots first ++ drop first (take place signs))) (codes " ") ++ codes "^\n")))

-- a line with a caret under the place, counted from 0; nothing if it has no signs
abbrev pub pointed : Option (List ℕ) → ℕ → List ℕ
pointed None place = []
pointed (Some signs) place = pointed_from (first_shown (length signs) place) signs place

-- the line with this number, after the number
abbrev pub numbered : List (List ℕ) → ℕ → List ℕ
numbered ls n = codes "    " ++ (decimal n ++ (codes ": " ++ (unwrap_or (option_map (shown 0) (signs_at ls n)) [] ++ codes "\n")))
