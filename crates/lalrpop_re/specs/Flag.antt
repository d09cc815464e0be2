-- cases: proofs/Cases/Flag.antt
-- The letters that set the flags under which a part of a pattern is read.
use Rattle.std.specs.Prelude.{ℕ, ◌<◌, Bool, true, false, not, ◌&&◌, ◌||◌, ◌==◌, IsTrue, List, [], ◌∷◌, ◌++◌, length, if◌then◌else◌, codes}
use Rattle.std.specs.List.{list_all, list_any}
use Rattle.lalrpop_re.specs.declared.flags.Flags.{Flags}
use Rattle.lalrpop_re.specs.Text.{◌▸◌}
use Rattle.lalrpop_re.specs.CharacterSet.{is_one_of}

-- the flags under which reading begins
abbrev pub no_flags : Flags
no_flags = record { case_insensitive = false; dot_matches_new_line = false; multi_line = false; swap_greed = false }

-- at least one flag is on
abbrev pub has_flag : Flags → Bool
has_flag f = f.case_insensitive || f.dot_matches_new_line || f.multi_line || f.swap_greed

-- The flags with one of them set to a value, by its letter: `i` for case_insensitive, `s` for dot_matches_new_line, `m` for
-- multi_line, `U` for swap_greed. `u` changes nothing.
abbrev pub with_flag : Bool → Flags → ℕ → Flags
with_flag on f c =
    if is_one_of "i" c then record f { case_insensitive = on } else if is_one_of "s" c then record f { dot_matches_new_line = on }
    else if is_one_of "m" c then record f { multi_line = on } else if is_one_of "U" c then record f { swap_greed = on } else f

abbrev pub with_flags : Bool → Flags → List ℕ → Flags
with_flags on f [] = f
with_flags on f (c ∷ cs) = with_flags on (with_flag on f c) cs

-- no letter occurs twice
abbrev pub is_distinct : List ℕ → Bool
is_distinct [] = true
is_distinct (c ∷ cs) = not (list_any (λ d. d == c) cs) && is_distinct cs

-- The flags f after these letters: those before a `-` are switched on, those after it off. At least one letter follows
-- the `-`, and `u` does not; no letter occurs twice, on either side.
pub data FlagLetters (f : Flags) : List ℕ → Flags → Type 0 where
  on : (letters : List ℕ) → IsTrue (list_all (is_one_of "ismUu") letters) → IsTrue (is_distinct letters) → FlagLetters f letters (with_flags true f letters)
  on_and_off : (letters others : List ℕ) → IsTrue (list_all (is_one_of "ismUu") letters) → IsTrue (list_all (is_one_of "ismU") others) → 0 < length others →
      IsTrue (is_distinct (letters ++ others)) → FlagLetters f (letters ▸ codes "-" ▸ others) (with_flags false (with_flags true f letters) others)
