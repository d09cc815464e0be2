-- cases: proofs/Cases/Compare.antt
-- Two files of rules that are compared, into an array.
use Rattle.std.specs.Prelude.{◌⊎◌, List, ℕ}
use Rattle.std.specs.Str.{IsUtf8}
use Rattle.lexdfa_lib.specs.declared.command.Verbosity.TheVariants.{Warnings}
use Rattle.reviews_lib.specs.Compared.{BytesCompared}
use Rattle.bajofeki_c.specs.Answered.{IsAnswered, IsNotChecked}
use Rattle.bajofeki_c.specs.declared.check.Checked.{Checked}

-- what the program answers is in the array, or memory was refused, if both names are UTF-8; otherwise nothing is
abbrev pub IsCompared : List ℕ → List ℕ → List ℕ → List ℕ → List ℕ → Checked → List ℕ → Type 0
IsCompared name rules other_name other before checked after =
    ((IsUtf8 name × IsUtf8 other_name) × IsAnswered (BytesCompared Warnings name rules other_name other) before checked after)
    ⊎ (¬ (IsUtf8 name × IsUtf8 other_name) × IsNotChecked 10 before checked after)
