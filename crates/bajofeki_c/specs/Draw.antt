-- cases: proofs/Cases/Draw.antt
-- Pictures of automata, into an array.
use Rattle.std.specs.Prelude.{◌⊎◌, ℕ, List, [], ◌∷◌, Option, Some, None}
use Rattle.std.specs.Str.{IsUtf8}
use Rattle.lexdfa_lib.specs.declared.command.Verbosity.TheVariants.{Warnings}
use Rattle.reviews_lib.specs.Pictured.{BytesPictured}
use Rattle.bajofeki_c.specs.Answered.{IsAnswered, IsNotChecked}
use Rattle.bajofeki_c.specs.declared.check.Checked.{Checked}

-- the rules that are drawn alone: none, if the name is empty, which is the name of no rule
abbrev pub given : List ℕ → Option (List ℕ)
given [] = None
given (b ∷ name) = Some (b ∷ name)

-- what the program answers is in the array, or memory was refused, if both names are UTF-8; otherwise nothing is
abbrev pub IsDrawing : List ℕ → List ℕ → List ℕ → List ℕ → Checked → List ℕ → Type 0
IsDrawing name rules rule before checked after =
    ((IsUtf8 name × IsUtf8 rule) × IsAnswered (BytesPictured Warnings (given rule) name rules) before checked after)
    ⊎ (¬ (IsUtf8 name × IsUtf8 rule) × IsNotChecked 10 before checked after)
