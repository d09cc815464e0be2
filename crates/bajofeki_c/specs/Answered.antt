-- cases: proofs/Cases/Answered.antt
-- What the program answers about rules, into an array.
use Rattle.std.specs.Prelude.{◌≡◌, ◌⊎◌, ◌++◌, ℕ, List, length}
use Rattle.reports_lib.specs.Answer.{Answer}
use Rattle.bajofeki_c.specs.Rules.{IsWritten}
use Rattle.bajofeki_c.specs.declared.check.Checked.{Checked}

-- what it writes, and then what it says, is in the array, as much as fits
pub record IsPut (answer : Answer) (before : List ℕ) (checked : Checked) (after : List ℕ) : Type 0 where
  pub code : checked.code ≡ answer.status
  pub found : checked.found ≡ length answer.out
  pub written : IsWritten (answer.out ++ answer.err) before after checked.length

-- nothing is written
abbrev pub IsNotChecked : ℕ → List ℕ → Checked → List ℕ → Type 0
IsNotChecked code before checked after = (checked ≡ record { code = code; found = 0; length = 0 }) × (after ≡ before)

-- such an answer is in the array, or memory was refused
abbrev pub IsAnswered : (Answer → Type 0) → List ℕ → Checked → List ℕ → Type 0
IsAnswered Is before checked after =
    ((answer : Answer) × (Is answer × IsPut answer before checked after)) ⊎ IsNotChecked 7 before checked after
