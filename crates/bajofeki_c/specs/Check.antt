-- cases: proofs/Cases/Check.antt
-- What a check of rules finds, into an array.
use Rattle.std.specs.Prelude.{◌⊎◌, ℕ, Bool, true, false, List}
use Rattle.std.specs.Str.{IsUtf8}
use Rattle.reports_lib.specs.Answer.{Answer}
use Rattle.lexdfa_lib.specs.declared.layout.LineForm.{LineForm}
use Rattle.lexdfa_lib.specs.declared.layout.LineForm.TheVariants.{Plain, Json}
use Rattle.reviews_lib.specs.Checked.{CheckAnswer, finding}
use Rattle.reports_lib.specs.NamedRules.{RulesTold}
use Rattle.lexdfa_lib.specs.declared.command.Verbosity.TheVariants.{Warnings}
use Rattle.bajofeki_c.specs.Answered.{IsAnswered, IsNotChecked}
use Rattle.bajofeki_c.specs.declared.check.Checked.{Checked}

-- the form of the lines
abbrev pub form_of : Bool → LineForm
form_of true = Json
form_of false = Plain

-- what the program answers to a check of the rules in a file of this name
abbrev pub IsCheckAnswer : LineForm → List ℕ → List ℕ → Answer → Type 0
IsCheckAnswer form name rules answer = RulesTold form (finding form) Warnings (CheckAnswer form) name rules answer

-- the rules are checked, or memory was refused, if the name is UTF-8; otherwise nothing is
abbrev pub IsChecked : List ℕ → List ℕ → Bool → List ℕ → Checked → List ℕ → Type 0
IsChecked name rules is_json before checked after =
    (IsUtf8 name × IsAnswered (IsCheckAnswer (form_of is_json) name rules) before checked after)
    ⊎ (¬ IsUtf8 name × IsNotChecked 10 before checked after)
