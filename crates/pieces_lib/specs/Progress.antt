-- cases: proofs/Cases/Progress.antt
-- What is said of progress on standard error.
use Rattle.std.specs.Prelude.{ℕ, nat_lt, List, [], ◌++◌, Option, Some, None, codes, decimal}
use Rattle.std.specs.Bool.{then_some}
use Rattle.lexdfa_lib.specs.declared.command.Verbosity.{Verbosity}
use Rattle.lexdfa_lib.specs.declared.command.Verbosity.TheVariants.{Quiet, Warnings, Progress}

-- before the file of rules is read
abbrev pub reading_text : Verbosity → List ℕ → List ℕ
reading_text Quiet rules = []
reading_text Warnings rules = []
reading_text Progress rules = codes "tokens: reading " ++ (rules ++ codes "\n")

-- how many FILEs there are, if each is told before it is read: there are several
abbrev pub total_said : Verbosity → ℕ → Option ℕ
total_said Quiet count = None
total_said Warnings count = None
total_said Progress count = then_some (nat_lt 1 count) count

-- before a FILE is read: its name, its number, from 1, and how many there are
abbrev pub number_text : Option ℕ → ℕ → List ℕ → List ℕ
number_text None number file = []
number_text (Some total) number file = codes "tokens: " ++ (file ++ (codes " (" ++ (decimal number ++ (codes " of " ++ (decimal total ++ codes ")\n")))))
