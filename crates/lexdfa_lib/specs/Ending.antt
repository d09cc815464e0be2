-- cases: proofs/Cases/Ending.antt
-- How the program ends.
use Rattle.std.specs.Prelude.{ℕ, List, [], codes, Result, Ok, Err}
use Rattle.lexdfa_lib.specs.Status.{outcome_status, error_status}
use Rattle.lexdfa_lib.specs.declared.ending.Failure.{Failure}
use Rattle.lexdfa_lib.specs.declared.ending.Failure.TheVariants.{Usage, Run}
use Rattle.lexdfa_lib.specs.declared.error.RunError.TheVariants.{OutOfMemory, Read, Write}
use Rattle.lexdfa_lib.specs.declared.outcome.Outcome.{Outcome}

-- the exit status: 4 if the arguments are wrong
abbrev pub ending_status : Result Outcome Failure → ℕ
ending_status (Ok outcome) = outcome_status outcome
ending_status (Err Usage) = 4
ending_status (Err (Run error)) = error_status error

-- what is said on standard error: a line if there is no outcome
abbrev pub ending_message : Result Outcome Failure → List ℕ
ending_message (Ok outcome) = []
ending_message (Err Usage) = codes "lexdfa: usage: lexdfa [--all] TEXT\n"
ending_message (Err (Run OutOfMemory)) = codes "lexdfa: out of memory\n"
ending_message (Err (Run Read)) = codes "lexdfa: read failed\n"
ending_message (Err (Run Write)) = codes "lexdfa: write failed\n"
