-- cases: proofs/Cases/Status.antt
-- The exit statuses.
use Rattle.std.specs.Prelude.{ℕ}
use Rattle.lexdfa_lib.specs.declared.error.RunError.{RunError}
use Rattle.lexdfa_lib.specs.declared.error.RunError.TheVariants.{OutOfMemory, Read, Write}
use Rattle.lexdfa_lib.specs.declared.outcome.Outcome.{Outcome}
use Rattle.lexdfa_lib.specs.declared.outcome.Outcome.TheVariants.{Match, NoMatch, All, Stopped, Refused, Ambiguous, Syntax, Line}

-- 0 for a match and for a text cut to its end, 1 if nothing matches at its front or at a fault, 2 if no automaton was
-- built, 3 if the input is wrong
abbrev pub outcome_status : Outcome → ℕ
outcome_status (Match terminal bytes) = 0
outcome_status NoMatch = 1
outcome_status (All tokens) = 0
outcome_status (Stopped tokens at) = 1
outcome_status (Refused terminal error) = 2
outcome_status (Ambiguous match0 match1 word) = 2
outcome_status (Syntax terminal) = 3
outcome_status (Line line) = 3

-- 5 for out of memory, 6 for a reader or a writer that failed
abbrev pub error_status : RunError → ℕ
error_status OutOfMemory = 5
error_status Read = 6
error_status Write = 6
