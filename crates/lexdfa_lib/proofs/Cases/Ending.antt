-- Cases of specs/Ending.antt.
use Rattle.std.proofs.Common.{◌≡◌, [], Ok, Err, codes, refl}
use Rattle.lexdfa_lib.specs.Ending.{ending_status, ending_message}
use Rattle.lexdfa_lib.specs.declared.ending.Failure.TheVariants.{Usage, Run}
use Rattle.lexdfa_lib.specs.declared.error.RunError.TheVariants.{OutOfMemory, Write}
use Rattle.lexdfa_lib.specs.declared.outcome.Outcome.TheVariants.{NoMatch}

-- an outcome has its own status, and says nothing on standard error
ending_with_an_outcome : (ending_status (Ok NoMatch) ≡ 1) × (ending_message (Ok NoMatch) ≡ [])
ending_with_an_outcome = (refl, refl)

-- wrong arguments
ending_by_wrong_arguments : (ending_status (Err Usage) ≡ 4) × (ending_message (Err Usage) ≡ codes "lexdfa: usage: lexdfa [--all] TEXT\n")
ending_by_wrong_arguments = (refl, refl)

-- out of memory, and a failed write
ending_by_want_of_memory : (ending_status (Err (Run OutOfMemory)) ≡ 5) × (ending_message (Err (Run OutOfMemory)) ≡ codes "lexdfa: out of memory\n")
ending_by_want_of_memory = (refl, refl)

ending_by_a_failed_write : (ending_status (Err (Run Write)) ≡ 6) × (ending_message (Err (Run Write)) ≡ codes "lexdfa: write failed\n")
ending_by_a_failed_write = (refl, refl)
