-- Cases of specs/Status.antt.
use Rattle.std.proofs.Common.{◌≡◌, [], ◌∷◌, refl}
use Rattle.lalrpop_hir.specs.declared.error.NfaConstructionError.TheVariants.{LookAround}
use Rattle.lexdfa_lib.specs.Status.{outcome_status, error_status}
use Rattle.lexdfa_lib.specs.declared.error.RunError.TheVariants.{OutOfMemory, Read, Write}
use Rattle.lexdfa_lib.specs.declared.outcome.Outcome.TheVariants.{Match, NoMatch, All, Stopped, Refused, Ambiguous, Syntax, Line}

-- a match, and no match
statuses_with_an_automaton : (outcome_status (Match 1 6) ≡ 0) × (outcome_status NoMatch ≡ 1)
statuses_with_an_automaton = (refl, refl)

-- a whole text, and one that is cut up to a fault
statuses_of_whole_texts : (outcome_status (All 3) ≡ 0) × (outcome_status (Stopped 3 6) ≡ 1)
statuses_of_whole_texts = (refl, refl)

-- a refusal and a clash
statuses_without_an_automaton : (outcome_status (Refused 0 LookAround) ≡ 2) × (outcome_status (Ambiguous 1 0 (97 ∷ [])) ≡ 2)
statuses_without_an_automaton = (refl, refl)

-- a pattern that doesn't parse, and a bad line
statuses_of_wrong_input : (outcome_status (Syntax 0) ≡ 3) × (outcome_status (Line 0) ≡ 3)
statuses_of_wrong_input = (refl, refl)

statuses_of_errors : (error_status OutOfMemory ≡ 5) × (error_status Read ≡ 6) × (error_status Write ≡ 6)
statuses_of_errors = (refl, refl, refl)
