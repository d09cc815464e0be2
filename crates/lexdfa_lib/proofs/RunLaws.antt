-- Runs that fail.
use Rattle.std.proofs.Common.{◌≡◌, ℕ, List, refl, sym, subst}
use Rattle.std.specs.Prelude.{Result, Ok, Err, IfErr}
use Rattle.std.specs.Result.{IsErrAnd}
use Rattle.lexdfa_lib.specs.Run.{Fails}
use Rattle.lexdfa_lib.specs.Streams.{Stream, AtEnd, Reads, TakesPart}
use Rattle.lexdfa_lib.specs.declared.error.RunError.{RunError}
use Rattle.lexdfa_lib.specs.declared.error.RunError.TheVariants.{OutOfMemory, Read, Write}
use Rattle.lexdfa_lib.specs.declared.outcome.Outcome.{Outcome}

-- what holds of the error that a `?` hands on
pub handed_on : {T E : Type 0} (P : E → Type 0) (r : Result T E) (own : E) → IsErrAnd r (λ e. e ≡ own) → P own → IfErr r P
handed_on P (Ok x) own is p = tt
handed_on P (Err e) own is p = subst P (sym is) p

-- all was read, and not all lines are written
pub write_fails : (Are : List ℕ → Outcome → List ℕ → Type 0) (left left_now held held_now : Stream) (bytes lines : List ℕ) (outcome : Outcome) (e : RunError)
    → Reads left left_now (record { bytes = bytes; end = AtEnd }) → Are bytes outcome lines → TakesPart held lines e held_now → (e ≡ OutOfMemory → held_now ≡ held)
    → Fails Are left left_now held held_now e
write_fails Are left left_now held held_now bytes lines outcome OutOfMemory reads are part same = ((bytes, (reads.0, reads.1.1.0)), same refl)
write_fails Are left left_now held held_now bytes lines outcome Read reads are part same = absurd part.0
write_fails Are left left_now held held_now bytes lines outcome Write reads are part same = (bytes, (reads, (outcome, (lines, (are, part)))))
