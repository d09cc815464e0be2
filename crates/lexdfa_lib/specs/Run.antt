-- cases: proofs/Cases/Run.antt
-- What a run of `lexdfa` does: it reads a stream to its end, and then writes the lines for what it read to another one.
use Rattle.std.specs.Prelude.{◌≡◌, ℕ, Bool, true, false, List}
use Rattle.lexdfa_lib.specs.Answer.{IsOutcome}
use Rattle.lexdfa_lib.specs.Printed.{line_of}
use Rattle.lexdfa_lib.specs.Streams.{Stream, AtEnd, Reads, ReadsPart, Takes, TakesPart}
use Rattle.lexdfa_lib.specs.Whole.{AreAnswers}
use Rattle.lexdfa_lib.specs.declared.error.RunError.{RunError}
use Rattle.lexdfa_lib.specs.declared.error.RunError.TheVariants.{OutOfMemory, Read, Write}
use Rattle.lexdfa_lib.specs.declared.outcome.Outcome.{Outcome}

-- the outcome for a text and the bytes, and all lines: of the longest match, or, if all of the text is cut, of its tokens
abbrev pub AreLines : Bool → List ℕ → List ℕ → Outcome → List ℕ → Type 0
AreLines false text bytes outcome lines = IsOutcome bytes text outcome × (lines ≡ line_of outcome)
AreLines true text bytes outcome lines = AreAnswers bytes text outcome lines

-- a run answers: a stream is read to its end, and another takes all lines for what was read
abbrev pub Answers : (List ℕ → Outcome → List ℕ → Type 0) → Stream → Stream → Stream → Stream → Outcome → Type 0
Answers Are left left_now held held_now outcome =
    (bytes : List ℕ) × (Reads left left_now (record { bytes = bytes; end = AtEnd })
    × ((lines : List ℕ) × (Are bytes outcome lines × Takes held lines held_now)))

-- a run fails. If memory is refused or a read fails, nothing is written; if a write fails, all was read, and a prefix of the lines is written
abbrev pub Fails : (List ℕ → Outcome → List ℕ → Type 0) → Stream → Stream → Stream → Stream → RunError → Type 0
Fails Are left left_now held held_now OutOfMemory = ReadsPart left left_now OutOfMemory × (held_now ≡ held)
Fails Are left left_now held held_now Read = ReadsPart left left_now Read × (held_now ≡ held)
Fails Are left left_now held held_now Write =
    (bytes : List ℕ) × (Reads left left_now (record { bytes = bytes; end = AtEnd })
    × ((outcome : Outcome) × ((lines : List ℕ) × (Are bytes outcome lines × TakesPart held lines Write held_now))))
