-- cases: proofs/Cases/Console.antt
-- What a run writes to standard output and says on standard error, and the answers that it gives there.
use Rattle.std.specs.Prelude.{◌≡◌, ◌⊎◌, ℕ, List}
use Rattle.lexdfa_lib.specs.Streams.{Stream, Takes, TakesPart, IsTold, IsToldPart}
use Rattle.lexdfa_lib.specs.declared.error.RunError.{RunError}
use Rattle.reports_lib.specs.Answer.{Answer, silence}

-- standard output and standard error
pub record Console : Type 0 where
  pub out : Stream
  pub err : Stream

-- these bytes are written, and nothing is said
abbrev pub Writes : Console → List ℕ → Console → Type 0
Writes old bytes new = Takes old.out bytes new.out × (new.err ≡ old.err)

-- a prefix of them is written
abbrev pub WritesPart : Console → List ℕ → RunError → Console → Type 0
WritesPart old bytes error new = TakesPart old.out bytes error new.out × (new.err ≡ old.err)

-- this is said, and nothing is written
abbrev pub Says : Console → List ℕ → Console → Type 0
Says old said new = IsTold old.err said new.err × (new.out ≡ old.out)

-- an answer is given: standard output takes all that it writes, and standard error is told what it says
pub record Gives (old : Console) (answer : Answer) (new : Console) : Type 0 where
  pub out : Takes old.out answer.out new.out
  pub err : IsTold old.err answer.err new.err

-- one of these answers is given, and has this status
abbrev pub Answers : (Answer → Type 0) → Console → ℕ → Console → Type 0
Answers Is old status new = (answer : Answer) × (Is answer × ((status ≡ answer.status) × Gives old answer new))

-- nothing, or one of these answers
abbrev pub Begins : (Answer → Type 0) → Answer → Type 0
Begins Is answer = (answer ≡ silence) ⊎ Is answer

-- nothing, or one of these answers, is given in part, until this error: a prefix of what it writes, and one of what it says
abbrev pub Fails : (Answer → Type 0) → Console → RunError → Console → Type 0
Fails Is old error new =
    (answer : Answer) × (Begins Is answer × (TakesPart old.out answer.out error new.out × IsToldPart old.err answer.err new.err))
