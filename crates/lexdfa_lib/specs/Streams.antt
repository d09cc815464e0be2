-- cases: proofs/Cases/Streams.antt
-- What a run did to its streams: what it read of them, what it wrote, and where one broke.
use Rattle.std.specs.Prelude.{◌≡◌, ◌⊎◌, ◌≤◌, ℕ, Bool, true, false, List, [], length, take, Option, Some, None, Result, Ok, Err, codes, string_bytes}
use Rattle.std.specs.Io.KnownBytes.{Appends, Consumes, IsAtEnd}
use Rattle.lexdfa_lib.specs.declared.error.RunError.{RunError}
use Rattle.lexdfa_lib.specs.declared.error.RunError.TheVariants.{OutOfMemory, Read, Write}
use Rattle.lexdfa_lib.specs.declared.files.NoBytes.{NoBytes}
use Rattle.lexdfa_lib.specs.declared.files.NoBytes.TheVariants as no_bytes

-- a stream: the bytes that it still gives, or those that it has taken, where they are known; whether a call can fail; whether one has; and
-- how many calls were made after that
pub record Stream : Type 0 where
  pub bytes : Option (List ℕ)
  pub may_fail : Bool
  pub is_broken : Bool
  pub late : ℕ

-- no call has failed yet
abbrev pub opened : Option (List ℕ) → Bool → Stream
opened bytes may_fail = record { bytes = bytes; may_fail = may_fail; is_broken = false; late = 0 }

-- no call fails, and none is made after one that failed
abbrev pub Works : Stream → Stream → Type 0
Works old new = new ≡ record old { bytes = new.bytes }

-- a call fails, or one had failed before, and then none is made. Only a stream that may does so
abbrev pub Breaks : Stream → Stream → Type 0
Breaks old new = (old.may_fail ≡ true) × (new ≡ record old { bytes = new.bytes; is_broken = true })

-- ---- reading

-- how reading ends: nothing is left; a read fails; there is nothing to read from, for this reason; or no more is wanted
pub data ReadEnd : Type 0 where
  AtEnd : ReadEnd
  Failed : ReadEnd
  NotOpened : List ℕ → ReadEnd
  LeftOff : ReadEnd

-- the bytes that were read, and how reading ended
pub record Reading : Type 0 where
  pub bytes : List ℕ
  pub end : ReadEnd

-- a stream was read up to this end. One that is broken fails
abbrev pub EndsReading : Stream → Stream → ReadEnd → Type 0
EndsReading old new AtEnd = (old.is_broken ≡ false) × (Works old new × IsAtEnd new.bytes)
EndsReading old new Failed = Breaks old new
EndsReading old new (NotOpened reason) = ⊥
EndsReading old new LeftOff = Works old new

-- this was read of a stream
abbrev pub Reads : Stream → Stream → Reading → Type 0
Reads old new reading = Consumes old.bytes new.bytes reading.bytes × EndsReading old new reading.end

-- not all of a stream is read, for this reason: memory was refused, or a read fails
abbrev pub ReadsPart : Stream → Stream → RunError → Type 0
ReadsPart old new OutOfMemory = (bytes : List ℕ) × Reads old new (record { bytes = bytes; end = LeftOff })
ReadsPart old new Read = (bytes : List ℕ) × Reads old new (record { bytes = bytes; end = Failed })
ReadsPart old new Write = ⊥

-- what a file gives that is wanted whole: all its bytes, or the reason why there are none
abbrev pub Given : Type 0
Given = Result (List ℕ) (List ℕ)

-- by what is read of it
abbrev pub GivesWhole : (List ℕ → Reading → Type 0) → List ℕ → Given → Type 0
GivesWhole Gives file (Ok bytes) = Gives file (record { bytes = bytes; end = AtEnd })
GivesWhole Gives file (Err reason) =
    Gives file (record { bytes = []; end = NotOpened reason })
    ⊎ ((bytes : List ℕ) × (Gives file (record { bytes = bytes; end = Failed }) × (reason ≡ codes "read failed")))

-- the reason for which a file gives no bytes, unless memory was refused
abbrev pub reason_told : NoBytes → Option (List ℕ)
reason_told no_bytes.OutOfMemory = None
reason_told (no_bytes.Because reason) = Some (string_bytes reason)

-- ---- writing

-- the bytes so far grow by a prefix of these
abbrev pub AppendsPrefix : Option (List ℕ) → Option (List ℕ) → List ℕ → Type 0
AppendsPrefix old new bytes = (n : ℕ) × (n ≤ length bytes) × Appends old new (take n bytes)

-- a stream takes all of these bytes
abbrev pub Takes : Stream → List ℕ → Stream → Type 0
Takes old bytes new = Works old new × Appends old.bytes new.bytes bytes

-- why it doesn't take all: memory was refused; or a write has failed
abbrev pub IsCause : RunError → Stream → Stream → Type 0
IsCause OutOfMemory old new = Works old new
IsCause Read old new = ⊥
IsCause Write old new = Breaks old new

-- then it takes a prefix
abbrev pub TakesPart : Stream → List ℕ → RunError → Stream → Type 0
TakesPart old bytes error new = IsCause error old new × AppendsPrefix old.bytes new.bytes bytes

-- a stream is told this: it takes all of it; or a prefix, where it breaks; or nothing, since it is broken
abbrev pub IsToldBy : Bool → Bool → Stream → List ℕ → Stream → Type 0
IsToldBy false false old bytes new = Takes old bytes new
IsToldBy false true old bytes new = Breaks old new × AppendsPrefix old.bytes new.bytes bytes
IsToldBy true false old bytes new = ⊥
IsToldBy true true old bytes new = new ≡ old

abbrev pub IsTold : Stream → List ℕ → Stream → Type 0
IsTold old bytes new = IsToldBy old.is_broken new.is_broken old bytes new

-- it is told a prefix of this
abbrev pub IsToldPart : Stream → List ℕ → Stream → Type 0
IsToldPart old bytes new = (n : ℕ) × (n ≤ length bytes) × IsTold old (take n bytes) new
