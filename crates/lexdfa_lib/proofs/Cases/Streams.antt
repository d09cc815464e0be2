-- Cases of specs/Streams.antt.
use Rattle.std.proofs.Common.{◌≡◌, List, ℕ, zero, suc, [], ◌∷◌, length, take, get_or, true, false, inl, inr, Some, codes, refl, ap, arith}
use Rattle.std.specs.Prelude.{Ok, Err}
use Rattle.lexdfa_lib.specs.declared.error.RunError.TheVariants.{OutOfMemory, Read, Write}
use Rattle.lexdfa_lib.specs.Streams.{Stream, AtEnd, Failed, NotOpened, LeftOff, GivesWhole, Reads, ReadsPart, EndsReading, AppendsPrefix, Takes, TakesPart, Works, IsTold, opened}

-- bytes in memory, of which no read or write fails; and a pipe, of which one may
abbrev memory : List ℕ → Stream
memory bytes = opened (Some bytes) false

abbrev pipe : List ℕ → Stream
pipe bytes = opened (Some bytes) true

abbrev broken : List ℕ → Stream
broken bytes = record { bytes = Some bytes; may_fail = true; is_broken = true; late = 0 }

-- ---- what is read

-- a file that is read to its end gives all its bytes
reads_all : GivesWhole (λ file reading. reading ≡ record { bytes = codes "a"; end = AtEnd }) (codes "f") (Ok (codes "a"))
reads_all = refl

-- one of which a read fails gives none, and neither does one that isn't opened
read_fails : GivesWhole (λ file reading. reading ≡ record { bytes = codes "a"; end = Failed }) (codes "f") (Err (codes "read failed"))
read_fails = inr (codes "a", (refl, refl))

opens_none : GivesWhole (λ file reading. reading ≡ record { bytes = []; end = NotOpened (codes "not found") }) (codes "f") (Err (codes "not found"))
opens_none = inl refl

-- reading is left off before the end
left_off : Reads (pipe (codes "ab")) (pipe (codes "b")) (record { bytes = codes "a"; end = LeftOff })
left_off = (refl, refl)

-- where bytes are left is no end
not_at_the_end : ¬ EndsReading (pipe (codes "a")) (pipe (codes "a")) AtEnd
not_at_the_end e = let left = e.1.1 in absurd (cc)

-- a read of a pipe may fail, and then it is broken; a read of bytes in memory doesn't
pipe_fails : Reads (pipe (codes "ab")) (broken (codes "b")) (record { bytes = codes "a"; end = Failed })
pipe_fails = (refl, (refl, refl))

memory_doesn't : (new : Stream) (bytes : List ℕ) → ¬ Reads (memory (codes "a")) new (record { bytes = bytes; end = Failed })
memory_doesn't new bytes e = let may = e.1.0 in absurd (cc)

-- a broken stream isn't read to its end
no_end_of_a_broken_one : (new : Stream) → ¬ EndsReading (broken []) new AtEnd
no_end_of_a_broken_one new e = let whole = e.0 in absurd (cc)

-- a stream is open
no_stream_unopened : (old new : Stream) (reason : List ℕ) → ¬ EndsReading old new (NotOpened reason)
no_stream_unopened old new reason e = e

-- a run that asks for memory in vain has read some bytes; over bytes in memory no read is the reason
read_in_part : ReadsPart (memory (codes "ab")) (memory (codes "b")) OutOfMemory
read_in_part = (codes "a", (refl, refl))

memory_is_readable : (new : Stream) → (¬ ReadsPart (memory (codes "ab")) new Read) × (¬ ReadsPart (memory (codes "ab")) new Write)
memory_is_readable new = ((λ e. memory_fails e.1.1.0), (λ e. e))
  where
    memory_fails : false ≡ true → ⊥
    memory_fails e = cc

-- a call after one that failed is late: a stream of which one was made has done no work
late_call : ¬ Works (broken (codes "ab")) (record (broken (codes "b")) { late = 1 })
late_call e = let n : 1 ≡ 0 = ap (λ (s : Stream). s.late) e in omega (arith, n)

late_read : (bytes : List ℕ) → ¬ Reads (broken (codes "ab")) (record (broken (codes "b")) { late = 1 }) (record { bytes = bytes; end = Failed })
late_read bytes e = let n : 1 ≡ 0 = ap (λ (s : Stream). s.late) e.1.1 in omega (arith, n)

-- ---- what is written

-- a writer that held `x` and holds `xa` has taken a prefix of `ab`; one that holds `xb` hasn't
prefix_is_taken : AppendsPrefix (Some (codes "x")) (Some (codes "xa")) (codes "ab")
prefix_is_taken = (1, omega arith, refl)

no_other_part_is : ¬ AppendsPrefix (Some (codes "x")) (Some (codes "xb")) (codes "ab")
no_other_part_is h = by_number h.0 h.2
  where
    by_number : (n : ℕ) → codes "xb" ≡ 120 ∷ take n (codes "ab") → ⊥
    by_number zero e = let n : 2 ≡ 1 = ap length e in omega (arith, n)
    by_number (suc n) e = let k : 98 ≡ 97 = ap (λ u. get_or u 1 0) e in omega (arith, k)

-- a stream takes everything
takes_all : Takes (memory (codes "a")) (codes "b") (memory (codes "ab"))
takes_all = (refl, refl)

-- a part, where a write fails, or memory is refused
takes_a_part : TakesPart (pipe []) (codes "ab") Write (broken (codes "a"))
takes_a_part = ((refl, refl), (1, omega arith, refl))

takes_none : TakesPart (memory []) (codes "ab") OutOfMemory (memory [])
takes_none = (refl, (0, omega arith, refl))

-- no write of bytes in memory fails, and no write is a read that fails
memory_takes : (new : Stream) (bytes : List ℕ) → ¬ TakesPart (memory []) bytes Write new
memory_takes new bytes e = let may = e.0.0 in absurd (cc)

no_read : (old new : Stream) (bytes : List ℕ) → ¬ TakesPart old bytes Read new
no_read old new bytes e = e.0

-- a part without a failure is too little
a_part_is_too_little : ¬ Takes (pipe []) (codes "ab") (pipe (codes "a"))
a_part_is_too_little e = let grown = e.1 in absurd (cc)

-- a broken stream is told nothing
told_nothing : IsTold (broken (codes "a")) (codes "b") (broken (codes "a"))
told_nothing = refl

told_no_more : ¬ IsTold (broken []) (codes "b") (broken (98 ∷ []))
told_no_more e = let b = ap (λ (s : Stream). s.bytes) e in absurd (cc (b))
