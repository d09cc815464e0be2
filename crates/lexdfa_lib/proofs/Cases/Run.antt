-- Cases of specs/Run.antt: the input `x`, whose one line is bad, the input `0 r *a`, whose pattern doesn't parse, and no input.
use Rattle.std.proofs.Common.{◌≡◌, ℕ, List, [], length, Some, false, true, refl, sym, ap, ◌∙◌, codes, arith}
use Rattle.std.specs.Fmt.{digits}
use Rattle.lexdfa_lib.specs.Printed.{line_of}
use Rattle.lexdfa_lib.specs.Run.{AreLines, Answers, Fails}
use Rattle.lexdfa_lib.specs.Streams.{Stream, opened}
use Rattle.lexdfa_lib.specs.declared.error.RunError.TheVariants.{OutOfMemory, Read, Write}
use Rattle.lexdfa_lib.specs.declared.outcome.Outcome.{Outcome}
use Rattle.lexdfa_lib.specs.declared.outcome.Outcome.TheVariants.{Syntax, Line}
use Rattle.lexdfa_lib.proofs.Unique.{outcome-unique}
use Rattle.lexdfa_lib.proofs.Cases.Answer.{bad_line_is_the_outcome, syntax_is_the_outcome}
use Rattle.lexdfa_lib.proofs.Cases.Whole.{bad_line_has_its_line}

-- bytes in memory, of which no read or write fails; and a pipe, of which one may
abbrev memory : List ℕ → Stream
memory bytes = opened (Some bytes) false

abbrev pipe : List ℕ → Stream
pipe bytes = opened (Some bytes) true

abbrev broken : List ℕ → Stream
broken bytes = record (pipe bytes) { is_broken = true }

-- ---- lines

line_of_a_bad_line : AreLines false (codes "a") (codes "x\n") (Line 0) (codes "line 0\n")
unfolding digits
line_of_a_bad_line = (bad_line_is_the_outcome, refl)

line_of_a_bad_pattern : AreLines false (codes "a") (codes "0 r *a\n") (Syntax 0) (codes "syntax 0\n")
unfolding digits
line_of_a_bad_pattern = (syntax_is_the_outcome, refl)

-- also if all of the text is cut
line_instead_of_tokens : AreLines true (codes "a") (codes "x\n") (Line 0) (codes "line 0\n")
line_instead_of_tokens = bad_line_has_its_line (codes "a")

-- not without its line feed, whatever the outcome
line_without_its_end : (outcome : Outcome) → ¬ AreLines false (codes "a") (codes "x\n") outcome (codes "line 0")
unfolding digits
line_without_its_end outcome h =
    let e : Line 0 ≡ outcome = outcome-unique (codes "x\n") (codes "a") _ _ bad_line_is_the_outcome h.0 in
    let n : 6 ≡ 7 = ap length (h.1 ∙ ap line_of (sym e)) in
    omega (arith, n)

-- ---- readers and writers

abbrev Lines : List ℕ → Outcome → List ℕ → Type 0
Lines bytes outcome lines = AreLines false (codes "a") bytes outcome lines

-- the reader had `x` and is at its end, and the writer has taken the line
reads_and_writes : Answers Lines (memory (codes "x\n")) (memory []) (memory []) (memory (codes "line 0\n")) (Line 0)
reads_and_writes = (codes "x\n", ((refl, (refl, (refl, refl))), (codes "line 0\n", (line_of_a_bad_line, (refl, refl)))))

-- not before the end, and not if the writer loses what it held
too_early : (outcome : Outcome) (now : Stream) → ¬ Answers Lines (memory (codes "x\n")) (memory (codes "\n")) (memory []) now outcome
too_early outcome now h = let n : 1 ≡ 0 = ap length h.1.0.1.1.1 in omega (arith, n)

loses_none : (left now : Stream) (outcome : Outcome) → ¬ Answers Lines left now (memory (codes "a")) (memory []) outcome
loses_none left now outcome h = let e = h.1.1.1.1.1 in absurd (cc)

-- a write fails: `li` of the line is written
writes_a_prefix : Fails Lines (memory (codes "x\n")) (memory []) (pipe []) (broken (codes "li")) Write
writes_a_prefix = (codes "x\n", ((refl, (refl, (refl, refl))), (Line 0, (codes "line 0\n", (line_of_a_bad_line, ((refl, refl), (2, omega arith, refl)))))))

-- a read fails, or memory is refused: nothing is
writes_nothing : Fails Lines (pipe (codes "x\n")) (broken []) (memory []) (memory []) Read
writes_nothing = ((codes "x\n", (refl, (refl, refl))), refl)

writes_no_prefix : (left now : Stream) → ¬ Fails Lines left now (memory []) (memory (codes "li")) OutOfMemory
writes_no_prefix left now h = let e = ap (λ (s : Stream). s.bytes) h.1 in absurd (cc (e))

-- in memory no read or write fails
memory_is_readable : (now held held_now : Stream) → ¬ Fails Lines (memory (codes "x\n")) now held held_now Read
memory_is_readable now held held_now h = let may = h.0.1.1.0 in absurd (cc)

memory_is_writable : (left now held_now : Stream) → ¬ Fails Lines left now (memory []) held_now Write
memory_is_writable left now held_now h = let may = h.1.1.1.1.1.0.0 in absurd (cc)
