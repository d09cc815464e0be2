-- A run of `lexdfa` over memory: what it reads is all of the input, and what it writes is all that is given.
use Rattle.std.proofs.Common.{◌≡◌, ℕ, List, [], ◌++◌, Some, None, sym, ap, subst, ◌∙◌, append-nil}
use Rattle.std.specs.Prelude.{Option, false}
use Rattle.std.specs.Io.KnownBytes.{Appends, Consumes, IsAtEnd}
use Rattle.lexdfa_lib.specs.Run.{Answers}
use Rattle.lexdfa_lib.specs.Streams.{Stream, opened}
use Rattle.lexdfa_lib.specs.declared.outcome.Outcome.{Outcome}

all_read : (now : Option (List ℕ)) (bytes input : List ℕ) → Consumes (Some input) now bytes → IsAtEnd now → bytes ≡ input
all_read None bytes input read end = absurd read
all_read (Some left) bytes input read end = sym (read ∙ (ap (λ (l : List ℕ). bytes ++ l) end ∙ append-nil bytes))

all_taken : (now : Option (List ℕ)) (lines out : List ℕ) → Appends (Some []) now lines → Some out ≡ now → lines ≡ out
all_taken None lines out taken is = absurd taken
all_taken (Some held) lines out taken is = cc (taken, is)

in_memory : (Are : List ℕ → Outcome → List ℕ → Type 0) (left_now held_now : Stream) (input out : List ℕ) (outcome : Outcome)
    → Answers Are (opened (Some input) false) left_now (opened (Some []) false) held_now outcome → opened (Some out) false ≡ held_now → Are input outcome out
in_memory Are left_now held_now input out outcome (bytes, (reads, (lines, (are, takes)))) given =
    subst (λ (l : List ℕ). Are l outcome out) (all_read left_now.bytes bytes input reads.0 reads.1.1.1)
    (subst (λ (l : List ℕ). Are bytes outcome l) (all_taken held_now.bytes lines out takes.1 (ap (λ (s : Stream). s.bytes) given)) are)

pub exact : (Are : List ℕ → Outcome → List ℕ → Type 0) (left left_now held held_now : Stream) (input begun out : List ℕ) (outcome : Outcome)
    → left ≡ opened (Some input) false → held ≡ opened (Some begun) false → begun ≡ [] → Answers Are left left_now held held_now outcome
    → opened (Some out) false ≡ held_now → Are input outcome out
exact Are left left_now held held_now input begun out outcome reader writer none answers given =
    let empty = writer ∙ ap (λ (l : List ℕ). opened (Some l) false) none in
    in_memory Are left_now held_now input out outcome
    (subst (λ (s : Stream). Answers Are s left_now (opened (Some []) false) held_now outcome) reader (subst (λ (s : Stream). Answers Are left left_now s held_now outcome) empty answers))
    given
