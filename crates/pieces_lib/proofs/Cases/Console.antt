-- Cases of specs/Console.antt.
use Rattle.std.proofs.Common.{◌≡◌, List, ℕ, [], inl, Some, codes, false, refl, arith}
use Rattle.lexdfa_lib.specs.Streams.{opened}
use Rattle.lexdfa_lib.specs.declared.error.RunError.TheVariants.{OutOfMemory}
use Rattle.reports_lib.specs.Answer.{refusal, silence}
use Rattle.pieces_lib.specs.Console.{Console, Answers, Fails}

-- standard output and standard error in memory
abbrev screen : List ℕ → List ℕ → Console
screen out err = record { out = opened (Some out) false; err = opened (Some err) false }

-- a refusal is said, and nothing is written
refused : Answers (λ answer. answer ≡ refusal 3 (codes "no")) (screen [] []) 3 (screen [] (codes "no"))
refused = (refusal 3 (codes "no"), (refl, (refl, record { out = (refl, refl); err = (refl, refl) })))

-- with no other status
no_other_status : ¬ Answers (λ answer. answer ≡ refusal 3 (codes "no")) (screen [] []) 2 (screen [] (codes "no"))
no_other_status (answer, (is, (status, given))) = absurd (cc (is, status))

-- memory is refused before anything is given
fails_at_once : Fails (λ answer. ⊥) (screen [] []) OutOfMemory (screen [] [])
fails_at_once = (silence, (inl refl, ((refl, (0, omega arith, refl)), (0, omega arith, (refl, refl)))))
