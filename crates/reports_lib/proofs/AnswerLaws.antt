-- One answer after another.
use Rattle.std.proofs.Common.{◌≡◌, ℕ, List, ◌++◌, refl, ap, ◌∙◌, append_assoc, arith}
use Rattle.std.proofs.lemmas.List.{append-nil}
use Rattle.reports_lib.specs.Answer.{Answer, silence, followed}

abbrev answer_of : ℕ → List ℕ → List ℕ → Answer
answer_of status out err = record { status = status; out = out; err = err }

same_answer : (a b : Answer) → a.status ≡ b.status → a.out ≡ b.out → a.err ≡ b.err → a ≡ b
same_answer a b s o e =
    ap (λ (n : ℕ). answer_of n a.out a.err) s ∙ ap (λ (x : List ℕ). answer_of b.status x a.err) o ∙ ap (λ (x : List ℕ). answer_of b.status b.out x) e

pub followed-assoc : (a b c : Answer) → followed (followed a b) c ≡ followed a (followed b c)
followed-assoc a b c =
    same_answer (followed (followed a b) c) (followed a (followed b c)) (omega arith) (append_assoc a.out b.out c.out) (append_assoc a.err b.err c.err)

pub followed-silence : (a : Answer) → followed a silence ≡ a
followed-silence a = same_answer (followed a silence) a (omega arith) (append-nil a.out) (append-nil a.err)

pub silence-followed : (a : Answer) → followed silence a ≡ a
silence-followed a = same_answer (followed silence a) a (omega arith) refl refl

-- one answer, and then one of these
abbrev pub Then : Answer → (Answer → Type 0) → Answer → Type 0
Then first Is answer = (own : Answer) × (Is own × (answer ≡ followed first own))
