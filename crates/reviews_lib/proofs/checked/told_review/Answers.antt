use Rattle.std.proofs.Common.{◌≡◌, ◌∙◌, ℕ, Bool, List, [], ap, if◌then◌else◌}
use Rattle.reports_lib.specs.Answer.{Answer}
use Rattle.reviews_lib.proofs.checked.told_review.Goals as goal

abbrev answer_of : ℕ → List ℕ → Answer
answer_of status out = record { status = status; out = out; err = [] }

same_answer : (s t : ℕ) (o p : List ℕ) → s ≡ t → o ≡ p → answer_of s o ≡ answer_of t p
same_answer s t o p status out = ap (λ (n : ℕ). answer_of n o) status ∙ ap (λ (x : List ℕ). answer_of t x) out

pub returns : goal.returns
returns c =
    let status = c.review_status-status.ensures ∙ ap (λ (b : Bool). if b then 1 else 0) c.has_findings.ensures.findings in
    let text = rw (c.deref.ensures.value, c.deref-2.ensures.value, c.deref-3.ensures.value) at c.in_ok-text.ensures.text in
    (c.in_ok-found.found, (c.in_ok-found.ensures.review, c.written.ensures.written ∙ same_answer _ _ _ _ status text))
