-- Cases of specs/Checked.antt.
use Rattle.std.proofs.Common.{◌≡◌, ℕ, true, false, List, [], ◌∷◌, codes, refl, ap}
use Rattle.lalrpop_hir.specs.Clashes.{Entry}
use Rattle.bajofeki_rules.specs.declared.position.Position.{Position}
use Rattle.bajofeki_rules.specs.declared.mode_rule.ModeRule.{ModeRule}
use Rattle.lalrpop_review.specs.declared.whole.Review.{Review}
use Rattle.reports_lib.specs.Answer.{Answer, silence}
use Rattle.reviews_lib.specs.ReviewLines.{has_findings}
use Rattle.lexdfa_lib.specs.declared.layout.LineForm.{LineForm}
use Rattle.lexdfa_lib.specs.declared.layout.LineForm.TheVariants.{Plain, Json}
use Rattle.reviews_lib.specs.Checked.{finding, clashes_answer, review_answer, ReviewTold}

-- what is said counts, and so does what is written; nothing said is nothing found
said_or_not : ((finding Plain (codes "a")).status ≡ 1) × ((finding Plain (codes "a")).err ≡ codes "a") × ((finding Plain (codes "a")).out ≡ []) × (finding Plain [] ≡ silence)
said_or_not = (refl, refl, refl, refl)

written_or_not : ((finding Json (codes "a")).status ≡ 1) × ((finding Json (codes "a")).out ≡ codes "a") × ((finding Json (codes "a")).err ≡ []) × (finding Json [] ≡ silence)
written_or_not = (refl, refl, refl, refl)

-- clashes have status 2
clashes_count : (form : LineForm) (file : List ℕ) (modes names : List (List ℕ)) (places : List Position) (c : Entry)
    → (clashes_answer form file modes names places ([] ∷ (c ∷ []) ∷ [])).status ≡ 2
clashes_count form file modes names places c = refl

-- a review that finds something has status 1, and another one 0
found : (form : LineForm) (file : List ℕ) (modes names : List (List ℕ)) (places : List Position) (review : Review) → has_findings review ≡ true
    → (review_answer form file modes names places review).status ≡ 1
found form file modes names places review some = rw some refl

nothing_found : (form : LineForm) (file : List ℕ) (modes names : List (List ℕ)) (places : List Position) (review : Review) → has_findings review ≡ false
    → (review_answer form file modes names places review).status ≡ 0
nothing_found form file modes names places review none = rw none refl

-- a review says nothing on standard error
no_error : (form : LineForm) (file : List ℕ) (modes : List (List ℕ)) (rs : List ModeRule) (places : List Position) (answer : Answer)
    → ReviewTold form file modes rs places answer → answer.err ≡ []
no_error form file modes rs places answer (r, (review, (is, (reviews, e)))) = ap (λ (a : Answer). a.err) e
