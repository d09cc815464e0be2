-- cases: proofs/Cases/Listings.antt
-- What is listed of a file of rules.
use Rattle.std.specs.Prelude.{ℕ, List}
use Rattle.bajofeki_rules.specs.declared.mode_rule.ModeRule.{ModeRule}
use Rattle.reports_lib.specs.Answer.{Answer, remark}
use Rattle.lexdfa_lib.specs.declared.layout.LineForm.{LineForm}
use Rattle.lexdfa_lib.specs.declared.layout.LineForm.TheVariants.{Plain}
use Rattle.reviews_lib.specs.Checked.{CheckAnswer, finding}
use Rattle.reports_lib.specs.NamedRules.{ClashesAnswer}
use Rattle.reviews_lib.specs.declared.listing.Listing.{Listing}
use Rattle.reviews_lib.specs.declared.listing.Listing.TheVariants.{Clashes, Review}

-- what is answered for the rules
abbrev pub ListingAnswer : Listing → List ℕ → List (List ℕ) → List (List ℕ) → List ModeRule → Answer → Type 0
ListingAnswer Clashes file ls modes rs answer = ClashesAnswer file ls modes rs answer
ListingAnswer (Review form) file ls modes rs answer = CheckAnswer form file ls modes rs answer

-- the form of what is said of the file
abbrev pub form_of : Listing → LineForm
form_of Clashes = Plain
form_of (Review form) = form

-- what is answered for it: in a review it counts as something that was found
abbrev pub told_first : Listing → List ℕ → Answer
told_first Clashes said = remark said
told_first (Review form) said = finding form said
