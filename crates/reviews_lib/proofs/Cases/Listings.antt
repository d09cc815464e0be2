-- Cases of specs/Listings.antt.
use Rattle.std.proofs.Common.{◌≡◌, refl, codes}
use Rattle.lexdfa_lib.specs.declared.layout.LineForm.TheVariants.{Plain, Json}
use Rattle.reviews_lib.specs.Listings.{form_of, told_first}
use Rattle.reviews_lib.specs.declared.listing.Listing.TheVariants.{Clashes, Review}

-- clashes are told in plain lines
forms : (form_of Clashes ≡ Plain) × (form_of (Review Json) ≡ Json)
forms = (refl, refl)

-- a warning is a finding of a review, and nothing wrong where clashes are listed
statuses : ((told_first Clashes (codes "a")).status ≡ 0) × ((told_first (Review Plain) (codes "a")).status ≡ 1)
statuses = (refl, refl)
