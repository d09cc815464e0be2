-- Cases of specs/Places.antt.
use Rattle.std.proofs.Common.{◌≡◌, ℕ, List, [], length, codes, refl, ap, arith, length-append}
use Rattle.std.proofs.lemmas.Bool.{eqb-false}
use Rattle.bajofeki.specs.Places.{EachBegins, EachEnds}
use Rattle.bajofeki.proofs.PlaceLaws.{begins_append, begins_nowhere, begins_whole}

-- `(` begins `()`, and `)` ends it
abbrev IsPair : List ℕ → Type 0
IsPair part = part ≡ codes "()"

a_pair : EachBegins 40 IsPair (codes "a()")
a_pair =
    begins_append 40 IsPair (codes "a") (codes "()") (begins_nowhere 40 IsPair (codes "a") (eqb-false 97 40 refl, tt))
    (begins_whole 40 40 IsPair (codes ")") refl (eqb-false 41 40 refl, tt))

opened_alone : ¬ EachBegins 40 IsPair (codes "a(")
opened_alone each =
    let found = each (codes "a") [] refl in
    omega (arith, ap length found.1.1.0, ap length found.1.1.1, length-append found.0 found.1.0)

closed_alone : ¬ EachEnds 41 IsPair (codes ")")
closed_alone each =
    let found = each [] [] refl in
    omega (arith, ap length found.1.1.0, ap length found.1.1.1, length-append found.0 found.1.0)
