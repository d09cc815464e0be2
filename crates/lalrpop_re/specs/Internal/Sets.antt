-- What the steps of folding and of named sets promise each other.
use Rattle.std.specs.Prelude.{◌≡◌, ◌≢◌, ℕ, true, false, List, [], ◌∷◌, Option, Some, None, bytes_eq}
use Rattle.unicode.specs.CaseFolding.{simple_fold}
use Rattle.unicode.specs.Rows.{AreRanges, HasExactly}
use Rattle.lalrpop_hir.specs.Range.{Range, Covered}
use Rattle.lalrpop_hir.specs.Runs.{IsScalar}
use Rattle.lalrpop_re.specs.declared.posix.PosixClass.{PosixClass}
use Rattle.lalrpop_re.specs.CharacterSet.{Set}

-- a scalar value that has the same simple case folding as another one
abbrev pub AreAlike : ℕ → ℕ → Type 0
AreAlike d c = IsScalar d × (d ≢ c) × (simple_fold d ≡ simple_fold c)

-- the ranges cover some other scalar value that folds like c
abbrev pub HasPartner : List Range → ℕ → Type 0
HasPartner rs c = (d : ℕ) × Covered rs d × AreAlike d c

-- the set that is found has the ranges of the first class with the name; if no class has the name, none is found
abbrev pub IsFound : List ℕ → List PosixClass → Option Set → Type 0
IsFound name [] found = found ≡ None
IsFound name (p ∷ ps) found =
    (bytes_eq name p.name.now ≡ true → (s : Set) × (found ≡ Some s) × AreRanges p.ranges.now × HasExactly p.ranges.now s)
    × (bytes_eq name p.name.now ≡ false → IsFound name ps found)
