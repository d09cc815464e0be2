-- cases: proofs/Cases/CharacterSet.antt
-- Sets of scalar values, folding, and the class of a set.
use Rattle.std.specs.Prelude.{◌≡◌, ℕ, zero, suc, Bool, true, false, not, ◌&&◌, ◌||◌, ◌==◌, List, [], ◌∷◌, if◌then◌else◌, codes}
use Rattle.std.specs.Int.{is_in_range}
use Rattle.std.specs.List.{list_any}
use Prim.Native.String.{String}
use Rattle.unicode.specs.CaseFolding.{simple_fold}
use Rattle.lalrpop_hir.specs.Range.{Range}
use Rattle.lalrpop_hir.specs.Runs.{next_scalar, IsCanon}
use Rattle.lalrpop_hir.specs.Tree.{Tree, class, unicode}

abbrev pub is_scalar : ℕ → Bool
is_scalar c = is_in_range 0 0xD7FF c || is_in_range 0xE000 0x10_FFFF c

-- A set is its membership test. Only what it says of scalar values counts.
abbrev pub Set : Type 0
Set = ℕ → Bool

abbrev pub nothing : Set
nothing c = false

abbrev pub just : ℕ → Set
just d c = c == d

-- these characters
abbrev pub is_one_of : String → Set
is_one_of s c = list_any (λ d. d == c) (codes s)

abbrev pub range : ℕ → ℕ → Set
range low high c = is_scalar c && is_in_range low high c

abbrev pub union : Set → Set → Set
union s t c = s c || t c

abbrev pub union_all : List Set → Set
union_all [] = nothing
union_all (s ∷ ss) = union s (union_all ss)

-- all scalar values that are not members
abbrev pub complement : Set → Set
complement s c = is_scalar c && not (s c)

-- some scalar value below n passes the test
unfoldable pub some_below : ℕ → (ℕ → Bool) → Bool
some_below zero test = false
some_below (suc n) test = (is_scalar n && test n) || some_below n test

-- all scalar values that share a simple case folding with a member
unfoldable pub fold : Set → Set
fold s c = is_scalar c && some_below 0x11_0000 (λ d. s d && (simple_fold d == simple_fold c))

-- ---- the maximal runs of a set

-- the runs of a set with the member c, which lies below all of them; U+D7FF and U+E000 are neighbours
abbrev pub with_least : ℕ → List Range → List Range
with_least c [] = record { start = c; end = c } ∷ []
with_least c (r ∷ rs) =
    if next_scalar c == r.start then record { start = c; end = r.end } ∷ rs
    else record { start = c; end = c } ∷ r ∷ rs

-- the runs of the members below n, put before the given runs
unfoldable pub runs_below : ℕ → Set → List Range → List Range
runs_below zero s above = above
runs_below (suc n) s above = runs_below n s (if is_scalar n && s n then with_least n above else above)

-- the ascending list of the maximal runs of the scalar values in the set
unfoldable pub canon : Set → List Range
canon s = runs_below 0x11_0000 s []

-- the tree that matches one member of the set
abbrev pub set_tree : Set → Tree
set_tree s = class (unicode (canon s))

-- ---- the ranges of a class

-- membership, as a statement
abbrev pub Members : Set → ℕ → Type 0
Members s c = s c ≡ true

-- the ranges are the maximal runs of the set
abbrev pub HasRuns : List Range → Set → Type 0
HasRuns rs s = IsCanon (Members s) rs
