-- cases: proofs/Cases/Neighbours.antt
-- Which tokens may stand side by side, and texts in which a separator parts the others.
use Rattle.std.specs.Prelude.{◌≡◌, ℕ, ◌+◌, ◌⊎◌, List, [], ◌∷◌, ◌++◌, length, Some, Result, Ok}
use Rattle.std.specs.Str.{chars}
use Rattle.lalrpop_hir.specs.Language.{Words}
use Rattle.lalrpop_hir.specs.Longest.{IsLongest}
use Rattle.lalrpop_hir.specs.Tree.{Tree}
use Rattle.lalrpop_hir.specs.Winners.{IsOnlyStrongest, Matched}
use Rattle.lalrpop_hir.specs.declared.token.Token.{Token}
use Rattle.lalrpop_hir.specs.declared.token.TokenFault.{TokenFault}
use Rattle.lalrpop_dfa.specs.Follow.{RunsOn}

-- the words of which the tree i is the only strongest one
abbrev pub WordsOf : List Tree → List ℕ → ℕ → Words
WordsOf ts ps i w = IsOnlyStrongest ts ps w i

-- a token of the tree j may stand right after one of the tree i: no match begins with the one and the first character of the other
abbrev pub CanFollow : List Tree → List ℕ → ℕ → ℕ → Type 0
CanFollow ts ps i j = ¬ RunsOn (Matched ts) (WordsOf ts ps i) (WordsOf ts ps j)

-- tokens, each as the index of a tree and a text; each may follow the one before it
abbrev pub AllFollow : List Tree → List ℕ → List (ℕ × List ℕ) → Type 0
AllFollow ts ps [] = Unit {0}
AllFollow ts ps (x ∷ []) = Unit {0}
AllFollow ts ps (x ∷ y ∷ xs) = CanFollow ts ps x.0 y.0 × AllFollow ts ps (y ∷ xs)

-- the tokens in order, with the separator between those that may not stand side by side
abbrev pub IsParted : List Tree → List ℕ → ℕ × List ℕ → List (ℕ × List ℕ) → List (ℕ × List ℕ) → Type 0
IsParted ts ps sep [] ys = ys ≡ []
IsParted ts ps sep (x ∷ []) ys = ys ≡ x ∷ []
IsParted ts ps sep (x ∷ y ∷ xs) ys =
    (zs : List (ℕ × List ℕ)) × (IsParted ts ps sep (y ∷ xs) zs
    × ((CanFollow ts ps x.0 y.0 × (ys ≡ x ∷ zs)) ⊎ ((¬ CanFollow ts ps x.0 y.0) × (ys ≡ x ∷ sep ∷ zs))))

-- the texts of the tokens, one after another
abbrev pub text_of : List (ℕ × List ℕ) → List ℕ
text_of [] = []
text_of (x ∷ xs) = x.1 ++ text_of xs

-- the text of the token, when it is cut alone, is just this token
abbrev pub IsWhole : List Tree → List ℕ → ℕ × List ℕ → Type 0
IsWhole ts ps x = IsLongest ts ps x.1 (Some x) × IsOnlyStrongest ts ps (chars x.1) x.0

-- the separator may stand between the two tokens
abbrev pub CanPart : List Tree → List ℕ → ℕ × List ℕ → ℕ × List ℕ → ℕ × List ℕ → Type 0
CanPart ts ps sep x y = CanFollow ts ps x.0 sep.0 × CanFollow ts ps sep.0 y.0

-- between each two neighbours that may not stand side by side the separator may stand
abbrev pub CanPartAll : List Tree → List ℕ → ℕ × List ℕ → List (ℕ × List ℕ) → Type 0
CanPartAll ts ps sep [] = Unit {0}
CanPartAll ts ps sep (x ∷ []) = Unit {0}
CanPartAll ts ps sep (x ∷ y ∷ xs) =
    ((¬ CanFollow ts ps x.0 y.0) → CanPart ts ps sep x y) × CanPartAll ts ps sep (y ∷ xs)

-- the tokens as they stand in a text from a place on, one right after another. Where the bytes of their slices lie is left open: no
-- definition of tokens depends on it
abbrev pub placed : ℕ → List (ℕ × List ℕ) → List (Result Token TokenFault)
placed at [] = []
placed at (x ∷ xs) =
    Ok (record { index = x.0; slice = record { ref_ptr = (0, 0); now = x.1 }; start = at }) ∷ placed (at + length x.1) xs
