-- cases: proofs/Cases/Pieces.antt
-- The pieces of a text that is cut to its end.
use Rattle.std.specs.Prelude.{◌≡◌, ◌≢◌, ℕ, ◌⊎◌, Bool, true, List, [], ◌∷◌, ◌++◌, length, drop, slice_get, Option, Some, None, Result, Ok, Err}
use Rattle.lalrpop_hir.specs.Tree.{Tree}
use Rattle.lalrpop_hir.specs.Chain.{Chain, AtEnd}
use Rattle.lalrpop_hir.specs.Tokens.{IsToken}
use Rattle.lalrpop_lexer.specs.SameTokens.{IsSameToken}
use Rattle.lalrpop_hir.specs.declared.token.Token.{Token as Cut}
use Rattle.lalrpop_hir.specs.declared.token.TokenFault.{TokenFault}
use Rattle.lalrpop_rules.specs.Found.{MatchesAt, NoMatchBefore}
use Rattle.lalrpop_rules.specs.declared.piece.Piece.{Piece}
use Rattle.lalrpop_rules.specs.declared.piece.Piece.TheVariants.{Token, Skipped, Fault}

-- the piece of the text
abbrev pub slice_of : Piece → List ℕ
slice_of (Token token) = token.slice.now
slice_of (Skipped token) = token.slice.now
slice_of (Fault start slice) = slice.now

-- where it begins
abbrev pub start_of : Piece → ℕ
start_of (Token token) = token.start
start_of (Skipped token) = token.start
start_of (Fault start slice) = start

-- the pattern with this index is skipped
abbrev pub IsSkipped : List Bool → ℕ → Type 0
IsSkipped skips i = slice_get skips i ≡ Some true

-- a fault at the front of a text, which needn't be UTF-8: one or more bytes at none of which a tree matches; after them the text ends,
-- or some tree matches
pub record IsFault (ts : List Tree) (text slice : List ℕ) : Type 0 where
  pub front : (rest : List ℕ) × (text ≡ slice ++ rest)
  pub some : slice ≢ []
  pub nothing : NoMatchBefore ts text (length slice)
  pub ends : (slice ≡ text) ⊎ MatchesAt ts text (length slice)

-- the piece of the text at this place: a token, which is skipped or not, or a fault
abbrev pub IsPiece : List Tree → List ℕ → List Bool → List ℕ → ℕ → Piece → Type 0
IsPiece ts ps skips text at (Token token) = IsToken ts ps text at token × ¬ IsSkipped skips token.index
IsPiece ts ps skips text at (Skipped token) = IsToken ts ps text at token × IsSkipped skips token.index
IsPiece ts ps skips text at (Fault start slice) = (start ≡ at) × IsFault ts (drop at text) slice.now

-- all pieces of the text from a place on, one after another up to its end
abbrev pub ArePieces : List Tree → List ℕ → List Bool → List ℕ → ℕ → List Piece → Type 0
ArePieces ts ps skips text = Chain (λ x. length (slice_of x)) (IsPiece ts ps skips text) (AtEnd text)

-- the text of the pieces, one after another
abbrev pub joined : List Piece → List ℕ
joined [] = []
joined (x ∷ xs) = slice_of x ++ joined xs

-- no fault comes right after another
abbrev pub AreApart : List Piece → Type 0
AreApart [] = Unit {0}
AreApart (Fault start slice ∷ Fault start2 slice2 ∷ xs) = ⊥
AreApart (x ∷ xs) = AreApart xs

-- the tokens, skipped or not, up to the first fault, which ends them
abbrev pub up_to_fault : List Piece → List (Result Cut TokenFault)
up_to_fault [] = []
up_to_fault (Token token ∷ xs) = Ok token ∷ up_to_fault xs
up_to_fault (Skipped token ∷ xs) = Ok token ∷ up_to_fault xs
up_to_fault (Fault start slice ∷ xs) = Err (record { at = start }) ∷ []

-- the first token, skipped or not
abbrev pub first_token : List Piece → Option Cut
first_token [] = None
first_token (Token token ∷ xs) = Some token
first_token (Skipped token ∷ xs) = Some token
first_token (Fault start slice ∷ xs) = first_token xs

-- equal pieces: of one kind, by one pattern, at one place, with the same bytes
abbrev pub IsSame : Piece → Piece → Type 0
IsSame (Token a) (Token b) = IsSameToken a b
IsSame (Skipped a) (Skipped b) = IsSameToken a b
IsSame (Fault start slice) (Fault start2 slice2) = (start ≡ start2) × (slice.now ≡ slice2.now)
IsSame _ _ = ⊥

-- equal lists of pieces
abbrev pub AreSame : List Piece → List Piece → Type 0
AreSame [] [] = Unit {0}
AreSame (x ∷ xs) (y ∷ ys) = IsSame x y × AreSame xs ys
AreSame _ _ = ⊥
