-- The pieces of a text are unique.
use Rattle.std.proofs.Common.{◌≡◌, ◌≢◌, ℕ, ◌+◌, ◌<◌, ◌⊎◌, Bool, inl, inr, List, [], ◌∷◌, ◌++◌, length, take, drop, arith, sym, ap, subst, ◌∙◌, length-append}
use Rattle.std.proofs.Math.Seq.{take-append_seam}
use Rattle.std.proofs.lemmas.Bool.{cases_order}
use Rattle.lalrpop_hir.specs.Tree.{Tree}
use Rattle.lalrpop_hir.specs.Tokens.{IsToken}
use Rattle.lalrpop_hir.specs.declared.token.Token.{Token as Cut}
use Rattle.lalrpop_lexer.proofs.UniqueTokens.{token-unique}
use Rattle.lalrpop_rules.specs.Pieces.{IsFault, IsPiece, ArePieces, IsSkipped, IsSame, AreSame, slice_of}
use Rattle.lalrpop_rules.specs.declared.piece.Piece.{Piece}
use Rattle.lalrpop_rules.specs.declared.piece.Piece.TheVariants.{Token, Skipped, Fault}
use Rattle.lalrpop_rules.proofs.FirstMatches.{some_length}
use Rattle.lalrpop_rules.proofs.PieceLaws.{is_split, is_some, rest_some}

-- two beginnings of one length are equal
same_front : (p q text : List ℕ) → (rest : List ℕ) × (text ≡ p ++ rest) → (rest : List ℕ) × (text ≡ q ++ rest) → length p ≡ length q → p ≡ q
same_front p q text h g e =
    sym (take-append_seam p h.0) ∙ ap (take (length p)) (sym h.1) ∙ ap (λ n. take n text) e ∙ ap (take (length q)) g.1 ∙ take-append_seam q g.0

-- a fault doesn't reach beyond the end of another
no_longer : (ts : List Tree) (text p q : List ℕ) → IsFault ts text p → IsFault ts text q → ¬ (length p < length q)
no_longer ts text p q first second longer = elim first.ends [
  | inl whole ↦ omega (arith, longer, ap length whole, ap length second.front.1, length-append q second.front.0)
  | inr match ↦ second.nothing (length p) longer match
]

pub same_fault : (ts : List Tree) (text p q : List ℕ) → IsFault ts text p → IsFault ts text q → p ≡ q
same_fault ts text p q first second = same_front p q text first.front second.front (by_order (cases_order (length p) (length q)))
  where
    by_order : (length p ≡ length q) ⊎ ((length p < length q) ⊎ (length q < length p)) → length p ≡ length q
    by_order (inl same) = same
    by_order (inr (inl less)) = absurd (no_longer ts text p q first second less)
    by_order (inr (inr more)) = absurd (no_longer ts text q p second first more)

-- where a token is, no fault is
no_fault : (ts : List Tree) (ps text : List ℕ) (at : ℕ) (a : Cut) (slice : List ℕ) → IsToken ts ps text at a → ¬ IsFault ts (drop at text) slice
no_fault ts ps text at a slice is fault = fault.nothing 0 (some_length slice fault.some) (a.slice.now, is.1.0)

pub same_piece : (ts : List Tree) (ps : List ℕ) (skips : List Bool) (text : List ℕ) (at : ℕ) (x y : Piece) → IsPiece ts ps skips text at x
    → IsPiece ts ps skips text at y → IsSame x y
same_piece ts ps skips text at (Token a) (Token b) is too = token-unique ts ps text at a b is.0 too.0
same_piece ts ps skips text at (Token a) (Skipped b) is too =
    absurd (is.1 (subst (λ (i : ℕ). IsSkipped skips i) (sym (token-unique ts ps text at a b is.0 too.0).0) too.1))
same_piece ts ps skips text at (Token a) (Fault start slice) is too = absurd (no_fault ts ps text at a slice.now is.0 too.1)
same_piece ts ps skips text at (Skipped a) (Token b) is too =
    absurd (too.1 (subst (λ (i : ℕ). IsSkipped skips i) (token-unique ts ps text at a b is.0 too.0).0 is.1))
same_piece ts ps skips text at (Skipped a) (Skipped b) is too = token-unique ts ps text at a b is.0 too.0
same_piece ts ps skips text at (Skipped a) (Fault start slice) is too = absurd (no_fault ts ps text at a slice.now is.0 too.1)
same_piece ts ps skips text at (Fault start slice) (Token b) is too = absurd (no_fault ts ps text at b slice.now too.0 is.1)
same_piece ts ps skips text at (Fault start slice) (Skipped b) is too = absurd (no_fault ts ps text at b slice.now too.0 is.1)
same_piece ts ps skips text at (Fault start slice) (Fault start2 slice2) is too =
    (is.0 ∙ sym too.0, same_fault ts (drop at text) slice.now slice2.now is.1 too.1)

-- the same pieces have the same bytes
pub same_slice : (x y : Piece) → IsSame x y → slice_of x ≡ slice_of y
same_slice (Token a) (Token b) same = same.2
same_slice (Token a) (Skipped b) same = absurd same
same_slice (Token a) (Fault start slice) same = absurd same
same_slice (Skipped a) (Token b) same = absurd same
same_slice (Skipped a) (Skipped b) same = same.2
same_slice (Skipped a) (Fault start slice) same = absurd same
same_slice (Fault start slice) (Token b) same = absurd same
same_slice (Fault start slice) (Skipped b) same = absurd same
same_slice (Fault start slice) (Fault start2 slice2) same = same.1

pub no_piece_left : (ts : List Tree) (ps : List ℕ) (skips : List Bool) (text : List ℕ) (at : ℕ) (x : Piece) → IsPiece ts ps skips text at x
    → drop at text ≢ []
no_piece_left ts ps skips text at x is =
    rest_some (slice_of x) (drop at text) (is_split ts ps skips text at x is) (is_some ts ps skips text at x is)

-- the pieces of a text are unique
pub pieces-unique : (ts : List Tree) (ps : List ℕ) (skips : List Bool) (text : List ℕ) (at : ℕ) (xs ys : List Piece)
    → ArePieces ts ps skips text at xs → ArePieces ts ps skips text at ys → AreSame xs ys
pieces-unique ts ps skips text at [] [] are too = tt
pieces-unique ts ps skips text at [] (y ∷ ys) are too = absurd (no_piece_left ts ps skips text at y too.0 are)
pieces-unique ts ps skips text at (x ∷ xs) [] are too = absurd (no_piece_left ts ps skips text at x are.0 too)
pieces-unique ts ps skips text at (x ∷ xs) (y ∷ ys) are too =
    let same = same_piece ts ps skips text at x y are.0 too.0 in
    let behind = ap (λ (p : List ℕ). at + length p) (same_slice x y same) in
    let later = subst (λ (n : ℕ). ArePieces ts ps skips text n xs) behind are.1 in
    (same, pieces-unique ts ps skips text (at + length (slice_of y)) xs ys later too.1)
