-- Pieces that are the same are as many, shifted or not; and what a piece that reaches a place reads.
use Rattle.std.proofs.Common.{◌≡◌, ℕ, ◌+◌, ◌≤◌, List, [], ◌∷◌, length, drop, suc, inl, inr, ◌<◌, refl, ap, ◌∙◌, sym, arith}
use Rattle.std.proofs.lemmas.List.{length-drop}
use Rattle.lalrpop_hir.specs.Tree.{Tree}
use Rattle.lalrpop_rules.specs.Pieces.{AreSame, slice_of, start_of}
use Rattle.lalrpop_rules.specs.declared.piece.Piece.{Piece}
use Rattle.lalrpop_rules.specs.declared.piece.Piece.TheVariants.{Token, Skipped, Fault}
use Rattle.bajofeki.specs.Lexed.{IsChangeOf, ReadsTo, Reaches, placed_from}
use Rattle.bajofeki.specs.declared.change.Change.{Change}

same_length : (xs ys : List Piece) → AreSame xs ys → length xs ≡ length ys
same_length [] [] are = refl
same_length [] (y ∷ ys) are = absurd are
same_length (x ∷ xs) [] are = absurd are
same_length (x ∷ xs) (y ∷ ys) are = ap suc (same_length xs ys are.1)

placed_length : (at : ℕ) (xs : List Piece) → length (placed_from at xs) ≡ length xs
placed_length at [] = refl
placed_length at (x ∷ xs) = ap suc (placed_length (at + length (slice_of x)) xs)

-- as many more as came, as many fewer as are gone
pub counts_of : (xs ys : List Piece) (c : Change) → IsChangeOf xs ys c → length ys + c.removed ≡ length xs + c.inserted
counts_of xs ys c is =
    let old = drop (c.first + c.removed) xs in
    let new = drop (c.first + c.inserted) ys in
    let as_many : length old ≡ length new = sym (placed_length c.new_end old) ∙ same_length (placed_from c.new_end old) new is.behind in
    let fits = is.removed in
    let fits_too = is.inserted in
    omega (arith, as_many, length-drop (c.first + c.removed) xs, length-drop (c.first + c.inserted) ys, fits, fits_too)

-- a piece that reaches a place after its end reads up to there
pub reads_on : (ts : List Tree) (text : List ℕ) (place : ℕ) (x : Piece) → Reaches ts text place x → start_of x + length (slice_of x) < place
    → (at : ℕ) × ((start_of x ≤ at) × (at ≤ start_of x + length (slice_of x)) × ReadsTo ts text at place)
reads_on ts text place (Token token) (inl within) later = absurd (omega (arith, within, later))
reads_on ts text place (Token token) (inr reads) later = (token.start, (omega arith, omega arith, reads))
reads_on ts text place (Skipped token) (inl within) later = absurd (omega (arith, within, later))
reads_on ts text place (Skipped token) (inr reads) later = (token.start, (omega arith, omega arith, reads))
reads_on ts text place (Fault at slice) (inl within) later = absurd (omega (arith, within, later))
reads_on ts text place (Fault at slice) (inr (k, reads)) later = (k, (reads.0, reads.1, reads.3))
