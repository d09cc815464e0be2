-- The pieces of a text that a loop goes over: all of them, and no error.
use Rattle.std.proofs.Common.{◌≡◌, List, [], ◌∷◌, ◌++◌, map, false, inl, inr, refl, subst}
use Rattle.std.proofs.iter.Next.{Yields-more}
use Rattle.std.proofs.lemmas.List.{map-append}
use Rattle.std.specs.Prelude.{Option, Some, None, Result, Ok}
use Rattle.std.specs.Iterator.{Yields}
use Rattle.std.specs.declared.alloc.AllocError.{AllocError}
use Rattle.lalrpop_rules.specs.declared.piece.Piece.{Piece}
use Rattle.lalrpop_rules.specs.ModeCut.{ModeCut, left_text, GivesModePiece, GivesPieceOrError}

-- one piece more
pub piece_more : (s t u : ModeCut) (o : Option (Result Piece AllocError)) (piece : Result Piece AllocError) (xs : List Piece) (x : Piece)
    → Yields GivesPieceOrError s (map Ok xs) t → o ≡ Some piece → GivesPieceOrError t o u → piece ≡ Ok x → Yields GivesPieceOrError s (map Ok (xs ++ x ∷ [])) u
piece_more s t u o piece xs x y is gives ok =
    let longer : Yields GivesPieceOrError s (map Ok xs ++ piece ∷ []) u =
    Yields-more GivesPieceOrError s (map Ok xs) t piece u y (subst (λ (p : Option (Result Piece AllocError)). GivesPieceOrError t p u) is gives) in
    let same : map Ok xs ++ piece ∷ [] ≡ map Ok (xs ++ x ∷ []) = rw (ok, map-append) refl in
    subst (λ (ys : List (Result Piece AllocError)). Yields GivesPieceOrError s ys u) same longer

-- no piece after those that there are
pub all_pieces : (s r t u : ModeCut) (o : Option (Result Piece AllocError)) (xs : List Piece) → r ≡ s → Yields GivesPieceOrError r (map Ok xs) t → o ≡ None
    → GivesPieceOrError t o u
    → ((ys : List Piece) (w : ModeCut) → Yields GivesPieceOrError s (map Ok ys) w → Yields GivesModePiece s ys w × (w.is_over ≡ false))
    → Yields GivesModePiece s xs t × (left_text t ≡ [])
all_pieces s r t u o xs same y is gives next =
    let given = next xs t (subst (λ (w : ModeCut). Yields GivesPieceOrError w (map Ok xs) t) same y) in
    let end = subst (λ (p : Option (Result Piece AllocError)). GivesPieceOrError t p u) is gives in
    (given.0, elim end.1 [ inl over ↦ cc (over, given.1) | inr none ↦ none ])
