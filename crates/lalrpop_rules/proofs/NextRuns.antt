-- What the calls of `next` give for a text that is cut by rules with modes.
use Rattle.std.proofs.Common.{◌≡◌, ◌≢◌, ℕ, ◌<◌, ◌≤◌, map, true, false, inl, inr, List, [], ◌∷◌, ◌++◌, length, arith, refl, sym, ap, subst, ◌∙◌}
use Rattle.std.proofs.iter.Next.{Yields-more}
use Rattle.std.proofs.lemmas.List.{map-append}
use Rattle.std.specs.Prelude.{Option, Some, None, Result, Ok}
use Rattle.std.specs.declared.alloc.AllocError.{AllocError}
use Rattle.std.specs.Iterator.{Yields}
use Rattle.std.specs.Str.{chars, IsUtf8}
use Rattle.lalrpop_lexer.proofs.Cuttings.{some_char}
use Rattle.lalrpop_rules.specs.Pieces.{slice_of}
use Rattle.lalrpop_rules.specs.declared.piece.Piece.{Piece}
use Rattle.lalrpop_rules.proofs.PieceLaws.{is_front, is_some, fewer_left, utf8_behind}
use Rattle.lalrpop_rules.specs.Modes.{ModeRules, trees_in}
use Rattle.lalrpop_rules.specs.ModeCut.{ModeCut, uncut, left_text, pieces_left, GivesModePiece, GivesPieceOrError}

-- ---- how many items are left

left_on : (s : ModeCut) → s.is_over ≡ false → pieces_left s ≡ length (chars (left_text s))
left_on s on = rw on

left_over : (s : ModeCut) → s.is_over ≡ true → pieces_left s ≡ 0
left_over s over = rw over

-- a piece leaves fewer characters
fewer_chars : (s t : ModeCut) (x : Piece) → IsUtf8 (left_text s) → GivesModePiece s (Some x) t
    → length (chars (left_text t)) < length (chars (left_text s))
fewer_chars s t x u g =
    let front = is_front (trees_in s.rules s.stack.mode) s.rules.precedences s.rules.skips s.text s.at x u g.0 in
    let some = is_some (trees_in s.rules s.stack.mode) s.rules.precedences s.rules.skips s.text s.at x g.0 in
    subst (λ (w : ModeCut). length (chars (left_text w)) < length (chars (left_text s))) (sym g.1) (fewer_left s.text s.at (slice_of x) u front some)

pub fewer_behind_piece : (s t : ModeCut) (x : Piece) → IsUtf8 (left_text s) → s.is_over ≡ false → GivesModePiece s (Some x) t → pieces_left t < pieces_left s
fewer_behind_piece s t x u on g =
    let still : t.is_over ≡ false = ap (λ (w : ModeCut). w.is_over) g.1 ∙ on in
    omega (arith, fewer_chars s t x u g, left_on s on, left_on t still)

-- none is left after an error
pub fewer_behind_error : (s : ModeCut) → IsUtf8 (left_text s) → s.is_over ≡ false → left_text s ≢ [] → pieces_left (record s { is_over = true }) < pieces_left s
fewer_behind_error s u on some = omega (arith, left_on s on, some_char (left_text s) u some)

-- there are no more pieces than characters
count_left : (s t : ModeCut) (xs : List Piece) → IsUtf8 (left_text s) → Yields GivesModePiece s xs t → length xs ≤ length (chars (left_text s))
count_left s t [] u y = omega arith
count_left s t (x ∷ xs) u (j, g, y) =
    let front = is_front (trees_in s.rules s.stack.mode) s.rules.precedences s.rules.skips s.text s.at x u g.0 in
    let later : IsUtf8 (left_text j) = subst (λ (w : ModeCut). IsUtf8 (left_text w)) (sym g.1) (utf8_behind s.text s.at (slice_of x) u front) in
    omega (arith, fewer_chars s j x u g, count_left j t xs later y)

pub count-from-first : (s : ModeCut) (r : ModeRules) (text : List ℕ) (most : ℕ) → s ≡ uncut r text most → IsUtf8 text → (xs : List Piece)
    (t : ModeCut) → Yields GivesModePiece s xs t → length xs ≤ length (chars text)
count-from-first s r text most e u xs t y =
    let rest : left_text s ≡ text = ap (λ (w : ModeCut). left_text w) e in
    subst (λ (p : List ℕ). length xs ≤ length (chars p)) rest (count_left s t xs (subst IsUtf8 (sym rest) u) y)

-- ---- without an error

-- the pieces of `next` are those of `next_piece`
pub pieces-of-next : (s t : ModeCut) (xs : List Piece) → s.is_over ≡ false → Yields GivesPieceOrError s (map Ok xs) t
    → Yields GivesModePiece s xs t × (t.is_over ≡ false)
pieces-of-next s t [] on y = (y, sym (ap (λ (w : ModeCut). w.is_over) y) ∙ on)
pieces-of-next s t (x ∷ xs) on (j, g, y) =
    let later = pieces-of-next j t xs (ap (λ (w : ModeCut). w.is_over) g.1.1 ∙ on) y in
    ((j, g.1, later.0), later.1)

pub next-from-first : (s : ModeCut) (r : ModeRules) (text : List ℕ) (most : ℕ) → s ≡ uncut r text most → (xs : List Piece) (t : ModeCut)
    → Yields GivesPieceOrError s (map Ok xs) t → Yields GivesModePiece s xs t × (t.is_over ≡ false)
next-from-first s r text most e xs t y = pieces-of-next s t xs (ap (λ (w : ModeCut). w.is_over) e) y

-- ---- a loop over the pieces

-- one piece more
pub piece_more : (s t u : ModeCut) (o : Option (Result Piece AllocError)) (piece : Result Piece AllocError) (xs : List Piece) (x : Piece)
    → Yields GivesPieceOrError s (map Ok xs) t → o ≡ Some piece → GivesPieceOrError t o u → piece ≡ Ok x → Yields GivesPieceOrError s (map Ok (xs ++ x ∷ [])) u
piece_more s t u o piece xs x y is gives ok =
    let longer : Yields GivesPieceOrError s (map Ok xs ++ piece ∷ []) u =
    Yields-more GivesPieceOrError s (map Ok xs) t piece u y (subst (λ (p : Option (Result Piece AllocError)). GivesPieceOrError t p u) is gives) in
    let same : map Ok xs ++ piece ∷ [] ≡ map Ok (xs ++ x ∷ []) = rw (ok, map-append) refl in
    subst (λ (ys : List (Result Piece AllocError)). Yields GivesPieceOrError s ys u) same longer

-- no piece after those that there are
pub all_pieces : (s r t u : ModeCut) (o : Option (Result Piece AllocError)) (xs : List Piece) → r ≡ s → Yields GivesPieceOrError r (map Ok xs) t → o ≡ None
    → GivesPieceOrError t o u
    → ((ys : List Piece) (w : ModeCut) → Yields GivesPieceOrError s (map Ok ys) w → Yields GivesModePiece s ys w × (w.is_over ≡ false))
    → Yields GivesModePiece s xs t × (left_text t ≡ [])
all_pieces s r t u o xs same y is gives next =
    let given = next xs t (subst (λ (w : ModeCut). Yields GivesPieceOrError w (map Ok xs) t) same y) in
    let end = subst (λ (p : Option (Result Piece AllocError)). GivesPieceOrError t p u) is gives in
    (given.0, elim end.1 [ inl over ↦ cc (over, given.1) | inr none ↦ none ])
