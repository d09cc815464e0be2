-- What holds of the pieces of a text.
use Rattle.std.proofs.Common.{◌≡◌, ◌≢◌, ℕ, suc, ◌+◌, ◌<◌, ◌≤◌, Bool, inl, inr, List, [], ◌∷◌, ◌++◌, length, take, drop, arith, refl, sym, ap, subst, ◌∙◌, length-append}
use Rattle.std.specs.Str.{chars, IsUtf8}
use Rattle.std.proofs.Math.Seq.{take-append_seam}
use Rattle.std.proofs.lemmas.Str.{IsUtf8-drop, IsUtf8-take, chars-append}
use Rattle.std.proofs.lemmas.List.{append-nil, drop_at, drop-drop}
use Rattle.lalrpop_hir.specs.Tree.{Tree}
use Rattle.lalrpop_hir.specs.Prefix.{IsPrefix}
use Rattle.lalrpop_hir.specs.Tokens.{AreTokens}
use Rattle.lalrpop_hir.proofs.LastFaults.{tokens_to_fault}
use Rattle.lalrpop_rules.specs.Found.{MatchesAt}
use Rattle.lalrpop_rules.specs.Pieces.{IsFault, IsPiece, ArePieces, AreApart, slice_of, up_to_fault}
use Rattle.lalrpop_rules.specs.declared.piece.Piece.{Piece}
use Rattle.lalrpop_rules.specs.declared.piece.Piece.TheVariants.{Token, Skipped, Fault}
use Rattle.lalrpop_lexer.proofs.Cuttings.{cut_behind, some_char}
use Rattle.lalrpop_rules.proofs.FirstMatches.{match_begins, some_length}

-- what is left after a prefix
pub after_prefix : (p text : List ℕ) → IsPrefix p text → (rest : List ℕ) × (text ≡ p ++ rest)
after_prefix p text b = (b.0, b.1.0)

-- the rest begins with a piece
pub is_split : (ts : List Tree) (ps : List ℕ) (skips : List Bool) (text : List ℕ) (at : ℕ) (x : Piece) → IsPiece ts ps skips text at x
    → (rest : List ℕ) × (drop at text ≡ slice_of x ++ rest)
is_split ts ps skips text at (Token token) is = after_prefix token.slice.now (drop at text) is.0.1.0.0
is_split ts ps skips text at (Skipped token) is = after_prefix token.slice.now (drop at text) is.0.1.0.0
is_split ts ps skips text at (Fault start slice) is = is.1.front

-- a fault of a text in UTF-8 is UTF-8
pub fault_utf8 : (ts : List Tree) (text slice : List ℕ) → IsUtf8 text → IsFault ts text slice → IsUtf8 slice
fault_utf8 ts text slice u fault = elim fault.ends [
  | inl whole ↦ subst IsUtf8 (sym whole) u
  | inr m ↦ subst IsUtf8 same (IsUtf8-take text (length slice) u (match_begins ts text (length slice) m))
]
  where
    same : take (length slice) text ≡ slice
    same = ap (take (length slice)) fault.front.1 ∙ take-append_seam slice fault.front.0

-- where the rest is UTF-8, a piece is a prefix of it
pub is_front : (ts : List Tree) (ps : List ℕ) (skips : List Bool) (text : List ℕ) (at : ℕ) (x : Piece) → IsUtf8 (drop at text)
    → IsPiece ts ps skips text at x → IsPrefix (slice_of x) (drop at text)
is_front ts ps skips text at (Token token) u is = is.0.1.0.0
is_front ts ps skips text at (Skipped token) u is = is.0.1.0.0
is_front ts ps skips text at (Fault start slice) u is = (is.1.front.0, (is.1.front.1, fault_utf8 ts (drop at text) slice.now u is.1))

-- and not empty
pub is_some : (ts : List Tree) (ps : List ℕ) (skips : List Bool) (text : List ℕ) (at : ℕ) (x : Piece) → IsPiece ts ps skips text at x → slice_of x ≢ []
is_some ts ps skips text at (Token token) is = is.0.1.0.1
is_some ts ps skips text at (Skipped token) is = is.0.1.0.1
is_some ts ps skips text at (Fault start slice) is = is.1.some

-- so there is a rest
pub rest_some : (p text : List ℕ) → (rest : List ℕ) × (text ≡ p ++ rest) → p ≢ [] → text ≢ []
rest_some p text b some none = omega (arith, some_length p some, ap length b.1, length-append p b.0, ap length none)

-- what is left after a piece
pub split_at : (text : List ℕ) (at : ℕ) (p : List ℕ) → (rest : List ℕ) × (drop at text ≡ p ++ rest) → drop at text ≡ p ++ drop (at + length p) text
split_at text at p b =
    let behind : b.0 ≡ drop (length p) (drop at text) = sym (ap (drop (length p)) b.1 ∙ drop_at p b.0 (length p) refl) in
    b.1 ∙ ap (λ (r : List ℕ). p ++ r) (behind ∙ drop-drop (length p) at text)

-- and less is left
pub shorter_left : (text : List ℕ) (at n : ℕ) (p : List ℕ) → (rest : List ℕ) × (drop at text ≡ p ++ rest) → p ≢ [] → length (drop at text) ≤ suc n
    → length (drop (at + length p) text) ≤ n
shorter_left text at n p b some most =
    omega (arith, ap length (split_at text at p b), length-append p (drop (at + length p) text), some_length p some, most)

pub utf8_behind : (text : List ℕ) (at : ℕ) (p : List ℕ) → IsUtf8 (drop at text) → IsPrefix p (drop at text) → IsUtf8 (drop (at + length p) text)
utf8_behind text at p u b =
    subst IsUtf8 (drop-drop (length p) at text) (IsUtf8-drop (drop at text) (length p) u (cut_behind p (drop at text) u b))

-- fewer characters are left
pub fewer_left : (text : List ℕ) (at : ℕ) (p : List ℕ) → IsUtf8 (drop at text) → IsPrefix p (drop at text) → p ≢ []
    → length (chars (drop (at + length p) text)) < length (chars (drop at text))
fewer_left text at p u b some =
    let count : length (chars (drop at text)) ≡ length (chars p) + length (chars (drop (at + length p) text)) =
    ap (λ (t : List ℕ). length (chars t)) (split_at text at p (after_prefix p (drop at text) b)) ∙ ap length (chars-append p (drop (at + length p) text) b.1.1)
    ∙ length-append (chars p) (chars (drop (at + length p) text)) in
    omega (arith, count, some_char p b.1.1 some)

-- ---- what holds of the pieces of a text

-- no fault stands right after a fault
pub two_faults : (ts : List Tree) (text : List ℕ) (at : ℕ) (p q : List ℕ) → IsFault ts (drop at text) p → IsFault ts (drop (at + length p) text) q → ⊥
two_faults ts text at p q first second = elim first.ends [
  | inl whole ↦ rest_some q (drop (at + length p) text) second.front second.some
      (sym (drop-drop (length p) at text) ∙ ap (λ (n : ℕ). drop n (drop at text)) (ap length whole) ∙ drop_all (drop at text))
  | inr m ↦ second.nothing 0 (some_length q second.some) (subst (λ (t : List ℕ). MatchesAt ts t 0) (drop-drop (length p) at text) m)
]
  where
    drop_all : (xs : List ℕ) → drop (length xs) xs ≡ []
    drop_all xs = ap (drop (length xs)) (sym (append-nil xs)) ∙ drop_at xs [] (length xs) refl

pub are_apart : (ts : List Tree) (ps : List ℕ) (skips : List Bool) (text : List ℕ) (at : ℕ) (xs : List Piece) → ArePieces ts ps skips text at xs → AreApart xs
are_apart ts ps skips text at [] are = tt
are_apart ts ps skips text at (Token token ∷ xs) are = are_apart ts ps skips text (at + length token.slice.now) xs are.1
are_apart ts ps skips text at (Skipped token ∷ xs) are = are_apart ts ps skips text (at + length token.slice.now) xs are.1
are_apart ts ps skips text at (Fault start slice ∷ []) are = tt
are_apart ts ps skips text at (Fault start slice ∷ Token token ∷ xs) are = are_apart ts ps skips text (at + length slice.now) (Token token ∷ xs) are.1
are_apart ts ps skips text at (Fault start slice ∷ Skipped token ∷ xs) are = are_apart ts ps skips text (at + length slice.now) (Skipped token ∷ xs) are.1
are_apart ts ps skips text at (Fault start slice ∷ Fault start2 slice2 ∷ xs) are =
    two_faults ts text at slice.now slice2.now are.0.1 are.1.0.1

-- up to the first fault they are the tokens of the text
pub tokens_of : (ts : List Tree) (ps : List ℕ) (skips : List Bool) (text : List ℕ) (at : ℕ) (xs : List Piece) → ArePieces ts ps skips text at xs
    → AreTokens ts ps text at (up_to_fault xs)
tokens_of ts ps skips text at [] are = are
tokens_of ts ps skips text at (Token token ∷ xs) are = (are.0.0, tokens_of ts ps skips text (at + length token.slice.now) xs are.1)
tokens_of ts ps skips text at (Skipped token ∷ xs) are = (are.0.0, tokens_of ts ps skips text (at + length token.slice.now) xs are.1)
tokens_of ts ps skips text at (Fault start slice ∷ xs) are =
    let fault = are.0.1 in
    tokens_to_fault ts ps text at (record { at = start })
    (rest_some slice.now (drop at text) fault.front fault.some, (λ p m. fault.nothing 0 (some_length slice.now fault.some) (p, m)), are.0.0)
