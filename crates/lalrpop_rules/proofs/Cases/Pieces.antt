-- Cases of specs/Pieces.antt.
use Rattle.std.proofs.Common.{◌≡◌, ℕ, ◌+◌, ◌<◌, Bool, false, true, inl, inr, List, [], ◌∷◌, ◌++◌, length, get_or, codes, refl, ap, subst, ◌∙◌, arith}
use Rattle.std.specs.Prelude.{Some, None, Ok, Err}
use Rattle.std.specs.Borrow.{Bor}
use Rattle.lalrpop_hir.specs.Tree.{Tree}
use Rattle.lalrpop_hir.specs.declared.token.Token.{Token as Cut}
use Rattle.lalrpop_rules.specs.Found.{MatchesAt}
use Rattle.lalrpop_rules.specs.Pieces.{IsSkipped, IsFault, IsPiece, ArePieces, AreApart, joined, up_to_fault, first_token}
use Rattle.lalrpop_rules.specs.declared.piece.Piece.{Piece}
use Rattle.lalrpop_rules.specs.declared.piece.Piece.TheVariants.{Token, Skipped, Fault}

-- ---- one fault

-- nothing matches at `b`, and something matches after it
fault_of_one_character : (ts : List Tree) → ¬ MatchesAt ts (codes "ba") 0 → MatchesAt ts (codes "ba") 1 → IsFault ts (codes "ba") (codes "b")
unfolding lib.Utf8.encode
fault_of_one_character ts none m = record {
  front = (codes "a", refl);
  some = λ e. absurd (cc);
  nothing = λ n below at. none (subst (λ (k : ℕ). MatchesAt ts (codes "ba") k) (zero n below) at);
  ends = inr m;
}
  where
    zero : (n : ℕ) → n < 1 → n ≡ 0
    zero n below = omega arith

fault_one_character_short : (ts : List Tree) → ¬ MatchesAt ts (codes "bba") 1 → ¬ IsFault ts (codes "bba") (codes "b")
fault_one_character_short ts none fault = elim fault.ends [ inl whole ↦ (let n : 1 ≡ 3 = ap length whole in omega (arith, n)) | inr m ↦ none m ]

fault_past_a_match : (ts : List Tree) → MatchesAt ts (codes "bab") 1 → ¬ IsFault ts (codes "bab") (codes "ba")
fault_past_a_match ts m fault = fault.nothing 1 (omega arith) m

fault_where_something_matches : (ts : List Tree) → MatchesAt ts (codes "ab") 0 → ¬ IsFault ts (codes "ab") (codes "a")
fault_where_something_matches ts m fault = fault.nothing 0 (omega arith) m

fault_of_no_character : (ts : List Tree) (text : List ℕ) → ¬ IsFault ts text []
fault_of_no_character ts text fault = fault.some refl

fault_of_another_text : (ts : List Tree) (slice : List ℕ) → slice ≡ codes "a" → ¬ IsFault ts (195 ∷ 169 ∷ []) slice
fault_of_another_text ts slice one fault =
    let text : 195 ∷ 169 ∷ [] ≡ codes "a" ++ fault.front.0 = fault.front.1 ∙ ap (λ (p : List ℕ). p ++ fault.front.0) one in
    let n : 195 ≡ 97 = ap (λ (v : List ℕ). get_or v 0 0) text in
    omega (arith, n)

-- nothing matches within é
fault_within_a_character : (ts : List Tree) → ¬ MatchesAt ts (195 ∷ 169 ∷ []) 1 → ¬ IsFault ts (195 ∷ 169 ∷ []) (195 ∷ [])
fault_within_a_character ts none fault = elim fault.ends [ inl whole ↦ (let n : 1 ≡ 2 = ap length whole in omega (arith, n)) | inr m ↦ none m ]

-- bytes that begin no character are a fault
bytes_of_no_character : (ts : List Tree) → ¬ MatchesAt ts (255 ∷ []) 0 → IsFault ts (255 ∷ []) (255 ∷ [])
bytes_of_no_character ts none = record {
  front = ([], refl);
  some = λ e. absurd (cc);
  nothing = λ n below at. none (subst (λ (k : ℕ). MatchesAt ts (255 ∷ []) k) (zero n below) at);
  ends = inl refl;
}
  where
    zero : (n : ℕ) → n < 1 → n ≡ 0
    zero n below = omega arith

-- ---- one piece

skipped_told_as_token : (ts : List Tree) (ps : List ℕ) (skips : List Bool) (text : List ℕ) (at : ℕ) (token : Cut) → IsSkipped skips token.index
    → ¬ IsPiece ts ps skips text at (Token token)
skipped_told_as_token ts ps skips text at token skip is = is.1 skip

nothing_is_skipped : (ts : List Tree) (ps text : List ℕ) (at : ℕ) (token : Cut) → ¬ IsPiece ts ps [] text at (Skipped token)
nothing_is_skipped ts ps text at token is = absurd (cc (is.1))

second_is_skipped : IsSkipped (false ∷ true ∷ []) 1
second_is_skipped = refl

fault_at_another_place : (ts : List Tree) (ps : List ℕ) (skips : List Bool) (text : List ℕ) (slice : Bor (List ℕ))
    → ¬ IsPiece ts ps skips text 0 (Fault 1 slice)
fault_at_another_place ts ps skips text slice is = omega (arith, is.0)

-- ---- all pieces

no_piece_of_the_empty_text : (ts : List Tree) (ps : List ℕ) (skips : List Bool) → ArePieces ts ps skips [] 0 []
no_piece_of_the_empty_text ts ps skips = refl

text_left_over : (ts : List Tree) (ps : List ℕ) (skips : List Bool) → ¬ ArePieces ts ps skips (codes "a") 0 []
text_left_over ts ps skips h = let e = h in absurd (cc)

-- a piece at the front is lost
piece_lost : (ts : List Tree) (ps : List ℕ) (skips : List Bool) (b : Cut) (xs : List Piece) → b.slice.now ≡ codes "b"
    → ¬ ArePieces ts ps skips (codes " b") 0 (Token b ∷ xs)
piece_lost ts ps skips b xs one are =
    let begins = are.0.0.1.0.0 in
    let text : codes " b" ≡ codes "b" ++ begins.0 = begins.1.0 ∙ ap (λ (p : List ℕ). p ++ begins.0) one in
    let n : 32 ≡ 98 = ap (λ (v : List ℕ). get_or v 0 0) text in
    omega (arith, n)

-- each piece begins where the one before it ends
second_begins_at_0 : (ts : List Tree) (ps : List ℕ) (skips : List Bool) (text : List ℕ) (a b : Cut) → a.slice.now ≡ codes "a" → b.start ≡ 0
    → ¬ ArePieces ts ps skips text 0 (Skipped a ∷ Token b ∷ [])
second_begins_at_0 ts ps skips text a b one again are =
    let start : b.start ≡ 0 + length a.slice.now = are.1.0.0.0 in
    omega (arith, start, again, ap length one)

joined_of_three : (a b : Cut) (c : Bor (List ℕ)) → a.slice.now ≡ codes "a" → b.slice.now ≡ codes " " → c.now ≡ 195 ∷ 169 ∷ []
    → joined (Token a ∷ Skipped b ∷ Fault 2 c ∷ []) ≡ 97 ∷ 32 ∷ 195 ∷ 169 ∷ []
joined_of_three a b c e f g = rw (e, f, g) refl

two_faults_side_by_side : (a b : Bor (List ℕ)) (xs : List Piece) → ¬ AreApart (Fault 0 a ∷ Fault 1 b ∷ xs)
two_faults_side_by_side a b xs are = are

faults_round_a_token : (a c : Bor (List ℕ)) (b : Cut) → AreApart (Fault 0 a ∷ Token b ∷ Fault 2 c ∷ [])
faults_round_a_token a c b = tt

two_faults_behind_a_token : (a b : Bor (List ℕ)) (token : Cut) → ¬ AreApart (Token token ∷ Fault 1 a ∷ Fault 2 b ∷ [])
two_faults_behind_a_token a b token are = are

-- skipped pieces are tokens, and nothing comes after the first fault
up_to_the_first_fault : (a b d : Cut) (c : Bor (List ℕ)) → up_to_fault (Token a ∷ Skipped b ∷ Fault 2 c ∷ Token d ∷ []) ≡ Ok a ∷ Ok b ∷ Err (record { at = 2 }) ∷ []
up_to_the_first_fault a b d c = refl

-- a skipped token comes first, and a fault is no token
first_of_three : (a b : Cut) (c : Bor (List ℕ)) → first_token (Fault 0 c ∷ Skipped b ∷ Token a ∷ []) ≡ Some b
first_of_three a b c = refl

fault_is_no_token : (c : Bor (List ℕ)) → first_token (Fault 0 c ∷ []) ≡ None
fault_is_no_token c = refl
