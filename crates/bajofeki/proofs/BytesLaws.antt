-- Matches in bytes at whose front a text stands, and no character after it.
use Rattle.std.proofs.Common.{◌≡◌, ◌≢◌, ℕ, ◌+◌, ◌-◌, ◌<◌, ◌≤◌, ◌⊎◌, inl, inr, List, [], ◌∷◌, ◌++◌, length, take, drop, get_or, arith, refl, sym, ap, subst, ◌∙◌, append_assoc, length-append, length-drop, length-take}
use Rattle.std.specs.Prelude.{Option, Some, None}
use Rattle.std.specs.Str.{IsUtf8, IsCharBoundary}
use Rattle.std.proofs.lemmas.Bool.{cases_order, cases_lt}
use Rattle.std.proofs.lemmas.Str.{IsUtf8-take, IsUtf8-drop, IsCharBoundary-from_take}
use Rattle.std.proofs.lemmas.List.{append-nil, take-append-le, drop-append-le, take-append-drop, drop-drop, get_or_append_left}
use Rattle.std.proofs.Math.Seq.{take-append_seam, drop-append_seam}
use Rattle.lalrpop_hir.specs.Tree.{Tree}
use Rattle.lalrpop_hir.specs.Longest.{IsMatch, IsLongest}
use Rattle.lalrpop_rules.specs.Found.{MatchesAt, NoMatchBefore}
use Rattle.bajofeki.specs.Begun.{NoCharacter, IsBegun, IsBad}
use Rattle.lalrpop_rules.proofs.FirstMatches.{match_within, match_begins, some_length}

-- a text at the front of the bytes reaches no further than the text after which no character is
pub ends_within : (p text left rest : List ℕ) → IsUtf8 p → IsUtf8 text → NoCharacter left → text ++ left ≡ p ++ rest → length p ≤ length text
ends_within p text left rest up ut none same = by_order (cases_lt (length text) (length p))
  where
    by_order : (length text < length p) ⊎ (length p ≤ length text) → length p ≤ length text
    by_order (inr within) = within
    by_order (inl longer) =
        let front : take (length text) p ≡ text =
        sym (take-append-le (length text) p rest (omega arith)) ∙ ap (take (length text)) (sym same) ∙ take-append_seam text left in
        let begins : IsCharBoundary p (length text) = IsCharBoundary-from_take p (length text) up (omega arith) (subst IsUtf8 (sym front) ut) in
        let more : List ℕ = drop (length text) p in
        let behind : left ≡ more ++ rest =
        sym (drop-append_seam text left) ∙ ap (drop (length text)) same ∙ drop-append-le (length text) p rest (omega arith) in
        let size : length more ≡ length p - length text = length-drop (length text) p in
        let word : take (length more) left ≡ more = ap (take (length more)) behind ∙ take-append_seam more rest in
        absurd (none (length more) (omega (arith, size)) (omega (arith, ap length behind, length-append more rest))
        (subst IsUtf8 (sym word) (IsUtf8-drop p (length text) up begins)))

-- so each match of the bytes is one of the text
pub text_match : (ts : List Tree) (text left p : List ℕ) → IsUtf8 text → NoCharacter left → IsMatch ts (text ++ left) p → IsMatch ts text p
text_match ts text left p u none m =
    let within : length p ≤ length text = ends_within p text left m.0.0 m.0.1.1 u none m.0.1.0 in
    let front : take (length p) text ≡ p =
    sym (take-append-le (length p) text left within) ∙ ap (take (length p)) m.0.1.0 ∙ take-append_seam p m.0.0 in
    let split : text ≡ p ++ drop (length p) text = sym (take-append-drop (length p) text) ∙ ap (λ (q : List ℕ). q ++ drop (length p) text) front in
    ((drop (length p) text, (split, m.0.1.1)), m.1, m.2)

-- and the other way round, whatever comes after it
pub match_more : (ts : List Tree) (text left p : List ℕ) → IsMatch ts text p → IsMatch ts (text ++ left) p
match_more ts text left p m =
    ((m.0.0 ++ left, (ap (λ (t : List ℕ). t ++ left) m.0.1.0 ∙ append_assoc p m.0.0 left, m.0.1.1)), m.1, m.2)

-- a match at a place of the text is one at that place of the bytes
pub matches_more : (ts : List Tree) (text left : List ℕ) (n : ℕ) → MatchesAt ts text n → MatchesAt ts (text ++ left) n
matches_more ts text left n m =
    let within : n < length text = match_within ts text n m in
    (m.0, subst (λ (t : List ℕ). IsMatch ts t m.0) (sym (drop-append-le n text left (omega arith))) (match_more ts (drop n text) left m.0 m.1))

-- so where none of the bytes is, none of the text is
pub none_shorter : (ts : List Tree) (text left : List ℕ) (n : ℕ) → NoMatchBefore ts (text ++ left) n → NoMatchBefore ts text n
none_shorter ts text left n none k less m = none k less (matches_more ts text left k m)

pub longest_text : (ts : List Tree) (ps text left : List ℕ) (o : Option (ℕ × List ℕ)) → IsUtf8 text → NoCharacter left → IsLongest ts ps text o
    → IsLongest ts ps (text ++ left) o
longest_text ts ps text left None u none longest = λ p m. longest p (text_match ts text left p u none m)
longest_text ts ps text left (Some m) u none longest =
    (match_more ts text left m.1 longest.0, (λ p match. longest.1 p (text_match ts text left p u none match)), longest.2)

-- where no character is, nothing matches
pub none_at_front : (ts : List Tree) (left : List ℕ) → NoCharacter left → ¬ MatchesAt ts left 0
none_at_front ts left none (p, m) =
    let some : 0 < length p = some_length p m.1 in
    let word : take (length p) left ≡ p = ap (take (length p)) m.0.1.0 ∙ take-append_seam p m.0.0 in
    none (length p) some (omega (arith, ap length m.0.1.0, length-append p m.0.0)) (subst IsUtf8 (sym word) m.0.1.1)

pub boundary_text : (text left : List ℕ) (n : ℕ) → n < length text → IsCharBoundary (text ++ left) n → IsCharBoundary text n
boundary_text text left n less here =
    let same : get_or (text ++ left) n 0 ≡ get_or text n 0 = get_or_append_left text left 0 n less in
    (omega arith, λ within high. rw same at (here.1 (omega (arith, length-append text left)) (rw same high)))

pub boundary_bytes : (text left : List ℕ) (n : ℕ) → n < length text → IsCharBoundary text n → IsCharBoundary (text ++ left) n
boundary_bytes text left n less here =
    let same : get_or (text ++ left) n 0 ≡ get_or text n 0 = get_or_append_left text left 0 n less in
    (omega (arith, length-append text left), λ within high. rw same (here.1 less (rw same at high)))

-- where nothing matches in the text, nothing does in the bytes
pub none_before : (ts : List Tree) (text left : List ℕ) (k : ℕ) → IsUtf8 text → NoCharacter left → k ≤ length text → NoMatchBefore ts text k
    → NoMatchBefore ts (text ++ left) k
none_before ts text left k u none within before n less m =
    let begins : IsCharBoundary text n = boundary_text text left n (omega arith) (match_begins ts (text ++ left) n m) in
    let there : IsMatch ts (drop n text ++ left) m.0 = subst (λ (t : List ℕ). IsMatch ts t m.0) (drop-append-le n text left (omega arith)) m.1 in
    before n less (m.0, text_match ts (drop n text) left m.0 (IsUtf8-drop text n u begins) none there)

-- where nothing matches up to a place, and from there on up to another
pub none_after : (ts : List Tree) (bytes : List ℕ) (m n : ℕ) → NoMatchBefore ts bytes m → NoMatchBefore ts (drop m bytes) n → NoMatchBefore ts bytes (m + n)
none_after ts bytes m n before after k less match = by_order (cases_lt k m)
  where
    by_order : (k < m) ⊎ (m ≤ k) → ⊥
    by_order (inl earlier) = before k earlier match
    by_order (inr later) =
        let place : m + (k - m) ≡ k = omega arith in
        let there : drop k bytes ≡ drop (k - m) (drop m bytes) = ap (λ (i : ℕ). drop i bytes) (sym place) ∙ sym (drop-drop (k - m) m bytes) in
        after (k - m) (omega arith) (match.0, subst (λ (t : List ℕ). IsMatch ts t match.0) there match.1)

-- nothing matches at a place
pub none_at : (ts : List Tree) (bytes : List ℕ) → ¬ MatchesAt ts bytes 0 → NoMatchBefore ts bytes 1
none_at ts bytes none n less m =
    let front : n ≡ 0 = omega arith in
    none (subst (λ (k : ℕ). MatchesAt ts bytes k) front m)

-- in a character that has begun, nothing matches
pub none_in_begun : (ts : List Tree) (left : List ℕ) → IsBegun left → NoMatchBefore ts left (length left)
none_in_begun ts left begun n less m = by_order (cases_lt 0 n)
  where
    by_order : (0 < n) ⊎ (n ≤ 0) → ⊥
    by_order (inr front) =
        let zero : n ≡ 0 = omega arith in
        none_at_front ts left begun.0 (subst (λ (k : ℕ). MatchesAt ts left k) zero m)
    by_order (inl within) =
        let begins : IsCharBoundary (left ++ begun.1.0) n = boundary_bytes left begun.1.0 n less (match_begins ts left n m) in
        let word : take n (left ++ begun.1.0) ≡ take n left = take-append-le n left begun.1.0 (omega arith) in
        begun.0 n within (omega arith) (subst IsUtf8 word (IsUtf8-take (left ++ begun.1.0) n begun.1.1 begins))
