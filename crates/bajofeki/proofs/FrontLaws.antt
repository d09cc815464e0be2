-- The piece at the front of bytes.
use Rattle.std.proofs.Common.{◌≡◌, ◌≢◌, ℕ, ◌+◌, ◌-◌, ◌<◌, ◌≤◌, ◌⊎◌, inl, inr, List, [], ◌∷◌, ◌++◌, length, take, drop, arith, refl, sym, ap, subst, ◌∙◌, append_assoc, length-append, length-drop, length-take, take-add}
use Rattle.std.specs.Prelude.{Option, Some, None, IfSome, IfNone}
use Rattle.std.specs.Str.{IsUtf8, IsCharBoundary}
use Rattle.std.proofs.lemmas.Bool.{cases_order, cases_lt}
use Rattle.std.proofs.lemmas.List.{append-nil, take-append-le, drop-append-le, take-append-drop, drop-drop}
use Rattle.std.proofs.Math.Seq.{take-append_seam, drop-append_seam, take-length}
use Rattle.lalrpop_hir.specs.Tree.{Tree}
use Rattle.lalrpop_hir.specs.Longest.{IsMatch, IsLongest}
use Rattle.lalrpop_rules.specs.Found.{MatchesAt, NoMatchBefore}
use Rattle.lalrpop_rules.specs.Pieces.{IsFault}
use Rattle.bajofeki.specs.Begun.{NoCharacter, IsBegun, IsBad}
use Rattle.bajofeki.specs.Lexed.{BeginsLonger}
use Rattle.bajofeki.specs.Chunked.{IsOpen, IsOpenIn}
use Rattle.bajofeki.specs.Internal.Kept.{IsFront}
use Rattle.bajofeki.specs.Internal.Parts.{size_in_fault}
use Rattle.lalrpop_rules.proofs.FirstMatches.{match_within, some_length}
use Rattle.bajofeki.proofs.BytesLaws.{longest_text, matches_more, none_after, none_at, none_at_front, none_before, none_in_begun, none_shorter}

-- ---- after a text no character is

-- a fault that ends in the text is one of the bytes
fault_text : (ts : List Tree) (text tail slice : List ℕ) → IsUtf8 text → NoCharacter tail → length slice < length text → IsFault ts text slice
    → IsFault ts (text ++ tail) slice
fault_text ts text tail slice u none short fault = record {
  front = (fault.front.0 ++ tail, ap (λ (t : List ℕ). t ++ tail) fault.front.1 ∙ append_assoc slice fault.front.0 tail);
  some = fault.some;
  nothing = none_before ts text tail (length slice) u none (omega arith) fault.nothing;
  ends = elim fault.ends [
    | inl whole ↦ absurd (omega (arith, short, ap length whole))
    | inr m ↦ inr (matches_more ts text tail (length slice) m)
  ];
}

-- and so is a token
pub front_text : (ts : List Tree) (ps text tail : List ℕ) (o : Option ℕ) (slice : List ℕ) → IsUtf8 text → NoCharacter tail
    → IfNone o (length slice < length text) → IsFront ts ps text o slice → IsFront ts ps (text ++ tail) o slice
front_text ts ps text tail None slice u none short fault = fault_text ts text tail slice u none short fault
front_text ts ps text tail (Some i) slice u none short front = (longest_text ts ps text tail (Some (i, slice)) u none front.0, front.1)

-- ---- after bytes at which nothing matches

-- something matches: they are a fault
pub fault_before : (ts : List Tree) (bytes : List ℕ) (n : ℕ) → 0 < n → NoMatchBefore ts bytes n → MatchesAt ts bytes n → IsFault ts bytes (take n bytes)
fault_before ts bytes n some before m =
    let within : n < length bytes = match_within ts bytes n m in
    let size : length (take n bytes) ≡ n = omega (arith, length-take n bytes) in
    record {
      front = (drop n bytes, sym (take-append-drop n bytes));
      some = λ none. omega (arith, size, ap length none);
      nothing = subst (λ (k : ℕ). NoMatchBefore ts bytes k) (sym size) before;
      ends = inr (subst (λ (k : ℕ). MatchesAt ts bytes k) (sym size) m);
    }

-- they are all there are: they are a fault
pub fault_whole : (ts : List Tree) (bytes : List ℕ) → bytes ≢ [] → NoMatchBefore ts bytes (length bytes) → IsFault ts bytes bytes
fault_whole ts bytes some none = record {
  front = ([], sym (append-nil bytes));
  some = some;
  nothing = none;
  ends = inl refl;
}

matches_there : (ts : List Tree) (bytes : List ℕ) (m n : ℕ) → MatchesAt ts (drop m bytes) n → MatchesAt ts bytes (m + n)
matches_there ts bytes m n match =
    let place : n + m ≡ m + n = omega arith in
    (match.0, subst (λ (t : List ℕ). IsMatch ts t match.0) (drop-drop n m bytes) match.1)

-- a fault follows: the two are one
fault_longer : (ts : List Tree) (bytes slice : List ℕ) (n : ℕ) → n ≤ length bytes → NoMatchBefore ts bytes n → IsFault ts (drop n bytes) slice
    → IsFault ts bytes (take (n + length slice) bytes)
fault_longer ts bytes slice n within before fault =
    let size : length (take (n + length slice) bytes) ≡ n + length slice =
    omega (arith, length-take (n + length slice) bytes, length-drop n bytes, ap length fault.front.1, length-append slice fault.front.0) in
    let nothing : NoMatchBefore ts bytes (n + length slice) = none_after ts bytes n (length slice) before fault.nothing in
    record {
      front = (drop (n + length slice) bytes, sym (take-append-drop (n + length slice) bytes));
      some = λ none. omega (arith, size, some_length slice fault.some, ap length none);
      nothing = subst (λ (k : ℕ). NoMatchBefore ts bytes k) (sym size) nothing;
      ends = elim fault.ends [
        | inl whole ↦ (let all : n + length slice ≡ length bytes = omega (arith, within, ap length whole, length-drop n bytes) in inl (ap (λ (k : ℕ). take k bytes) all ∙ take-length bytes))
        | inr m ↦ inr (subst (λ (k : ℕ). MatchesAt ts bytes k) (sym size) (matches_there ts bytes n (length slice) m))
      ];
    }

pub front_after : (ts : List Tree) (ps bytes : List ℕ) (o : Option ℕ) (slice : List ℕ) (n : ℕ) → 0 < n → n ≤ length bytes → NoMatchBefore ts bytes n
    → IsFront ts ps (drop n bytes) o slice → IsFault ts bytes (take (n + size_in_fault o (length slice)) bytes)
front_after ts ps bytes None slice n some within before fault = fault_longer ts bytes slice n within before fault
front_after ts ps bytes (Some i) slice n some within before front =
    let place : n ≡ n + 0 = omega arith in
    subst (λ (k : ℕ). IsFault ts bytes (take k bytes)) place (fault_before ts bytes n some before (slice, front.0.0))

-- ---- what is held back

-- what may still change the piece of a text may change that of the bytes before it, at which nothing matches
pub open_after : (ts : List Tree) (front text : List ℕ) → NoMatchBefore ts (front ++ text) (length front) → NoMatchBefore ts text 1 → IsOpen ts text
    → IsOpen ts (front ++ text)
open_after ts front text before none (inl nothing) =
    let size : length front + length text ≡ length (front ++ text) = sym (length-append front text) in
    let there : NoMatchBefore ts (drop (length front) (front ++ text)) (length text) =
    subst (λ (t : List ℕ). NoMatchBefore ts t (length text)) (sym (drop-append_seam front text)) nothing in
    inl (subst (λ (n : ℕ). NoMatchBefore ts (front ++ text) n) size (none_after ts (front ++ text) (length front) (length text) before there))
open_after ts front text before none (inr (k, (utf8, least, longer))) =
    let same : drop k text ≡ drop (length front + k) (front ++ text) =
    ap (drop k) (sym (drop-append_seam front text)) ∙ drop-drop k (length front) (front ++ text) in
    let here : NoMatchBefore ts text (k + 1) = least_none least in
    let there : NoMatchBefore ts (drop (length front) (front ++ text)) (k + 1) =
    subst (λ (t : List ℕ). NoMatchBefore ts t (k + 1)) (sym (drop-append_seam front text)) here in
    let place : length front + (k + 1) ≡ (length front + k) + 1 = omega arith in
    inr (
      length front + k,
      (
        subst IsUtf8 same utf8,
        inr (subst (λ (n : ℕ). NoMatchBefore ts (front ++ text) n) place (none_after ts (front ++ text) (length front) (k + 1) before there)),
        subst (λ (t : List ℕ). BeginsLonger ts t) same longer,
      ),
    )
  where
    least_none : (k ≡ 0) ⊎ NoMatchBefore ts text (k + 1) → NoMatchBefore ts text (k + 1)
    least_none (inl zero) = let one : 1 ≡ k + 1 = omega arith in subst (λ (n : ℕ). NoMatchBefore ts text n) one none
    least_none (inr before) = before
