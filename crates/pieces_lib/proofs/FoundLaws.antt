-- What is found at the front of a fault.
use Rattle.std.proofs.Common.{◌≡◌, ◌≢◌, ℕ, zero, suc, ◌<◌, ◌≤◌, ◌⊎◌, ⊎_elim, inl, inr, Bool, true, false, List, [], ◌∷◌, ◌++◌, length, take, drop, refl, sym, ap, subst, ◌∙◌, arith, true≢false, append-nil, append_assoc}
use Rattle.std.specs.Prelude.{Option, Some, None, IfNone, IfSome, is_some, slice_index}
use Rattle.std.specs.Char.{IsScalar, encode_utf8}
use Rattle.std.specs.declared.str.Chars.{Chars}
use Rattle.std.specs.Str.{all_scalars, is_utf8, IsCharBoundary, IsUtf8, IsValidUpTo}
use Rattle.std.specs.Str.Iter.{chars_rest, chars_steps}
use Rattle.std.specs.Str.Lossy.{utf8_error_len, utf8_valid_len, valid_len_up_to}
use Rattle.std.proofs.Math.Seq.{take-append_seam, take-length}
use Rattle.std.proofs.lemmas.Bool.{and_parts, cases_eq, cases_lt}
use Rattle.std.proofs.lemmas.List.{get_or-take, length-take, take-append-le, take-take}
use Rattle.std.proofs.lemmas.Str.{chars-nil, chars_past_char, cons_from_encodes, is_utf8-from_IsUtf8, IsUtf8-encode, IsUtf8-take}
use Rattle.lalrpop_hir.specs.Prefix.{IsPrefix}
use Rattle.lalrpop_hir.specs.Tree.{Tree}
use Rattle.lalrpop_rules.proofs.FirstMatches.{match_begins, some_length}
use Rattle.lalrpop_rules.specs.Pieces.{IsFault, slice_of}
use Rattle.lalrpop_rules.specs.declared.piece.Piece.{Piece}
use Rattle.lalrpop_rules.specs.declared.piece.Piece.TheVariants.{Token, Skipped, Fault}
use Rattle.lalrpop_rules.specs.Modes.{trees_in}
use Rattle.bajofeki.proofs.BegunLaws.{bad_after, begun_after, nothing_begun}
use Rattle.bajofeki.specs.Chunked.{Chunked, IsFinal, MayMatch}
use Rattle.bajofeki.specs.Begun.{IsBad, IsBegun, NoCharacter}
use Rattle.pieces_lib.specs.CutEnds.{IsFound, IsFoundNext}
use Rattle.pieces_lib.specs.Internal.CutTexts.{is_fault}
use Rattle.pieces_lib.specs.declared.cut_end.Found.{Found}
use Rattle.pieces_lib.specs.declared.cut_end.Found.TheVariants.{Character, Byte}

-- what begins some bytes begins more bytes too
prefix_more : (p bytes more : List ℕ) → IsPrefix p bytes → IsPrefix p (bytes ++ more)
prefix_more p bytes more (rest, (all, utf8)) = (rest ++ more, (ap (λ (l : List ℕ). l ++ more) all ∙ append_assoc p rest more, utf8))

-- so what is found at their front is found there too, if no character is made of a byte
found_more : (bytes more : List ℕ) (found : Found) → (NoCharacter bytes → NoCharacter (bytes ++ more)) → IsFound bytes found → IsFound (bytes ++ more) found
found_more bytes more (Character c) none (p, (begins, is)) = (p, (prefix_more p bytes more begins, is))
found_more bytes more (Byte b) none (here, (rest, all)) = (none here, (rest ++ more, ap (λ (l : List ℕ). l ++ more) all))

-- at the front of what has come
pub found_next : (c : Chunked) (found : Found) → (c.is_ended ≡ false → NoCharacter c.rest → IsBad c.rest) → IsFound c.rest found → IsFoundNext c found
found_next c found bad is more nothing = by c.is_ended refl
  where
    by : (b : Bool) → c.is_ended ≡ b → IsFound (c.rest ++ more) found
    by true over = subst (λ (l : List ℕ). IsFound l found) (sym (append-nil c.rest) ∙ ap (λ (l : List ℕ). c.rest ++ l) (sym (nothing over))) is
    by false goes = found_more c.rest more found (λ none. (bad goes none).1 more) is

-- where nothing is left, nothing but a character has begun
pub may_wait : (c : Chunked) → (c.rest ≡ []) ⊎ MayMatch c → IsBegun c.rest ⊎ MayMatch c
may_wait c (inl none) = inl (subst IsBegun (sym none) nothing_begun)
may_wait c (inr may) = inr may

-- ---- at the front of a fault

-- a character that begins in the text before a place ends there too
boundary_front : (text : List ℕ) (n k : ℕ) → k < n → n ≤ length text → IsCharBoundary text k → IsCharBoundary (take n text) k
boundary_front text n k within all b = (
  omega (arith, length-take n text),
  λ inside high. let same = get_or-take n text k 0 within in subst (λ (x : ℕ). 192 ≤ x) (sym same) (b.1 (omega arith) (subst (λ (x : ℕ). 128 ≤ x) same high)),
)

-- no character begins in a fault and goes on after it, for what matches there begins with a character
fault_none : (ts : List Tree) (text slice : List ℕ) → IsFault ts text slice → NoCharacter slice → NoCharacter text
fault_none ts text slice fault none n some within u = elim fault.ends [
  | inl whole ↦ none n some (omega (arith, within, ap length whole)) (subst (λ (t : List ℕ). IsUtf8 (take n t)) (sym whole) u)
  | inr m ↦ ⊎_elim
      (λ longer. none (length slice) (some_length slice fault.some) (omega arith)
      (subst IsUtf8 (take-take (length slice) n text (omega (arith, longer)) ∙ front ∙ sym (take-length slice))
      (IsUtf8-take (take n text) (length slice) u (boundary_front text n (length slice) longer within (match_begins ts text (length slice) m)))))
      (λ shorter. none n some shorter
      (subst IsUtf8 (ap (take n) fault.front.1 ∙ take-append-le n slice fault.front.0 shorter) u))
      (cases_lt (length slice) n)
]
  where
    front : take (length slice) text ≡ slice
    front = ap (take (length slice)) fault.front.1 ∙ take-append_seam slice fault.front.0

fault_found : (ts : List Tree) (text slice : List ℕ) (found : Found) → IsFault ts text slice → IsFound slice found → IsFound text found
fault_found ts text slice found fault is =
    subst (λ (t : List ℕ). IsFound t found) (sym fault.front.1)
    (found_more slice fault.front.0 found (λ none. subst NoCharacter fault.front.1 (fault_none ts text slice fault none)) is)

-- whatever comes
pub found_at_fault : (c : Chunked) (x : Piece) (found : Found) → IsFinal c x → is_fault x ≡ true → IsFound (slice_of x) found → IsFoundNext c found
found_at_fault c (Token token) found final fault is more nothing = absurd (cc (fault))
found_at_fault c (Skipped token) found final fault is more nothing = absurd (cc (fault))
found_at_fault c (Fault start slice) found final fault is more nothing =
    fault_found (trees_in c.rules c.stack.mode) (c.rest ++ more) slice.now found (final more nothing).1 is

-- ---- for the code

-- the first character of a text at the front
character_found : (bytes text rest behind : List ℕ) (c : ℕ) → bytes ≡ text ++ rest → IsUtf8 text → text ≡ encode_utf8 c ++ behind → IsFound bytes (Character c)
character_found bytes text rest behind c all (cs, (valid, encoded)) first =
    let more = cons_from_encodes cs behind c (encoded ∙ first) in
    let scalar : IsScalar c = (and_parts _ _ (ap all_scalars (sym more.1) ∙ valid)).0 in
    let one = IsUtf8-encode c scalar in (
      encode_utf8 c,
      (
        (behind ++ rest, (all ∙ ap (λ (l : List ℕ). l ++ rest) first ∙ append_assoc (encode_utf8 c) behind rest, one)),
        chars_past_char (encode_utf8 c) [] c one (sym (append-nil (encode_utf8 c))) ∙ ap (λ (l : List ℕ). c ∷ l) chars-nil,
      ),
    )

pub some_found : (bytes text rest : List ℕ) (s t : Chars) (r : Option ℕ) → chars_steps s r t → chars_rest s ≡ text → IsUtf8 text → bytes ≡ text ++ rest
    → IfSome r (λ c. IsFound bytes (Character c))
some_found bytes text rest s t None steps same utf8 all = tt
some_found bytes text rest s t (Some c) steps same utf8 all = character_found bytes text rest (chars_rest t) c all utf8 (sym same ∙ steps.0)

-- the longest text at the front is empty
longest_front : (bytes : List ℕ) (k n : ℕ) → n ≤ k → IsUtf8 (take n bytes) → n ≤ valid_len_up_to bytes k
longest_front bytes zero n within u = within
longest_front bytes (suc k) n within u = by (is_utf8 (take (suc k) bytes)) refl (λ below. longest_front bytes k n below u)
  where
    by : (b : Bool) → is_utf8 (take (suc k) bytes) ≡ b → (n ≤ k → n ≤ valid_len_up_to bytes k) → n ≤ valid_len_up_to bytes (suc k)
    by true is_so shorter = rw is_so within
    by false not_so shorter = rw not_so (⊎_elim
        (λ (below : n < suc k). shorter (omega arith))
        (λ (above : suc k ≤ n).
        let all : n ≡ suc k = omega arith in
        absurd (true≢false (sym (is_utf8-from_IsUtf8 (take (suc k) bytes) (subst (λ (m : ℕ). IsUtf8 (take m bytes)) all u)) ∙ not_so)))
        (cases_lt n (suc k)))

none_at_front : (bytes : List ℕ) → utf8_valid_len bytes ≡ 0 → NoCharacter bytes
unfolding utf8_valid_len
none_at_front bytes none n some within u = let longest = longest_front bytes (length bytes) n within u in omega arith

pub none_found : (bytes text : List ℕ) (s t : Chars) (r : Option ℕ) → chars_steps s r t → chars_rest s ≡ text → length text ≡ utf8_valid_len bytes → IfNone r (NoCharacter bytes)
none_found bytes text s t None steps same longest = none_at_front bytes (sym longest ∙ ap length (sym same) ∙ steps.0.0)
none_found bytes text s t (Some c) steps same longest = tt

pub first_byte : (bytes : List ℕ) → bytes ≢ [] → bytes ≡ slice_index bytes 0 ∷ drop 1 bytes
first_byte [] some = absurd (some refl)
first_byte (b ∷ bytes) some = refl

-- the error of std's test says whether a character has begun
pub begun_now : (bytes : List ℕ) (n : ℕ) (len : Option ℕ) → IsValidUpTo bytes n → len ≡ utf8_error_len (drop n bytes) → n ≡ 0 → is_some len ≡ false → IsBegun bytes
begun_now bytes n None valid same none begun = subst (λ (m : ℕ). IsBegun (drop m bytes)) none (begun_after bytes n valid (sym same))
begun_now bytes n (Some k) valid same none begun = absurd (cc (begun))

pub bad_now : (bytes : List ℕ) (n : ℕ) (len : Option ℕ) → IsValidUpTo bytes n → len ≡ utf8_error_len (drop n bytes) → (n ≡ 0 → is_some len ≡ true) → NoCharacter bytes → IsBad bytes
bad_now bytes n len valid same bad none = ⊎_elim
    (λ zero_is. subst (λ (m : ℕ). IsBad (drop m bytes)) zero_is (bad_after bytes n valid (λ e. not_none (same ∙ e) (bad zero_is))))
    (λ other. let short = valid.short in absurd (none n (omega (arith, other)) (omega arith) valid.front))
    (cases_eq n 0)
  where
    not_none : len ≡ None → is_some len ≡ true → ⊥
    not_none e some = absurd (cc (e, some))

pub text_not_none : (bytes : List ℕ) {P : Type 0} → IsUtf8 bytes → bytes ≢ [] → NoCharacter bytes → P
text_not_none bytes utf8 some none = absurd (none (length bytes) (some_length bytes some) (omega arith) (subst IsUtf8 (sym (take-length bytes)) utf8))
