-- How far the matches of a text have been found: at its start, and after a match.
use Rattle.std.proofs.Common.{◌≡◌, ℕ, ◌+◌, ◌*◌, ◌^◌, ◌/◌, ◌<◌, ◌≤◌, ◌-◌, List, ◌++◌, length, take, drop, refl, sym, ap, subst, ◌∙◌, arith, length-append, length-drop}
use Rattle.std.specs.Char.{encode_utf8, len_utf8}
use Rattle.std.specs.Str.{chars, IsUtf8, IsCharBoundary}
use Rattle.std.proofs.Math.Nat.{mul-le-mul_left}
use Rattle.std.proofs.Math.Seq.{drop-append_seam}
use Rattle.std.proofs.lemmas.List.{take-append-drop, take_at, drop_at, drop-drop}
use Rattle.std.proofs.lemmas.Str.{IsUtf8-append, drop_past_char, IsCharBoundary-start, IsCharBoundary-from_take, IsCharBoundary-from_rest, chars-append}
use Rattle.lalrpop_hir.specs.Prefix.{IsPrefix}
use Rattle.lalrpop_dfa.specs.Dfa.{Row}
use Rattle.lalrpop_dense.specs.Internal.Memory.{Memory, IsFor, IsNoted, room}
use Rattle.lalrpop_dense.specs.Internal.Hopeless.{IsHopeless, IsSound}
use Rattle.lalrpop_dense.specs.Internal.Standing.{IsStanding, IsReached, spare_of}
use Rattle.lalrpop_hir.proofs.StartLaws.{few_chars}

pub standing_start : (d : List Row) (text : List ℕ) (m : Memory) → IsUtf8 text → length text < 2 ^ 63 → m.places ≡ length text / 64 + 1 → IsFor d m → ((p k : ℕ) → ¬ IsNoted m p k) → IsStanding d text 0 0 m
standing_start d text m u small places fits none = record {
  boundary = IsCharBoundary-start text u;
  small = omega (arith, few_chars text u);
  places = omega (arith, few_chars text u);
  fits = fits;
  sound = λ p k i n e. absurd (none p k n);
}

-- room for each state at each 64th byte
pub all_spare : (text : List ℕ) (m : Memory) (states places : ℕ) → room m ≤ states * places → places ≡ length text / 64 + 1
    → spare_of text (length text) 0 m ≤ length (chars text) + length text + states * (length text + 64)
all_spare text m states places most is =
    let few : 64 * places ≤ length text + 64 = omega arith in
    let up : states * (64 * places) ≤ states * (length text + 64) = mul-le-mul_left states few in
    let swap : states * (64 * places) ≡ 64 * (states * places) = grind arith in
    omega arith

-- the same place, with more pairs noted
pub standing_here : (d : List Row) (text : List ℕ) (at index index2 : ℕ) (m m2 : Memory) → m2 ≡ record m { marks = m2.marks } → index2 ≡ index → IsSound d m2 index2 (chars (drop at text)) → IsStanding d text at index m → IsStanding d text at index2 m2
standing_here d text at index index2 m m2 same stays sound h = record {
  boundary = h.boundary;
  small = omega (arith, h.small);
  places =
      let most : index2 + length (chars (drop at text)) < 64 * m.places = omega (arith, h.places) in
      subst (λ (n : ℕ). index2 + length (chars (drop at text)) < 64 * n) (sym (ap (λ (x : Memory). x.places) same)) most;
  fits = subst (λ (x : Memory). IsFor d x) (sym same) h.fits;
  sound = sound;
}

pub boundary_behind : (text p : List ℕ) (at : ℕ) → IsUtf8 (drop at text) → IsPrefix p (drop at text) → IsCharBoundary text at → IsCharBoundary text (at + length p)
boundary_behind text p at u b h =
    IsCharBoundary-from_rest text at (length p) h.0
    (IsCharBoundary-from_take (drop at text) (length p) u (omega (arith, ap length b.1.0, length-append p b.0))
    (subst IsUtf8 (sym (ap (take (length p)) b.1.0 ∙ take_at p b.0 (length p) refl)) b.1.1))

left_behind : (text p : List ℕ) (at : ℕ) → IsPrefix p (drop at text) → drop at text ≡ p ++ drop (at + length p) text
left_behind text p at b = b.1.0 ∙ ap (λ (r : List ℕ). p ++ r) (sym (ap (drop (length p)) b.1.0 ∙ drop_at p b.0 (length p) refl) ∙ drop-drop (length p) at text)

-- the characters of a match, and those that are left after it
pub chars_behind : (text p : List ℕ) (at : ℕ) → IsPrefix p (drop at text) → length (chars (drop at text)) ≡ length (chars p) + length (chars (drop (at + length p) text))
chars_behind text p at b =
    ap (λ (t : List ℕ). length (chars t)) (left_behind text p at b) ∙ ap length (chars-append p (drop (at + length p) text) b.1.1) ∙ length-append (chars p) (chars (drop (at + length p) text))

-- fewer characters are left after a match
pub fewer_behind : (text p : List ℕ) (at : ℕ) → IsPrefix p (drop at text) → length (chars (drop (at + length p) text)) ≤ length (chars (drop at text))
fewer_behind text p at b = omega (arith, chars_behind text p at b)

-- after a match of k characters
pub standing_behind : (d : List Row) (text p : List ℕ) (at index index2 : ℕ) (m m2 : Memory) → IsUtf8 (drop at text) → IsPrefix p (drop at text) → m2 ≡ record m { marks = m2.marks }
    → index2 ≡ index + length (chars p) → IsSound d m2 index2 (drop (length (chars p)) (chars (drop at text))) → IsStanding d text at index m → IsStanding d text (at + length p) index2 m2
standing_behind d text p at index index2 m m2 u b same moved sound h =
    let split : drop at text ≡ p ++ drop (at + length p) text = left_behind text p at b in
    let word : chars (drop at text) ≡ chars p ++ chars (drop (at + length p) text) = ap chars split ∙ chars-append p (drop (at + length p) text) b.1.1 in
    let count : length (chars (drop at text)) ≡ length (chars p) + length (chars (drop (at + length p) text)) = ap length word ∙ length-append (chars p) (chars (drop (at + length p) text)) in
    let left : drop (length (chars p)) (chars (drop at text)) ≡ chars (drop (at + length p) text) = ap (λ (w : List ℕ). drop (length (chars p)) w) word ∙ drop-append_seam (chars p) (chars (drop (at + length p) text)) in
    let here : index2 + length (chars (drop (at + length p) text)) ≡ index + length (chars (drop at text)) = omega arith in
    record {
      boundary = boundary_behind text p at u b h.boundary;
      small = omega (arith, h.small);
      places =
          let most : index2 + length (chars (drop (at + length p) text)) < 64 * m.places = omega (arith, h.places) in
          subst (λ (n : ℕ). index2 + length (chars (drop (at + length p) text)) < 64 * n) (sym (ap (λ (x : Memory). x.places) same)) most;
      fits = subst (λ (x : Memory). IsFor d x) (sym same) h.fits;
      sound = subst (IsSound d m2 index2) left sound;
    }

-- the same noted pairs serve what is left after k characters
pub sound_behind : (d : List Row) (m : Memory) (index index2 k : ℕ) (w : List ℕ) → index2 ≡ index + k → IsSound d m index w → IsSound d m index2 (drop k w)
sound_behind d m index index2 k w moved sound = λ p place i noted e.
    subst (IsHopeless d p) (sym (drop-drop i k w)) (sound p place (k + i) noted (omega arith))

-- the text between two places, and what is left after the second one
split_between : (text p : List ℕ) (counted at : ℕ) → counted ≤ at → p ≡ take (at - counted) (drop counted text) → drop counted text ≡ p ++ drop at text
split_between text p counted at ahead is =
    let there : counted + (at - counted) ≡ at = omega arith in
    sym (take-append-drop (at - counted) (drop counted text)) ∙ ap (λ (r : List ℕ). take (at - counted) (drop counted text) ++ r) (drop-drop (at - counted) counted text ∙ ap (λ (n : ℕ). drop n text) there)
    ∙ ap (λ (x : List ℕ). x ++ drop at text) (sym is)

-- what the memory knows about the text serves further on, once the characters up to there are counted
pub standing_counted : (d : List Row) (text p : List ℕ) (counted at index count : ℕ) (m : Memory) → IsUtf8 (drop at text) → at ≤ length text → counted ≤ at → p ≡ take (at - counted) (drop counted text)
    → IsUtf8 p → count ≡ length (chars p) → IsStanding d text counted index m → IsStanding d text at (index + count) m
standing_counted d text p counted at index count m u within ahead is v moved h =
    let split : drop counted text ≡ p ++ drop at text = split_between text p counted at ahead is in
    let there : counted + length p ≡ at = omega (arith, ap length split, length-append p (drop at text), length-drop counted text, length-drop at text) in
    let more : index + count ≡ index + length (chars p) = ap (λ (n : ℕ). index + n) moved in
    subst (λ (n : ℕ). IsStanding d text n (index + count) m) there
    (standing_behind d text p counted index (index + count) m m (subst IsUtf8 (sym split) (IsUtf8-append p (drop at text) v u)) (drop at text, (split, v)) refl more
    (sound_behind d m index (index + count) (length (chars p)) (chars (drop counted text)) more h.sound) h)

-- the characters that are still to be counted, before a place and after it
pub count_between : (text p : List ℕ) (counted at : ℕ) → counted ≤ at → p ≡ take (at - counted) (drop counted text) → IsUtf8 p
    → length (chars (drop counted text)) ≡ length (chars p) + length (chars (drop at text))
count_between text p counted at ahead is v =
    ap (λ (t : List ℕ). length (chars t)) (split_between text p counted at ahead is) ∙ ap length (chars-append p (drop at text) v) ∙ length-append (chars p) (chars (drop at text))

-- ---- where the rest begins

pub reached_start : (d : List Row) (text : List ℕ) (m : Memory) → IsUtf8 text → length text < 2 ^ 63 → m.places ≡ length text / 64 + 1 → IsFor d m → ((p k : ℕ) → ¬ IsNoted m p k) → IsReached d text 0 0 0 m
reached_start d text m u small places fits none = record {
  boundary = IsCharBoundary-start text u;
  behind = omega arith;
  standing = standing_start d text m u small places fits none;
}

-- where no match was found by a run that remembers
pub reached_here : (d : List Row) (text : List ℕ) (at index : ℕ) (m : Memory) → IsStanding d text at index m → IsReached d text at at index m
reached_here d text at index m h = record { boundary = h.boundary; behind = omega arith; standing = h }

-- after a match that the table found
pub reached_on : (d : List Row) (text p : List ℕ) (at counted index : ℕ) (m : Memory) → IsUtf8 (drop at text) → IsPrefix p (drop at text) → IsReached d text at counted index m
    → IsReached d text (at + length p) counted index m
reached_on d text p at counted index m u b h = record {
  boundary = boundary_behind text p at u b h.boundary;
  behind = omega (arith, h.behind);
  standing = h.standing;
}

-- the text at a place is the character, and what is left after it
pub split_past : (text rest rest2 : List ℕ) (at c : ℕ) → rest ≡ drop at text → rest ≡ encode_utf8 c ++ rest2 → drop at text ≡ encode_utf8 c ++ drop (at + len_utf8 c) text
split_past text rest rest2 at c here e =
    let first : drop at text ≡ encode_utf8 c ++ rest2 = sym here ∙ e in
    first ∙ ap (λ (r : List ℕ). encode_utf8 c ++ r) (sym (drop_past_char text rest2 at c first))

-- ---- what pays

-- a run that remembers, where `between` characters were counted first: what it reads past its match is less than 64 characters, or pairs pay
pub remembered_pays : (steps steps1 steps2 start end past m between rest rest2 uncounted room1 room2 credit credit2 : ℕ) → steps1 ≡ steps + between → uncounted ≡ between + rest → rest2 ≤ rest → end ≡ start + m
    → steps2 + start + 64 * room2 ≤ steps1 + end + 64 * room1 + 64 → steps2 + start ≤ steps1 + end + past → room2 ≤ room1 → credit2 ≤ credit + (64 - past)
    → steps2 + (64 * room2 + credit2 + rest2) ≤ steps + m + (64 * room1 + credit + uncounted) + 64
remembered_pays steps steps1 steps2 start end past m between rest rest2 uncounted room1 room2 credit credit2 counted all fewer match pays read noted more = omega arith
