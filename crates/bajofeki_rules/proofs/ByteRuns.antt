-- From the lanes at which a load stops to the bytes before them, and what those bytes are in a text.
use Rattle.std.proofs.Common.{◌≡◌, ℕ, ◌+◌, ◌%◌, ◌^◌, ◌<◌, ◌≤◌, eqb, ltb, leb, cond, Bool, true, false, not, ◌||◌, List, [], ◌∷◌, ◌++◌, map, length, suc, get_or, replicate, bit_or, refl, ap, ap₂, ◌∙◌, arith, lit≤, flat_map}
use Rattle.std.specs.List.{prefix_len}
use Rattle.std.specs.Str.{IsAscii}
use Rattle.std.proofs.lemmas.Bool.{ltb-false, leb-false, eqb-false}
use Rattle.std.proofs.lemmas.Simd.{zip2_splat, zip2_splat_left, mask_l-mod, length-chunk, first_set_mask_l, run_in_chunk_le, run_in_chunk_fails}
use Rattle.std.proofs.lemmas.List.{length-map}
use Rattle.std.proofs.lemmas.List.Elements.{All-from_get_or}
use Rattle.std.proofs.lemmas.Str.{chars-IsAscii, encode_ascii}
use Rattle.std.proofs.lemmas.Str.Ascii.{IsAscii-from_all}
use lib.Lanes.{chunk, zip2, mask_l, top}
use Rattle.bajofeki_rules.specs.Quoted.{told, quoted}
use Rattle.bajofeki_rules.specs.Internal.ByteRuns.{IsPlain, IsInLine, first_set}
use Rattle.bajofeki_rules.proofs.Quotes.{told_plain}
use Rattle.bajofeki_rules.proofs.Unseen.{seen_in_ascii}

-- ---- lanes

-- all bits of a lane, or none
abbrev bits_of : (ℕ → Bool) → ℕ → ℕ
bits_of p x = cond (p x) 255 0

either_bit : (a b : Bool) → bit_or (cond a 255 0) (cond b 255 0) ≡ cond (a || b) 255 0
either_bit true true = refl
either_bit true false = refl
either_bit false true = refl
either_bit false false = refl

-- lanes of two tests
either : (p q : ℕ → Bool) (v : List ℕ) {a b : List ℕ} → a ≡ map (bits_of p) v → b ≡ map (bits_of q) v → zip2 bit_or a b ≡ map (bits_of (λ x. p x || q x)) v
either p q v e f = ap₂ (zip2 bit_or) e f ∙ both v
  where
    both : (xs : List ℕ) → zip2 bit_or (map (bits_of p) xs) (map (bits_of q) xs) ≡ map (bits_of (λ x. p x || q x)) xs
    both [] = refl
    both (x ∷ xs) = ap₂ (λ (n : ℕ) (ns : List ℕ). n ∷ ns) (either_bit (p x) (q x)) (both xs)

top_bit : (a : Bool) → top 7 (cond a 255 0) ≡ a
top_bit true = refl
top_bit false = refl

tops : (p : ℕ → Bool) (xs : List ℕ) → map (top 7) (map (bits_of p) xs) ≡ map p xs
tops p [] = refl
tops p (x ∷ xs) = ap₂ (λ (b : Bool) (bs : List Bool). b ∷ bs) (top_bit (p x)) (tops p xs)

-- no byte before the first lane that stops does
run_goes_on : (stops : ℕ → Bool) (bytes lanes : List ℕ) (at run : ℕ) → at + 32 ≤ length bytes → lanes ≡ map (bits_of stops) (chunk at 32 bytes)
    → run ≡ first_set (mask_l (map (top 7) lanes) % 2 ^ 64) → (run ≤ 32) × ((k : ℕ) → at ≤ k → k < at + run → stops (get_or bytes k 0) ≡ false)
run_goes_on stops bytes lanes at run room are found =
    let v = chunk at 32 bytes in
    let long : length v ≡ 32 = length-chunk at 32 bytes room in
    let mask : mask_l (map (top 7) lanes) % 2 ^ 64 ≡ mask_l (map stops v) =
    ap (λ (l : List ℕ). mask_l (map (top 7) l) % 2 ^ 64) are ∙ ap (λ (l : List Bool). mask_l l % 2 ^ 64) (tops stops v)
    ∙ mask_l-mod (map stops v) 64 (omega (arith, length-map v stops, long)) in
    let counted : run ≡ prefix_len (λ x. not (stops x)) v = found ∙ ap first_set mask ∙ first_set_mask_l stops v 32 long (lit≤ tt) in
    (run_in_chunk_le stops bytes at 32 run 0 room counted, λ k from to. run_in_chunk_fails stops bytes at 32 run 0 room counted k from to)

neither : (a b : Bool) → (a || b) ≡ false → (a ≡ false) × (b ≡ false)
neither false b e = (refl, e)
neither true b e = (e, absurd (cc e))

abbrev below : ℕ → ℕ → ℕ
below a b = cond (ltb a b) 255 0

abbrev at_most : ℕ → ℕ → ℕ
at_most a b = cond (leb a b) 255 0

abbrev equal : ℕ → ℕ → ℕ
equal a b = cond (eqb a b) 255 0

-- ---- bytes that quotes leave as they are

abbrev needs_care : ℕ → Bool
needs_care x = ((ltb x 32 || ltb 126 x) || eqb x 34) || eqb x 92

is_plain : (x : ℕ) → needs_care x ≡ false → IsPlain x
is_plain x e =
    let h = neither ((ltb x 32 || ltb 126 x) || eqb x 34) (eqb x 92) e in
    let i = neither (ltb x 32 || ltb 126 x) (eqb x 34) h.0 in
    let j = neither (ltb x 32) (ltb 126 x) i.0 in
    record { low = ltb-false x 32 j.0; high = ltb-false 126 x j.1; quote = eqb-false x 34 i.1; backslash = eqb-false x 92 h.1 }

pub plain_lanes : (bytes : List ℕ) (at run : ℕ) → at + 32 ≤ length bytes
    → run ≡ first_set (mask_l (map (top 7) (zip2 bit_or (zip2 bit_or (zip2 bit_or (zip2 below (chunk at 32 bytes) (replicate 32 32)) (zip2 below (replicate 32 126) (chunk at 32 bytes)))
    (zip2 equal (chunk at 32 bytes) (replicate 32 34))) (zip2 equal (chunk at 32 bytes) (replicate 32 92)))) % 2 ^ 64)
    → (run ≤ 32) × ((k : ℕ) → at ≤ k → k < at + run → IsPlain (get_or bytes k 0))
plain_lanes bytes at run room found =
    let v = chunk at 32 bytes in
    let long : length v ≡ 32 = length-chunk at 32 bytes room in
    let are =
    either (λ x. (ltb x 32 || ltb 126 x) || eqb x 34) (λ x. eqb x 92) v
    (either (λ x. ltb x 32 || ltb 126 x) (λ x. eqb x 34) v
    (either (λ x. ltb x 32) (λ x. ltb 126 x) v (zip2_splat below v 32 32 long) (zip2_splat_left below 126 32 v long))
    (zip2_splat equal v 32 34 long)) (zip2_splat equal v 32 92 long) in
    let goes_on = run_goes_on needs_care bytes _ at run room are found in
    (goes_on.0, λ k from to. is_plain (get_or bytes k 0) (goes_on.1 k from to))

-- ---- bytes within a line

abbrev ends_run : ℕ → Bool
ends_run x = leb 128 x || eqb x 10

is_in_line : (x : ℕ) → ends_run x ≡ false → IsInLine x
is_in_line x e =
    let h = neither (leb 128 x) (eqb x 10) e in
    record { ascii = leb-false 128 x h.0; feed = eqb-false x 10 h.1 }

pub line_lanes : (bytes : List ℕ) (at run : ℕ) → at + 32 ≤ length bytes
    → run ≡ first_set (mask_l (map (top 7) (zip2 bit_or (zip2 at_most (replicate 32 128) (chunk at 32 bytes)) (zip2 equal (chunk at 32 bytes) (replicate 32 10)))) % 2 ^ 64)
    → (run ≤ 32) × ((k : ℕ) → at ≤ k → k < at + run → IsInLine (get_or bytes k 0))
line_lanes bytes at run room found =
    let v = chunk at 32 bytes in
    let long : length v ≡ 32 = length-chunk at 32 bytes room in
    let are = either (λ x. leb 128 x) (λ x. eqb x 10) v (zip2_splat_left at_most 128 32 v long) (zip2_splat equal v 32 10 long) in
    let goes_on = run_goes_on ends_run bytes _ at run room are found in
    (goes_on.0, λ k from to. is_in_line (get_or bytes k 0) (goes_on.1 k from to))

-- ---- in a text

abbrev pub EachPlain : List ℕ → Type 0
EachPlain s = (k : ℕ) → k < length s → IsPlain (get_or s k 0)

told_as_is : (c : ℕ) → IsPlain c → told c ≡ c ∷ []
told_as_is c plain = told_plain c plain.quote plain.backslash (seen_in_ascii c plain.low (omega (arith, plain.high))) ∙ encode_ascii c (omega (arith, plain.high))

all_told : (s : List ℕ) → EachPlain s → flat_map told s ≡ s
all_told [] plain = refl
all_told (x ∷ xs) plain =
    let later : flat_map told xs ≡ xs = all_told xs (λ k within. plain (suc k) (omega (arith, within))) in
    ap (λ (t : List ℕ). t ++ flat_map told xs) (told_as_is x (plain 0 (omega arith))) ∙ ap (λ (t : List ℕ). x ∷ t) later

-- a slice of such bytes is quoted as it is
pub quoted_as_is : (s : List ℕ) → EachPlain s → quoted s ≡ 34 ∷ (s ++ 34 ∷ [])
quoted_as_is s plain =
    let ascii : IsAscii s = IsAscii-from_all s (All-from_get_or (λ b. b < 128) s 0 (λ k within. omega (arith, (plain k within).high))) in
    ap (λ (w : List ℕ). 34 ∷ (flat_map told w ++ 34 ∷ [])) (chars-IsAscii s ascii) ∙ ap (λ (t : List ℕ). 34 ∷ (t ++ 34 ∷ [])) (all_told s plain)
