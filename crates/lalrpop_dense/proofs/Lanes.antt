-- From the lanes at which a load stops to the bytes before them.
use Rattle.std.proofs.Common.{◌≡◌, ◌≢◌, ℕ, zero, suc, ◌+◌, ◌*◌, ◌/◌, ◌%◌, ◌^◌, ◌<◌, ◌≤◌, ◌⊎◌, inl, inr, eqb, leb, cond, Bool, true, false, not, List, [], ◌∷◌, ◌++◌, map, length, get_or, replicate, bit_and, refl, sym, ap, ap₂, ◌∙◌, arith, lit≤, w8, Fits, eqb-true}
use Rattle.std.proofs.Math.Nat.{zero-mul, one-mul}
use Rattle.std.proofs.lemmas.Bool.{leb-false, eqb-false}
use Rattle.std.proofs.lemmas.Nat.{and_mask, and_le_r, pow_pos}
use Rattle.std.proofs.lemmas.Nat.Bits.{and_pow, bit_at-lt}
use Rattle.std.proofs.lemmas.List.{length-map, ext_get_or, get_or-map, get_or_append_left}
use Rattle.std.proofs.lemmas.List.FromFn.{get_or-map-range_with_len}
use Rattle.std.proofs.lemmas.Simd.{zip2_splat, zip2_splat_left, zip2_of_maps, splat_is_map, map-map, mask_l-mod, length-chunk, first_set_mask_l, run_in_chunk_le, run_in_chunk_fails, run_in_chunk_stops, none_from_empty_mask, Each1-all, Each1-weaker, Each1-zip2, Each1-get_or, Each2-splat, below_from_Fits, swz_l, SwzOk, SwzOk-from_below, length-swz_l, get_or-swz_l_below}
use Rattle.std.specs.Int.{bit_at}
use Rattle.std.specs.Int.Bits.{and_zero_r}
use Rattle.std.specs.List.{prefix_len, range_with_len}
use lib.Lanes.{chunk, zip2, mask_l, top, Each1}
use Rattle.lalrpop_dense.specs.Internal.SelfLoops.{IsIn, AreIn, first_set}
use Rattle.lalrpop_dense.specs.declared.self_loop.TheConstants.{HIGH_BITS}
use Rattle.lalrpop_dense.specs.declared.self_loop.SelfLoop.{SelfLoop}

-- all bits of a lane, or none
abbrev pub bits_of : (ℕ → Bool) → ℕ → ℕ
bits_of p x = cond (p x) 255 0

top_bit : (a : Bool) → top 7 (cond a 255 0) ≡ a
top_bit true = refl
top_bit false = refl

tops : (p : ℕ → Bool) (xs : List ℕ) → map (top 7) (map (bits_of p) xs) ≡ map p xs
tops p [] = refl
tops p (x ∷ xs) = ap₂ (λ (b : Bool) (bs : List Bool). b ∷ bs) (top_bit (p x)) (tops p xs)

-- places below 16 may be looked up
pub places_fit : (places : List ℕ) → length places ≡ 32 → Each1 (λ j. j < 16) places → SwzOk w8 16 32 0 places
places_fit places long below = SwzOk-from_below w8 16 2 32 0 places refl (omega (arith, long)) below

-- what a vector that holds a table of 16 twice gives at places below 16
pub looked_up : (table wide places : List ℕ) → length places ≡ 32 → Each1 (λ j. j < 16) places → ((k : ℕ) → k < 32 → get_or wide k 0 ≡ get_or table (k % 16) 0)
    → swz_l w8 16 wide 0 places ≡ map (λ j. get_or table j 0) places
looked_up table wide places long below twice =
    ext_get_or 0 _ _ (length-swz_l w8 16 wide 0 places ∙ sym (length-map places (λ j. get_or table j 0))) (λ i within.
    let inside : i < length places = omega (arith, within, length-swz_l w8 16 wide 0 places) in
    let small : get_or places i 0 < 16 = Each1-get_or (λ j. j < 16) places i 0 inside below in
    get_or-swz_l_below w8 16 wide 0 places i inside small ∙ twice (16 * ((0 + i) / 16) + get_or places i 0) (omega (arith, small, inside, long))
    ∙ ap (λ j. get_or table j 0) (omega (arith, small)) ∙ sym (get_or-map (λ j. get_or table j 0) places i 0 0 inside))

-- a table of 16 and the same again
abbrev pub doubled : List ℕ → List ℕ
doubled table = map (λ j. get_or (table ++ table) (j % 16) 0) (range_with_len 0 32)

pub held_twice : (table : List ℕ) → length table ≡ 16 → (k : ℕ) → k < 32 → get_or (doubled table) k 0 ≡ get_or table (k % 16) 0
held_twice table long k within =
    get_or-map-range_with_len (λ j. get_or (table ++ table) (j % 16) 0) 0 32 k k 0 within (omega arith) ∙ get_or_append_left table table 0 (k % 16) (omega (arith, long))

-- the low halves of bytes, and their high halves
abbrev pub low_halves : List ℕ → List ℕ
low_halves v = zip2 bit_and v (replicate 32 15)

abbrev pub shifted : ℕ → ℕ → ℕ
shifted a b = a / 2 ^ b

abbrev pub high_halves : List ℕ → List ℕ
high_halves v = zip2 shifted v (replicate 32 4)

pub low_halves_below : (v : List ℕ) → Each1 (λ j. j < 16) (low_halves v)
low_halves_below v = Each1-zip2 bit_and (λ j. j < 16) v (replicate 32 15) (Each2-splat (λ a b. bit_and a b < 16) v 32 15 (Each1-all (λ a. bit_and a 15 < 16) (λ a. omega (arith, and_le_r a 15)) v))

pub high_halves_below : (v : List ℕ) → Each1 (Fits w8) v → Each1 (λ j. j < 16) (high_halves v)
high_halves_below v fits =
    let small = Each1-weaker (λ a. a < 256) (λ a. a / 16 < 16) (λ a h. omega arith) v (below_from_Fits w8 v fits) in
    Each1-zip2 shifted (λ j. j < 16) v (replicate 32 4) (Each2-splat (λ a b. shifted a b < 16) v 32 4 small)

-- the entry of the byte's low half lacks the bit of its high half
abbrev pub stops : SelfLoop → ℕ → Bool
stops s x = eqb (bit_and (get_or s.set (bit_and x 15) 0) (get_or HIGH_BITS (x / 2 ^ 4) 0)) 0

zeros : (n h : ℕ) → get_or {A = ℕ} (replicate n 0) h 0 ≡ 0
zeros zero h = refl
zeros (suc n) zero = refl
zeros (suc n) (suc h) = zeros n h

high_bit : (h : ℕ) → ((h < 8) × (get_or HIGH_BITS h 0 ≡ 2 ^ h)) ⊎ ((8 ≤ h) × (get_or HIGH_BITS h 0 ≡ 0))
high_bit zero = inl (lit≤ tt, refl)
high_bit (suc zero) = inl (lit≤ tt, refl)
high_bit (suc (suc zero)) = inl (lit≤ tt, refl)
high_bit (suc (suc (suc zero))) = inl (lit≤ tt, refl)
high_bit (suc (suc (suc (suc zero)))) = inl (lit≤ tt, refl)
high_bit (suc (suc (suc (suc (suc zero))))) = inl (lit≤ tt, refl)
high_bit (suc (suc (suc (suc (suc (suc zero)))))) = inl (lit≤ tt, refl)
high_bit (suc (suc (suc (suc (suc (suc (suc zero))))))) = inl (lit≤ tt, refl)
high_bit (suc (suc (suc (suc (suc (suc (suc (suc h)))))))) = inr (omega arith, zeros 8 h)

-- the bit of an ASCII byte, where its high bit is 2 ^ h
entry_bit : (s : SelfLoop) (x : ℕ) → get_or HIGH_BITS (x / 16) 0 ≡ 2 ^ (x / 16)
    → bit_and (get_or s.set (bit_and x 15) 0) (get_or HIGH_BITS (x / 2 ^ 4) 0) ≡ bit_at (get_or s.set (x % 16) 0) (x / 16) * 2 ^ (x / 16)
entry_bit s x is = ap₂ (λ (p q : ℕ). bit_and (get_or s.set p 0) q) (and_mask x 4) is ∙ and_pow (get_or s.set (x % 16) 0) (x / 16)

is_one : (b p : ℕ) → b < 2 → b * p ≢ 0 → b ≡ 1
is_one zero p lt some = absurd (some (zero-mul p))
is_one (suc zero) p lt some = refl
is_one (suc (suc b)) p lt some = absurd (omega arith)

is_in : (s : SelfLoop) (x : ℕ) → stops s x ≡ false → IsIn s x
is_in s x e = go (high_bit (x / 16))
  where
    some : bit_and (get_or s.set (bit_and x 15) 0) (get_or HIGH_BITS (x / 2 ^ 4) 0) ≢ 0
    some = eqb-false _ _ e

    go : ((x / 16 < 8) × (get_or HIGH_BITS (x / 16) 0 ≡ 2 ^ (x / 16))) ⊎ ((8 ≤ x / 16) × (get_or HIGH_BITS (x / 16) 0 ≡ 0)) → IsIn s x
    go (inl (low, is)) = record {
      ascii = omega (arith, low);
      set = is_one _ (2 ^ (x / 16)) (bit_at-lt (get_or s.set (x % 16) 0) (x / 16)) (λ none. some (entry_bit s x is ∙ none));
    }
    go (inr (high, none)) = absurd (some (ap (bit_and (get_or s.set (bit_and x 15) 0)) none ∙ and_zero_r (get_or s.set (bit_and x 15) 0)))

isnt_in : (s : SelfLoop) (x : ℕ) → stops s x ≡ true → ¬ IsIn s x
isnt_in s x e has = go (high_bit (x / 16))
  where
    go : ((x / 16 < 8) × (get_or HIGH_BITS (x / 16) 0 ≡ 2 ^ (x / 16))) ⊎ ((8 ≤ x / 16) × (get_or HIGH_BITS (x / 16) 0 ≡ 0)) → ⊥
    go (inl (low, is)) =
        let none : bit_at (get_or s.set (x % 16) 0) (x / 16) * 2 ^ (x / 16) ≡ 0 = sym (entry_bit s x is) ∙ eqb-true _ _ e in
        let power : 2 ^ (x / 16) ≡ 0 = sym (one-mul (2 ^ (x / 16))) ∙ ap (λ (b : ℕ). b * 2 ^ (x / 16)) (sym has.set) ∙ none in
        omega (arith, power, pow_pos (x / 16))
    go (inr (high, none)) = omega (arith, has.ascii, high)

abbrev pub equal : ℕ → ℕ → ℕ
equal a b = cond (eqb a b) 255 0

-- the lanes at which a load stops
abbrev pub lanes_of : SelfLoop → List ℕ → List ℕ
lanes_of s v = zip2 equal (zip2 bit_and (map (λ j. get_or s.set j 0) (low_halves v)) (map (λ j. get_or HIGH_BITS j 0) (high_halves v))) (replicate 32 0)

lanes_are : (s : SelfLoop) (v : List ℕ) → length v ≡ 32 → lanes_of s v ≡ map (bits_of (stops s)) v
lanes_are s v long =
    let low : map (λ j. get_or s.set j 0) (low_halves v) ≡ map (λ x. get_or s.set (bit_and x 15) 0) v =
    ap (map (λ j. get_or s.set j 0)) (zip2_splat bit_and v 32 15 long) ∙ map-map (λ j. get_or s.set j 0) (λ x. bit_and x 15) v in
    let high : map (λ j. get_or HIGH_BITS j 0) (high_halves v) ≡ map (λ x. get_or HIGH_BITS (x / 2 ^ 4) 0) v =
    ap (map (λ j. get_or HIGH_BITS j 0)) (zip2_splat shifted v 32 4 long) ∙ map-map (λ j. get_or HIGH_BITS j 0) (λ x. x / 2 ^ 4) v in
    zip2_of_maps equal (λ x. bit_and (get_or s.set (bit_and x 15) 0) (get_or HIGH_BITS (x / 2 ^ 4) 0)) (λ x. 0) v
    (zip2_of_maps bit_and (λ x. get_or s.set (bit_and x 15) 0) (λ x. get_or HIGH_BITS (x / 2 ^ 4) 0) v low high) (splat_is_map v 32 0 long)

-- the bytes before the first lane that stops
pub run_is_in : (s : SelfLoop) (bytes : List ℕ) (at run : ℕ) → at + 32 ≤ length bytes
    → run ≡ first_set (mask_l (map (top 7) (lanes_of s (chunk at 32 bytes))) % 2 ^ 64) → (run ≤ 32) × AreIn s bytes at (at + run) × (run < 32 → ¬ IsIn s (get_or bytes (at + run) 0))
run_is_in s bytes at run room found =
    let v = chunk at 32 bytes in
    let long : length v ≡ 32 = length-chunk at 32 bytes room in
    let mask : mask_l (map (top 7) (lanes_of s v)) % 2 ^ 64 ≡ mask_l (map (stops s) v) =
    ap (λ (l : List ℕ). mask_l (map (top 7) l) % 2 ^ 64) (lanes_are s v long) ∙ ap (λ (l : List Bool). mask_l l % 2 ^ 64) (tops (stops s) v)
    ∙ mask_l-mod (map (stops s) v) 64 (omega (arith, length-map v (stops s), long)) in
    let counted : run ≡ prefix_len (λ x. not (stops s x)) v = found ∙ ap first_set mask ∙ first_set_mask_l (stops s) v 32 long (lit≤ tt) in (
      run_in_chunk_le (stops s) bytes at 32 run 0 room counted,
      λ k from to. is_in s (get_or bytes k 0) (run_in_chunk_fails (stops s) bytes at 32 run 0 room counted k from to),
      λ short. isnt_in s (get_or bytes (at + run) 0) (run_in_chunk_stops (stops s) bytes at 32 run 0 room counted short),
    )

abbrev at_most : ℕ → ℕ → ℕ
at_most a b = cond (leb a b) 255 0

-- the bytes of a load, none of which has its highest bit set
pub no_high : (bytes : List ℕ) (at : ℕ) → at + 8 ≤ length bytes → mask_l (map (top 7) (zip2 at_most (replicate 8 128) (chunk at 8 bytes))) % 2 ^ 64 ≡ 0
    → (k : ℕ) → at ≤ k → k < at + 8 → get_or bytes k 0 < 128
no_high bytes at room none k from to =
    let v = chunk at 8 bytes in
    let is_high : ℕ → Bool = λ x. leb 128 x in
    let long : length v ≡ 8 = length-chunk at 8 bytes room in
    let lanes : zip2 at_most (replicate 8 128) v ≡ map (bits_of is_high) v = zip2_splat_left at_most 128 8 v long in
    let mask : mask_l (map (top 7) (zip2 at_most (replicate 8 128) v)) % 2 ^ 64 ≡ mask_l (map is_high v) =
    ap (λ (l : List ℕ). mask_l (map (top 7) l) % 2 ^ 64) lanes ∙ ap (λ (l : List Bool). mask_l l % 2 ^ 64) (tops is_high v)
    ∙ mask_l-mod (map is_high v) 64 (omega (arith, length-map v is_high, long)) in
    leb-false 128 (get_or bytes k 0) (none_from_empty_mask is_high bytes at 8 0 room (sym mask ∙ none) k from to)
