-- Rows compared with one by vectors, and the number whose bits say which are at or above it: sixteen at a time, from the last ones to the first.
use Rattle.std.proofs.Common.{◌≡◌, ◌↔◌, ℕ, ◌+◌, ◌-◌, ◌*◌, ◌^◌, ◌%◌, ◌<◌, ◌≤◌, inl, inr, Bool, true, false, cond, leb, List, map, replicate, length, get_or, slice_index, refl, ap, sym, subst, ◌∙◌, arith, w32}
use Rattle.std.specs.Int.{bit_at}
use Rattle.std.specs.Simd.Lanes.{zip2, mask_l, top}
use Rattle.std.proofs.lemmas.Bool.{cases_lt, leb-true, leb-false}
use Rattle.std.proofs.lemmas.List.{length-map, get_or-map}
use Rattle.std.proofs.lemmas.Nat.{pow-add}
use Rattle.std.proofs.lemmas.Nat.Bits.{bit_at_cat_low, bit_at_cat_high}
use Rattle.std.proofs.lemmas.Simd.{bit_mask_l, mask_l-lt, mask_l-mod, tops_compared, zip2_splat_left}
use Rattle.std.proofs.Math.Nat.{pow-le-pow_right}

-- `to_bitmask` of `simd_ge` with a splat
pub compared : (least : ℕ) (v : List ℕ) → length v ≡ 16 → mask_l (map (top 31) (zip2 (λ a b. cond (leb a b) 4294967295 0) (replicate 16 least) v)) % 2 ^ 64 ≡ mask_l (map (leb least) v)
compared least v long =
    ap (λ (ms : List Bool). mask_l ms % 2 ^ 64) (tops_compared w32 leb (replicate 16 least) v ∙ zip2_splat_left leb least 16 v long)
    ∙ mask_l-mod (map (leb least) v) 64 (omega (arith, length-map v (leb least), long))

pub compared_small : (least : ℕ) (v : List ℕ) → length v ≡ 16 → mask_l (map (leb least) v) < 2 ^ 16
compared_small least v long = subst (λ (n : ℕ). mask_l (map (leb least) v) < 2 ^ n) (length-map v (leb least) ∙ long) (mask_l-lt (map (leb least) v))

told : (least x : ℕ) (b : Bool) → leb least x ≡ b → (cond {A = ℕ} b 1 0 ≡ 1) ↔ (least ≤ x)
told least x true e = (λ h. leb-true least x e, λ h. refl)
told least x false e = (λ h. absurd (omega arith), λ h. absurd (omega (arith, leb-false least x e)))

pub compared_bit : (least : ℕ) (v : List ℕ) (k : ℕ) → k < length v → (bit_at (mask_l (map (leb least) v)) k ≡ 1) ↔ (least ≤ slice_index v k)
compared_bit least v k within =
    let e : bit_at (mask_l (map (leb least) v)) k ≡ cond (leb least (get_or v k 0)) 1 0 =
    bit_mask_l (map (leb least) v) k ∙ ap (λ (b : Bool). cond {A = ℕ} b 1 0) (get_or-map (leb least) v k 0 false within) in
    let t = told least (get_or v k 0) (leb least (get_or v k 0)) refl in
    (λ h. t.0 (sym e ∙ h), λ h. e ∙ t.1 h)

-- the last `count` sixteens of 64 rows, and their bits
pub record AreBitsOfSixteens (least : ℕ) (rows : List ℕ) (count bits : ℕ) : Type 0 where
  pub few : count ≤ 4
  pub small : bits < 2 ^ (count * 16)
  pub room : count < 4 → bits < 2 ^ 48
  pub are : (i : ℕ) → i < count * 16 → ((bit_at bits i ≡ 1) ↔ (least ≤ slice_index rows (64 - count * 16 + i)))

-- sixteen rows more, before these
module _ (least : ℕ) (rows : List ℕ) (count bits some : ℕ) (l : count < 4) (small : some < 65536) (is : (i : ℕ) → i < 16 → ((bit_at some i ≡ 1) ↔ (least ≤ slice_index rows (48 - count * 16 + i)))) (h : AreBitsOfSixteens least rows count bits) where
  fewer : bits * 65536 + some < 2 ^ ((count + 1) * 16)
  fewer =
      let next : count * 16 + 16 ≡ (count + 1) * 16 = omega arith in
      let more : 2 ^ ((count + 1) * 16) ≡ 2 ^ (count * 16) * 65536 = ap (λ (n : ℕ). 2 ^ n) (sym next) ∙ pow-add 2 (count * 16) 16 in
      omega (arith, more, h.small, small)

  bit_more : (i : ℕ) → i < (count + 1) * 16 → ((bit_at (bits * 65536 + some) i ≡ 1) ↔ (least ≤ slice_index rows (64 - (count + 1) * 16 + i)))
  bit_more i below = elim (cases_lt i 16) [
    | inl low ↦
        let place : 48 - count * 16 + i ≡ 64 - (count + 1) * 16 + i = omega (arith, l) in
        subst (λ (n : ℕ). (bit_at (bits * 65536 + some) i ≡ 1) ↔ (least ≤ slice_index rows n)) place
        (subst (λ (b : ℕ). (b ≡ 1) ↔ (least ≤ slice_index rows (48 - count * 16 + i))) (sym (bit_at_cat_low bits 16 some i low)) (is i low))
    | inr high ↦
        let place : 64 - count * 16 + (i - 16) ≡ 64 - (count + 1) * 16 + i = omega (arith, l, high) in
        subst (λ (n : ℕ). (bit_at (bits * 65536 + some) i ≡ 1) ↔ (least ≤ slice_index rows n)) place
        (subst (λ (b : ℕ). (b ≡ 1) ↔ (least ≤ slice_index rows (64 - count * 16 + (i - 16)))) (sym (bit_at_cat_high bits 16 some i small high)) (h.are (i - 16) (omega (arith, below, high))))
  ]

  pub sixteen_more : AreBitsOfSixteens least rows (count + 1) (bits * 65536 + some)
  sixteen_more = record {
    few = omega (arith, l);
    small = fewer;
    room = λ some.
        let most : 2 ^ ((count + 1) * 16) ≤ 2 ^ 48 = pow-le-pow_right {n = 2} (omega arith) {i = (count + 1) * 16} {j = 48} (omega (arith, some)) in
        omega (arith, fewer, most);
    are = bit_more;
  }
