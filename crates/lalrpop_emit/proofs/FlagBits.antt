-- Flags, each 0 or 1, and the number whose bits they are: eight of them at a time, from the last ones to the first.
use Rattle.std.proofs.Common.{◌≡◌, ℕ, ◌+◌, ◌-◌, ◌*◌, ◌^◌, ◌<◌, ◌≤◌, inl, inr, List, slice_index, take, drop, ap, sym, ◌∙◌, arith}
use Rattle.std.specs.Int.{bit_at}
use Rattle.std.proofs.lemmas.Bool.{cases_lt}
use Rattle.std.proofs.lemmas.List.{get_or-take, get_or-drop}
use Rattle.std.proofs.lemmas.Nat.{pow-add}
use Rattle.std.proofs.lemmas.Nat.Bits.{bit_at_cat_low, bit_at_cat_high}
use Rattle.std.proofs.Math.Nat.{pow-le-pow_right}

-- the numbers of a part
pub index_in_part : (xs : List ℕ) (from size i : ℕ) → i < size → slice_index (take size (drop from xs)) i ≡ slice_index xs (from + i)
index_in_part xs from size i l = get_or-take size (drop from xs) i 0 l ∙ get_or-drop from xs i 0

-- the last `count` eights of 64 flags, and their bits
pub record AreBitsOfEights (flags : List ℕ) (count bits : ℕ) : Type 0 where
  pub few : count ≤ 8
  pub small : bits < 2 ^ (count * 8)
  pub room : count < 8 → bits < 2 ^ 56
  pub are : (i : ℕ) → i < count * 8 → bit_at bits i ≡ slice_index flags (64 - count * 8 + i)

pub no_eights : (flags : List ℕ) → AreBitsOfEights flags 0 0
no_eights flags = record {
  few = omega arith;
  small = omega arith;
  room = λ l. omega arith;
  are = λ i l. absurd (omega (arith, l));
}

-- eight flags more, before these
module _ (flags : List ℕ) (count bits eight : ℕ) (l : count < 8) (small : eight < 256) (is : (i : ℕ) → i < 8 → bit_at eight i ≡ slice_index flags (56 - count * 8 + i)) (h : AreBitsOfEights flags count bits) where
  fewer : bits * 256 + eight < 2 ^ ((count + 1) * 8)
  fewer =
      let next : count * 8 + 8 ≡ (count + 1) * 8 = omega arith in
      let more : 2 ^ ((count + 1) * 8) ≡ 2 ^ (count * 8) * 256 = ap (λ (n : ℕ). 2 ^ n) (sym next) ∙ pow-add 2 (count * 8) 8 in
      omega (arith, more, h.small, small)

  bit_more : (i : ℕ) → i < (count + 1) * 8 → bit_at (bits * 256 + eight) i ≡ slice_index flags (64 - (count + 1) * 8 + i)
  bit_more i below = elim (cases_lt i 8) [
    | inl low ↦
        let place : 56 - count * 8 + i ≡ 64 - (count + 1) * 8 + i = omega (arith, l) in
        bit_at_cat_low bits 8 eight i low ∙ is i low ∙ ap (slice_index flags) place
    | inr high ↦
        let place : 64 - count * 8 + (i - 8) ≡ 64 - (count + 1) * 8 + i = omega (arith, l, high) in
        bit_at_cat_high bits 8 eight i small high ∙ h.are (i - 8) (omega (arith, below, high)) ∙ ap (slice_index flags) place
  ]

  pub eight_more : AreBitsOfEights flags (count + 1) (bits * 256 + eight)
  eight_more = record {
    few = omega (arith, l);
    small = fewer;
    room = λ some.
        let most : 2 ^ ((count + 1) * 8) ≤ 2 ^ 56 = pow-le-pow_right {n = 2} (omega arith) {i = (count + 1) * 8} {j = 56} (omega (arith, some)) in
        omega (arith, fewer, most);
    are = bit_more;
  }
