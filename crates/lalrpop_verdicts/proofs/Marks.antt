-- Words of 64 bits, one bit for each value.
use Rattle.std.proofs.Common.{◌≡◌, ℕ, ◌*◌, ◌/◌, ◌%◌, ◌^◌, ◌<◌, ◌⊎◌, inl, inr, List, length, get_or, set, ap, sym, ◌∙◌, arith}
use Rattle.std.specs.Prelude.{slice_index, bit_or}
use Rattle.std.specs.Int.{bit_at}
use Rattle.std.proofs.lemmas.Bool.{cases_eq}
use Rattle.std.proofs.lemmas.List.{get_or-set_same, get_or-set_other}
use Rattle.std.proofs.lemmas.Nat.{one_shl}
use Rattle.std.proofs.lemmas.Nat.Bits.{bit_at_or, bit_at-pow_other}
use Rattle.lalrpop_verdicts.specs.Internal.Classes.{AreMarkedWith}

-- a bit that is set was set, or is this one
set_bit : (old k i : ℕ) → k < 64 → bit_at (bit_or old (1 * 2 ^ k % 2 ^ 64)) i ≡ 1 → (bit_at old i ≡ 1) ⊎ (i ≡ k)
set_bit old k i small is = elim (cases_eq i k) [
  | inl same ↦ inr same
  | inr other ↦
      let one : 1 * 2 ^ k % 2 ^ 64 ≡ 2 ^ k = one_shl k 64 small in
      inl (omega (arith, is, bit_at_or old (1 * 2 ^ k % 2 ^ 64) i, ap (λ (n : ℕ). bit_at n i) one, bit_at-pow_other k i other))
]

pub marked_with : (marks : List ℕ) (v : ℕ) → v / 64 < length marks → AreMarkedWith marks v (set marks (v / 64) (bit_or (get_or marks (v / 64) 0) (1 * 2 ^ (v % 64) % 2 ^ 64)))
marked_with marks v within c marked =
    let bits = bit_or (get_or marks (v / 64) 0) (1 * 2 ^ (v % 64) % 2 ^ 64) in
    elim (cases_eq (c / 64) (v / 64)) [
      | inl same ↦
          let there : bit_at bits (c % 64) ≡ 1 =
          ap (λ (n : ℕ). bit_at n (c % 64)) (sym (get_or-set_same marks (v / 64) bits 0 within) ∙ ap (slice_index (set marks (v / 64) bits)) (sym same)) ∙ marked in
          elim (set_bit (get_or marks (v / 64) 0) (v % 64) (c % 64) (omega arith) there) [
            | inl old ↦ inl (ap (λ (n : ℕ). bit_at (slice_index marks n) (c % 64)) same ∙ old)
            | inr bit ↦ inr (omega (arith, same, bit))
          ]
      | inr other ↦ inl (ap (λ (n : ℕ). bit_at n (c % 64)) (sym (get_or-set_other marks (v / 64) (c / 64) bits 0 other)) ∙ marked)
    ]
