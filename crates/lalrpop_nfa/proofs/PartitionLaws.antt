-- What a list being the partition of a set of ranges says of its blocks.
use Rattle.std.proofs.Common.{◌≡◌, ℕ, ◌+◌, ◌≤◌, ◌↔◌, ◌⊎◌, inl, inr, List, sym, ap, ◌∙◌, arith}
use Rattle.std.specs.List.{Contains}
use Rattle.std.proofs.lemmas.Bool.{cases_lt}
use Rattle.lalrpop_hir.specs.Range.{Range, Covers}
use Rattle.lalrpop_nfa.specs.Partition.{Ranges, IsCovered, Alike, IsUniform, IsPartition}
use Rattle.lalrpop_nfa.proofs.Cells.{alike_sym, alike_trans, covered_along}
use Rattle.lalrpop_nfa.proofs.BlockCover.{block_of_covered}
use Rattle.lalrpop_nfa.proofs.Partition.{same_block}

covers_or_not : (r : Range) (c : ℕ) → Covers r c ⊎ (¬ Covers r c)
covers_or_not r c = elim (cases_lt c r.start) [
  | inl before ↦ inr (λ k. omega (arith, k.0))
  | inr from ↦ elim (cases_lt r.end c) [ inl behind ↦ inr (λ k. omega (arith, k.1)) | inr within ↦ inl (from, within) ]
]

module _ (R : Ranges) (xs : List Range) (h : IsPartition R xs) where
  pub blocks_nonempty : (x : Range) → Contains xs x → x.start ≤ x.end
  blocks_nonempty x a = (h.are_blocks x a).uniform.holds_one

  -- blocks that share a value are equal
  pub blocks_disjoint : (x y : Range) (c : ℕ) → Contains xs x → Contains xs y → Covers x c → Covers y c → x ≡ y
  blocks_disjoint x y c a b = same_block R x y (h.are_blocks x a) (h.are_blocks y b) c

  -- each range of the set contains all values of a block, or none
  pub block_in_or_out : (x r : Range) → Contains xs x → R r → ((c : ℕ) → Covers x c → Covers r c) ⊎ ((c : ℕ) → Covers x c → ¬ Covers r c)
  block_in_or_out x r a m = elim (covers_or_not r x.start) [
    | inl inside ↦ inl (λ c k. (uniform.constant x.start c first k r m).0 inside)
    | inr outside ↦ inr (λ c k l. outside ((uniform.constant x.start c first k r m).1 l))
  ]
    where
      uniform : IsUniform R x
      uniform = (h.are_blocks x a).uniform

      first : Covers x x.start
      first = (omega arith, uniform.holds_one)

  -- no interval of values in the same ranges contains two blocks
  pub blocks_unjoined : (x y z : Range) → Contains xs x → Contains xs y → IsUniform R z → z.start ≤ x.start → x.end ≤ z.end → z.start ≤ y.start → y.end ≤ z.end → x ≡ y
  blocks_unjoined x y z a b uniform i j k l = sym ((h.are_blocks x a).maximal z uniform i j) ∙ (h.are_blocks y b).maximal z uniform k l

  -- where one block ends and the next begins, the ranges change
  pub blocks_apart : (x y : Range) → Contains xs x → Contains xs y → x.end + 1 ≡ y.start → ¬ Alike R x.end y.start
  blocks_apart x y a b next alike =
      let same : x ≡ y = blocks_unjoined x y both a b joined (omega arith) (omega (arith, y_block.holds_one)) (omega (arith, x_block.holds_one)) (omega arith) in
      let start : x.start ≡ y.start = ap (λ (r : Range). r.start) same in
      omega (arith, x_block.holds_one)
    where
      both : Range
      both = record { start = x.start; end = y.end }

      x_block : IsUniform R x
      x_block = (h.are_blocks x a).uniform

      y_block : IsUniform R y
      y_block = (h.are_blocks y b).uniform

      as_end : (c : ℕ) → x.start ≤ c → c ≤ y.end → Alike R c x.end
      as_end c from to = elim (cases_lt x.end c) [
        | inl behind ↦ alike_trans R c y.start x.end (y_block.constant c y.start (omega arith, to) (omega arith, y_block.holds_one)) (alike_sym R x.end y.start alike)
        | inr within ↦ x_block.constant c x.end (from, within) (x_block.holds_one, omega arith)
      ]

      joined : IsUniform R both
      joined = record {
        holds_one = omega (arith, x_block.holds_one, y_block.holds_one);
        covered = λ c k. covered_along R x.end c (alike_sym R c x.end (as_end c k.0 k.1)) (x_block.covered x.end (x_block.holds_one, omega arith));
        constant = λ c d k l. alike_trans R c x.end d (as_end c k.0 k.1) (alike_sym R d x.end (as_end d l.0 l.1));
      }

-- the blocks have the values of the ranges
pub blocks_cover : (rs xs : List Range) → IsPartition (Contains rs) xs → (c : ℕ) → IsCovered (Contains xs) c ↔ IsCovered (Contains rs) c
blocks_cover rs xs h c = (
  λ k. (h.are_blocks k.0 k.1.0).uniform.covered c k.1.1,
  block_of_covered (Contains rs) rs (λ r. ((λ h. h), (λ h. h))) xs h c,
)
