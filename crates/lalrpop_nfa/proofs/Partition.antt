-- The partition of a set of ranges: how to show that a list is the partition, and what follows.
use Rattle.std.proofs.Common.{◌≡◌, ℕ, ◌+◌, ◌-◌, ◌<◌, ◌≤◌, ◌⊎◌, inl, inr, ⊎_elim, min, max, List, [], ◌∷◌, length, sym, subst, ◌∙◌, arith, suc}
use Rattle.std.specs.List.{Contains}
use Rattle.std.proofs.lemmas.List.{get_or_default}
use Rattle.std.proofs.lemmas.List.Elements.{Contains-get_or}
use Rattle.std.proofs.lemmas.Bool.{cases_lt, cases_order}
use Rattle.lalrpop_hir.specs.Range.{Range, Covers}
use Rattle.lalrpop_hir.proofs.Canons.{range-same}
use Rattle.lalrpop_nfa.specs.Partition.{Ranges, IsCovered, Alike, IsUniform, IsBlock, AreAscending, IsPartition}
use Rattle.lalrpop_nfa.proofs.Cells.{at, BlocksBelow, IsBoundary, alike_sym, alike_trans, covered_along, last_covers}

-- two maximal intervals that share a value are equal
module _ (R : Ranges) (x z : Range) (f : IsBlock R x) (g : IsBlock R z) (p : ℕ) (in_x : Covers x p) (in_z : Covers z p) where
  both : Range
  both = record { start = min x.start z.start; end = max x.end z.end }

  in_one : (c : ℕ) → Covers both c → Covers x c ⊎ Covers z c
  unfolding both
  in_one c h =
      ⊎_elim (λ (l : c < x.start). inr (omega arith, omega arith))
      (λ (l : x.start ≤ c).
      ⊎_elim (λ (m : x.end < c). inr (omega arith, omega arith)) (λ (m : c ≤ x.end). inl (l, m)) (cases_lt x.end c))
      (cases_lt c x.start)

  as_p : (c : ℕ) → Covers x c ⊎ Covers z c → Alike R c p
  as_p c (inl h) = f.uniform.constant c p h in_x
  as_p c (inr h) = g.uniform.constant c p h in_z

  as_covered : (c : ℕ) → Covers x c ⊎ Covers z c → IsCovered R c
  as_covered c (inl h) = f.uniform.covered c h
  as_covered c (inr h) = g.uniform.covered c h

  both_block : IsUniform R both
  unfolding both
  both_block = record {
    holds_one = omega arith;
    covered = λ c h. as_covered c (in_one c h);
    constant = λ c d h i. alike_trans R c p d (as_p c (in_one c h)) (alike_sym R d p (as_p d (in_one d i)));
  }

  pub same_block : x ≡ z
  unfolding both
  same_block = sym (f.maximal both both_block (omega arith) (omega arith)) ∙ g.maximal both both_block (omega arith) (omega arith)

ascending_from : (xs : List Range) → ((j k : ℕ) → j < k → k < length xs → (at xs j).end < (at xs k).start) → AreAscending xs
ascending_from [] h = tt
ascending_from (x ∷ []) h = tt
ascending_from (x ∷ y ∷ ys) h = (h 0 1 (omega arith) (omega arith), ascending_from (y ∷ ys) (λ j k a l. h (suc j) (suc k) (omega arith) (omega arith)))

-- the blocks below the last boundary are all blocks
module _ (R : Ranges) (blocks : List Range) (p : ℕ) (h : BlocksBelow R blocks p) (none : (c : ℕ) → p < c → ¬ IsBoundary R c) where
  covers : (c : ℕ) → IsCovered R c → (k : ℕ) × ((k < length blocks) × Covers (at blocks k) c)
  covers = last_covers R blocks p h none

  block_at : (k : ℕ) → k < length blocks → IsUniform R (at blocks k)
  block_at k l = record {
    holds_one = h.each k l;
    covered = λ c a. covered_along R (at blocks k).start c (alike_sym R c (at blocks k).start (h.constant k c l a)) (h.held k l);
    constant = λ c d a b. alike_trans R c (at blocks k).start d (h.constant k c l a) (alike_sym R d (at blocks k).start (h.constant k d l b));
  }

  module _ (k : ℕ) (l : k < length blocks) (y : Range) (uniform : IsUniform R y) (low : y.start ≤ (at blocks k).start) (high : (at blocks k).end ≤ y.end) where
    start_at : (y.start < (at blocks k).start) ⊎ ((at blocks k).start ≤ y.start) → y.start ≡ (at blocks k).start
    start_at (inr a) = omega arith
    start_at (inl a) =
        let fits : (at blocks k).start ≤ (at blocks k).end = h.each k l in
        let (j, (jl, b)) = covers ((at blocks k).start - 1) (uniform.covered ((at blocks k).start - 1) (omega arith, omega arith)) in
        absurd (before j jl b (cases_order j k))
      where
        before : (j : ℕ) → j < length blocks → Covers (at blocks j) ((at blocks k).start - 1) → (j ≡ k) ⊎ ((j < k) ⊎ (k < j)) → ⊥
        before j jl b (inl e) = let c : Covers (at blocks k) ((at blocks k).start - 1) = subst (λ (i : ℕ). Covers (at blocks i) ((at blocks k).start - 1)) e b in omega (arith, c.0)
        before j jl b (inr (inl less)) =
            let fits : (at blocks k).start ≤ (at blocks k).end = h.each k l in
            let up : (at blocks j).end < (at blocks k).start = h.ascending j k less l in
            h.maximal j k jl l (omega (arith, b.1)) (uniform.constant (at blocks j).end (at blocks k).start (omega (arith, b.1), omega arith) (omega arith, omega arith))
        before j jl b (inr (inr more)) =
            let fits : (at blocks k).start ≤ (at blocks k).end = h.each k l in
            let up : (at blocks k).end < (at blocks j).start = h.ascending k j more jl in
            omega (arith, b.0)

    end_at : ((at blocks k).end < y.end) ⊎ (y.end ≤ (at blocks k).end) → y.end ≡ (at blocks k).end
    end_at (inr a) = omega arith
    end_at (inl a) =
        let fits : (at blocks k).start ≤ (at blocks k).end = h.each k l in
        let (j, (jl, b)) = covers ((at blocks k).end + 1) (uniform.covered ((at blocks k).end + 1) (omega arith, omega arith)) in
        absurd (behind j jl b (cases_order j k))
      where
        behind : (j : ℕ) → j < length blocks → Covers (at blocks j) ((at blocks k).end + 1) → (j ≡ k) ⊎ ((j < k) ⊎ (k < j)) → ⊥
        behind j jl b (inl e) = let c : Covers (at blocks k) ((at blocks k).end + 1) = subst (λ (i : ℕ). Covers (at blocks i) ((at blocks k).end + 1)) e b in omega (arith, c.1)
        behind j jl b (inr (inl less)) =
            let fits : (at blocks k).start ≤ (at blocks k).end = h.each k l in
            let up : (at blocks j).end < (at blocks k).start = h.ascending j k less l in
            omega (arith, b.1)
        behind j jl b (inr (inr more)) =
            let fits : (at blocks k).start ≤ (at blocks k).end = h.each k l in
            let up : (at blocks k).end < (at blocks j).start = h.ascending k j more jl in
            let same : (at blocks k).end + 1 ≡ (at blocks j).start = omega (arith, b.0) in
            h.maximal k j l jl same (uniform.constant (at blocks k).end (at blocks j).start (omega arith, omega arith) (omega arith, omega arith))

    widest : y ≡ at blocks k
    widest = range-same y (at blocks k) (start_at (cases_lt y.start (at blocks k).start)) (end_at (cases_lt (at blocks k).end y.end))

  run_at : (k : ℕ) → k < length blocks → IsBlock R (at blocks k)
  run_at k l = record { uniform = block_at k l; maximal = widest k l }

  are_blocks : (x : Range) → Contains blocks x → IsBlock R x
  are_blocks x (k, l, e) = subst (IsBlock R) (get_or_default blocks k (record { start = 0; end = 0 }) x l ∙ e) (run_at k l)

  all_blocks : (x : Range) → IsBlock R x → Contains blocks x
  all_blocks x f =
      let start : Covers x x.start = (omega arith, f.uniform.holds_one) in
      let (k, (l, a)) = covers x.start (f.uniform.covered x.start start) in
      subst (Contains blocks) (sym (same_block R x (at blocks k) f (run_at k l) x.start start a)) (Contains-get_or blocks k (record { start = 0; end = 0 }) l)

  pub IsPartition-from_parts : IsPartition R blocks
  IsPartition-from_parts = record { ascending = ascending_from blocks h.ascending; are_blocks = are_blocks; all_blocks = all_blocks }
