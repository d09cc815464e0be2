-- Cases of specs/Partition.antt: the ranges a-j, a-u, f-h and f-p, and their partition.
use Rattle.std.proofs.Common.{◌≡◌, ℕ, zero, suc, ◌+◌, ◌<◌, ◌≤◌, ◌⊎◌, inl, inr, List, [], ◌∷◌, true, false, refl, ap, ◌∙◌, subst, arith}
use Rattle.std.specs.List.{Contains}
use Rattle.std.proofs.lemmas.Bool.{cases_lt}
use Rattle.lalrpop_hir.specs.Range.{Range, Covers}
use Rattle.lalrpop_nfa.specs.Partition.{Ranges, has_value, IsCovered, Alike, IsUniform, IsBlock, AreAscending, IsPartition}

-- the range from the first value to the second
abbrev between : ℕ → ℕ → Range
between s e = record { start = s; end = e }

abbrev four_ranges : List Range
four_ranges = between 97 106 ∷ between 97 117 ∷ between 102 104 ∷ between 102 112 ∷ []

-- a-e, f-h, i-j, k-p and q-u
abbrev five_blocks : List Range
five_blocks = between 97 101 ∷ between 102 104 ∷ between 105 106 ∷ between 107 112 ∷ between 113 117 ∷ []

abbrev R : Ranges
R = Contains four_ranges

has_aj : R (between 97 106)
has_aj = (0, omega arith, refl)

has_au : R (between 97 117)
has_au = (1, omega arith, refl)

has_fh : R (between 102 104)
has_fh = (2, omega arith, refl)

has_fp : R (between 102 112)
has_fp = (3, omega arith, refl)

-- what holds of the four holds of each range of the set
by_four : (P : Range → Type 0) → P (between 97 106) → P (between 97 117) → P (between 102 104) → P (between 102 112) → (r : Range) → R r → P r
by_four P a b c d r (zero, l, e) = subst P e a
by_four P a b c d r (suc zero, l, e) = subst P e b
by_four P a b c d r (suc (suc zero), l, e) = subst P e c
by_four P a b c d r (suc (suc (suc zero)), l, e) = subst P e d
by_four P a b c d r (suc (suc (suc (suc n))), l, e) = absurd (omega arith)

-- a range has a value where its start isn't above its end
range_of_one_value : (has_value (between 97 97) ≡ true) × (has_value (between 98 97) ≡ false)
range_of_one_value = (refl, refl)

-- `u` lies in one of the four, and `v` in none
covered_by_one_of_four : IsCovered R 117
covered_by_one_of_four = (between 97 117, (has_au, (omega arith, omega arith)))

-- no block has both p and p + 1
abbrev IsBoundaryAfter : ℕ → Type 0
IsBoundaryAfter p = (y : Range) → IsUniform R y → y.start ≤ p → p + 1 ≤ y.end → ⊥

least : (c : ℕ) → IsCovered R c → 97 ≤ c
least c (r, (h, k)) = by_four (λ r. Covers r c → 97 ≤ c) (λ k. omega (arith, k.0)) (λ k. omega (arith, k.0)) (λ k. omega (arith, k.0)) (λ k. omega (arith, k.0)) r h k

greatest : (c : ℕ) → IsCovered R c → c ≤ 117
greatest c (r, (h, k)) = by_four (λ r. Covers r c → c ≤ 117) (λ k. omega (arith, k.1)) (λ k. omega (arith, k.1)) (λ k. omega (arith, k.1)) (λ k. omega (arith, k.1)) r h k

not_covered_by_four : ¬ IsCovered R 118
not_covered_by_four h = omega (arith, greatest 118 h)

-- `f` and `g` lie in the same ranges, and `e` and `f` don't
in_the_same_ranges : Alike R 102 103
in_the_same_ranges = by_four (λ r. (Covers r 102 → Covers r 103) × (Covers r 103 → Covers r 102)) ((λ k. (omega arith, omega arith)), (λ k. (omega arith, omega arith)))
    ((λ k. (omega arith, omega arith)), (λ k. (omega arith, omega arith))) ((λ k. (omega arith, omega arith)), (λ k. (omega arith, omega arith)))
    ((λ k. (omega arith, omega arith)), (λ k. (omega arith, omega arith)))

not_in_the_same_ranges : ¬ Alike R 101 102
not_in_the_same_ranges a = let k = (a (between 102 104) has_fh).1 (omega arith, omega arith) in omega (arith, k.0)

boundary_96 : IsBoundaryAfter 96
boundary_96 y b s e = omega (arith, least 96 (b.covered 96 (s, omega arith)))

boundary_117 : IsBoundaryAfter 117
boundary_117 y b s e = omega (arith, greatest 118 (b.covered 118 (omega arith, e)))

boundary_101 : IsBoundaryAfter 101
boundary_101 y b s e = let to = (b.constant 102 101 (omega arith, e) (s, omega arith) (between 102 104) has_fh).0 (omega arith, omega arith) in omega (arith, to.0)

boundary_104 : IsBoundaryAfter 104
boundary_104 y b s e = let to = (b.constant 104 105 (s, omega arith) (omega arith, e) (between 102 104) has_fh).0 (omega arith, omega arith) in omega (arith, to.1)

boundary_106 : IsBoundaryAfter 106
boundary_106 y b s e = let to = (b.constant 106 107 (s, omega arith) (omega arith, e) (between 97 106) has_aj).0 (omega arith, omega arith) in omega (arith, to.1)

boundary_112 : IsBoundaryAfter 112
boundary_112 y b s e = let to = (b.constant 112 113 (s, omega arith) (omega arith, e) (between 102 112) has_fp).0 (omega arith, omega arith) in omega (arith, to.1)

-- a range in which the four are constant, and which a-u covers
uniform : (l h : ℕ) → l ≤ h → 97 ≤ l → h ≤ 117
    → ((h ≤ 106) ⊎ (107 ≤ l)) → ((h < 102) ⊎ (((102 ≤ l) × (h ≤ 104)) ⊎ (105 ≤ l))) → ((h < 102) ⊎ (((102 ≤ l) × (h ≤ 112)) ⊎ (113 ≤ l)))
    → IsUniform R (between l h)
uniform l h one low high aj fh fp = record {
  holds_one = one;
  covered = λ c k. (between 97 117, (has_au, (omega (arith, k.0), omega (arith, k.1))));
  constant = λ c d k m. by_four (λ r. (Covers r c → Covers r d) × (Covers r d → Covers r c))
      (on_aj c d k m aj, on_aj d c m k aj)
      ((λ _. (omega (arith, m.0), omega (arith, m.1))), (λ _. (omega (arith, k.0), omega (arith, k.1))))
      (on 104 c d k m fh, on 104 d c m k fh)
      (on 112 c d k m fp, on 112 d c m k fp);
}
  where
    on_aj : (c d : ℕ) → Covers (between l h) c → Covers (between l h) d → ((h ≤ 106) ⊎ (107 ≤ l)) → Covers (between 97 106) c → Covers (between 97 106) d
    on_aj c d k m (inl x) a = (omega (arith, m.0), omega (arith, m.1, x))
    on_aj c d k m (inr x) a = absurd (omega (arith, k.0, a.1, x))

    on : (z c d : ℕ) → Covers (between l h) c → Covers (between l h) d → ((h < 102) ⊎ (((102 ≤ l) × (h ≤ z)) ⊎ (z + 1 ≤ l))) → Covers (between 102 z) c → Covers (between 102 z) d
    on z c d k m (inl x) a = absurd (omega (arith, k.1, a.0, x))
    on z c d k m (inr (inl x)) a = (omega (arith, m.0, x.0), omega (arith, m.1, x.1))
    on z c d k m (inr (inr x)) a = absurd (omega (arith, k.0, a.1, x))

same_range : (y : Range) (l h : ℕ) → y.start ≡ l → y.end ≡ h → y ≡ between l h
same_range y l h s e = ap (λ n. between n y.end) s ∙ ap (between l) e

run_between : (p l h : ℕ) → p + 1 ≡ l → IsUniform R (between l h) → IsBoundaryAfter p → IsBoundaryAfter h → IsBlock R (between l h)
run_between p l h next b low high = record {
  uniform = b;
  maximal = λ y k s e. same_range y l h (starts y k s e (cases_lt y.start l)) (ends y k s e (cases_lt h y.end));
}
  where
    starts : (y : Range) → IsUniform R y → y.start ≤ l → h ≤ y.end → (y.start < l) ⊎ (l ≤ y.start) → y.start ≡ l
    starts y k s e (inl x) = absurd (low y k (omega (arith, x, next)) (omega (arith, b.holds_one, e, next)))
    starts y k s e (inr x) = omega (arith, x, s)

    ends : (y : Range) → IsUniform R y → y.start ≤ l → h ≤ y.end → (h < y.end) ⊎ (y.end ≤ h) → y.end ≡ h
    ends y k s e (inl x) = absurd (high y k (omega (arith, b.holds_one, s)) (omega (arith, x)))
    ends y k s e (inr x) = omega (arith, x, e)

b1 : IsUniform R (between 97 101)
b1 = uniform 97 101 (omega arith) (omega arith) (omega arith) (inl (omega arith)) (inl (omega arith)) (inl (omega arith))

b2 : IsUniform R (between 102 104)
b2 = uniform 102 104 (omega arith) (omega arith) (omega arith) (inl (omega arith)) (inr (inl (omega arith, omega arith))) (inr (inl (omega arith, omega arith)))

b3 : IsUniform R (between 105 106)
b3 = uniform 105 106 (omega arith) (omega arith) (omega arith) (inl (omega arith)) (inr (inr (omega arith))) (inr (inl (omega arith, omega arith)))

b4 : IsUniform R (between 107 112)
b4 = uniform 107 112 (omega arith) (omega arith) (omega arith) (inr (omega arith)) (inr (inr (omega arith))) (inr (inl (omega arith, omega arith)))

b5 : IsUniform R (between 113 117)
b5 = uniform 113 117 (omega arith) (omega arith) (omega arith) (inr (omega arith)) (inr (inr (omega arith))) (inr (inr (omega arith)))

each_block : (x : Range) → Contains five_blocks x → IsBlock R x
each_block x (zero, l, e) = subst (IsBlock R) e (run_between 96 97 101 refl b1 boundary_96 boundary_101)
each_block x (suc zero, l, e) = subst (IsBlock R) e (run_between 101 102 104 refl b2 boundary_101 boundary_104)
each_block x (suc (suc zero), l, e) = subst (IsBlock R) e (run_between 104 105 106 refl b3 boundary_104 boundary_106)
each_block x (suc (suc (suc zero)), l, e) = subst (IsBlock R) e (run_between 106 107 112 refl b4 boundary_106 boundary_112)
each_block x (suc (suc (suc (suc zero))), l, e) = subst (IsBlock R) e (run_between 112 113 117 refl b5 boundary_112 boundary_117)
each_block x (suc (suc (suc (suc (suc n)))), l, e) = absurd (omega arith)

-- a run that begins in a block ends in it, and so is the block
within : (x : Range) (l h : ℕ) → IsBlock R x → IsUniform R (between l h) → IsBoundaryAfter h → l ≤ x.start → x.start ≤ h → between l h ≡ x
within x l h run b high s e = run.maximal (between l h) b s (by_end (cases_lt h x.end))
  where
    by_end : (h < x.end) ⊎ (x.end ≤ h) → x.end ≤ h
    by_end (inl g) = absurd (high x run.uniform e (omega (arith, g)))
    by_end (inr g) = g

every_block : (x : Range) → IsBlock R x → Contains five_blocks x
every_block x run = by_start (cases_lt x.start 102) (cases_lt x.start 105) (cases_lt x.start 107) (cases_lt x.start 113)
  where
    here : IsCovered R x.start
    here = run.uniform.covered x.start (omega arith, run.uniform.holds_one)

    by_start : (x.start < 102) ⊎ (102 ≤ x.start) → (x.start < 105) ⊎ (105 ≤ x.start) → (x.start < 107) ⊎ (107 ≤ x.start) → (x.start < 113) ⊎ (113 ≤ x.start) → Contains five_blocks x
    by_start (inl a) b c d = (0, omega arith, within x 97 101 run b1 boundary_101 (least x.start here) (omega (arith, a)))
    by_start (inr a) (inl b) c d = (1, omega arith, within x 102 104 run b2 boundary_104 a (omega (arith, b)))
    by_start (inr a) (inr b) (inl c) d = (2, omega arith, within x 105 106 run b3 boundary_106 b (omega (arith, c)))
    by_start (inr a) (inr b) (inr c) (inl d) = (3, omega arith, within x 107 112 run b4 boundary_112 c (omega (arith, d)))
    by_start (inr a) (inr b) (inr c) (inr d) = (4, omega arith, within x 113 117 run b5 boundary_117 d (greatest x.start here))

-- each is uniform, and a block; a part of a block is uniform and not a block
piece_is_a_block : IsUniform R (between 97 101) × IsBlock R (between 97 101)
piece_is_a_block = (b1, each_block (between 97 101) (0, omega arith, refl))

part_of_a_block_is_uniform : IsUniform R (between 97 98)
part_of_a_block_is_uniform = uniform 97 98 (omega arith) (omega arith) (omega arith) (inl (omega arith)) (inl (omega arith)) (inl (omega arith))

part_of_a_block_is_no_block : ¬ IsBlock R (between 97 98)
part_of_a_block_is_no_block r =
    let e : 101 ≡ 98 = ap (λ (x : Range). x.end) (r.maximal (between 97 101) b1 (omega arith) (omega arith)) in
    omega (arith, e)

two_blocks_are_not_uniform : ¬ IsUniform R (between 97 104)
two_blocks_are_not_uniform k = boundary_101 (between 97 104) k (omega arith) (omega arith)

-- ranges ascend where each ends before the next begins
neighbours_ascend : AreAscending (between 97 101 ∷ between 102 104 ∷ [])
neighbours_ascend = (omega arith, tt)

overlapping_ranges_do_not_ascend : ¬ AreAscending (between 97 102 ∷ between 102 104 ∷ [])
overlapping_ranges_do_not_ascend h = omega (arith, h.0)

-- the five blocks are the partition
five_blocks_are_the_partition : IsPartition R five_blocks
five_blocks_are_the_partition = record {
  ascending = (omega arith, (omega arith, (omega arith, (omega arith, tt))));
  are_blocks = each_block;
  all_blocks = every_block;
}

-- their union isn't
one_block_is_not_the_partition : ¬ IsPartition R (between 97 117 ∷ [])
one_block_is_not_the_partition p = boundary_101 (between 97 117) (p.are_blocks (between 97 117) (0, omega arith, refl)).uniform (omega arith) (omega arith)

-- nor are they with one of them split in two
split_block_is_not_in_the_partition : ¬ IsPartition R (between 97 98 ∷ between 99 101 ∷ between 102 104 ∷ between 105 106 ∷ between 107 112 ∷ between 113 117 ∷ [])
split_block_is_not_in_the_partition p =
    let whole = (p.are_blocks (between 97 98) (0, omega arith, refl)).maximal (between 97 101) b1 (omega arith) (omega arith) in
    let e : 101 ≡ 98 = ap (λ (r : Range). r.end) whole in
    omega (arith, e)

-- nor with one of them left out
missing_block_is_in_the_partition : ¬ IsPartition R (between 97 101 ∷ between 102 104 ∷ between 105 106 ∷ between 107 112 ∷ [])
missing_block_is_in_the_partition p = by_place (p.all_blocks (between 113 117) (run_between 112 113 117 refl b5 boundary_112 boundary_117))
  where
    by_place : Contains (between 97 101 ∷ between 102 104 ∷ between 105 106 ∷ between 107 112 ∷ []) (between 113 117) → ⊥
    by_place (zero, l, e) = let f : 97 ≡ 113 = ap (λ (r : Range). r.start) e in omega (arith, f)
    by_place (suc zero, l, e) = let f : 102 ≡ 113 = ap (λ (r : Range). r.start) e in omega (arith, f)
    by_place (suc (suc zero), l, e) = let f : 105 ≡ 113 = ap (λ (r : Range). r.start) e in omega (arith, f)
    by_place (suc (suc (suc zero)), l, e) = let f : 107 ≡ 113 = ap (λ (r : Range). r.start) e in omega (arith, f)
    by_place (suc (suc (suc (suc n))), l, e) = omega arith
