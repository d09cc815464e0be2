-- The bits of the ends of a block, and the place in it where the next token begins.
use Rattle.std.proofs.Common.{◌≡◌, ℕ, zero, suc, ◌+◌, ◌-◌, ◌*◌, ◌/◌, ◌%◌, ◌^◌, ◌<◌, ◌≤◌, inl, inr, slice_index, sym, ap, subst, ◌∙◌, arith}
use Rattle.std.specs.Prelude.{◌↔◌, bit_and}
use Rattle.std.specs.Int.{w64, bit_at, trailing_zeros}
use Rattle.std.proofs.lemmas.Bool.{cases_lt}
use Rattle.std.proofs.Math.Nat.{div-mul-le_self, eq-zero-or-pos, mod-eq_of_lt, mul-le-mul_right}
use Rattle.std.proofs.lemmas.Nat.{shr-shr, and_le_l, pow_pos}
use Rattle.std.proofs.lemmas.Nat.Bits.{bit_at_lowest, bit_at-suc, bit_at-zero, bit_at-lt, bit_at_and, bit_at_cat_low, bit_at_cat_high, bit_at-trailing_zeros}
use Rattle.lalrpop_emit.specs.declared.run.Run.{Run}
use Rattle.lalrpop_emit.specs.Internal.Running.{AreEnds, IsAtPlace, IsNextEnd, IsLastIn}

bit_further : (x j i : ℕ) → bit_at (x / 2 ^ j) i ≡ bit_at x (j + i)
bit_further x j i = ap (λ (n : ℕ). n % 2) (shr-shr x j i)

-- ---- the lowest bit that is 1

same_above : (x y i : ℕ) → x / 2 ≡ y / 2 → 0 < i → bit_at x i ≡ bit_at y i
same_above x y zero e l = absurd (omega (arith, l))
same_above x y (suc i) e l = bit_at-suc x i ∙ ap (λ (n : ℕ). bit_at n i) e ∙ sym (bit_at-suc y i)

higher : (k x y : ℕ) → ((i : ℕ) → k < i → bit_at (x / 2) i ≡ bit_at (y / 2) i) → (i : ℕ) → suc k < i → bit_at x i ≡ bit_at y i
higher k x y h zero l = absurd (omega (arith, l))
higher k x y h (suc i) l = bit_at-suc x i ∙ h i (omega (arith, l)) ∙ sym (bit_at-suc y i)

-- in the number before, it is 0, and those above are the same
one_less : (k x : ℕ) → bit_at x k ≡ 1 → ((i : ℕ) → i < k → bit_at x i ≡ 0) → (bit_at (x - 1) k ≡ 0) × ((i : ℕ) → k < i → bit_at (x - 1) i ≡ bit_at x i)
one_less zero x set below =
    let odd : x % 2 ≡ 1 = sym (bit_at_lowest x) ∙ set in
    let half : (x - 1) / 2 ≡ x / 2 = omega (arith, odd) in
    (bit_at_lowest (x - 1) ∙ omega (arith, odd), λ i l. same_above (x - 1) x i half l)
one_less (suc k) x set below =
    let even : x % 2 ≡ 0 = sym (bit_at_lowest x) ∙ below 0 (omega arith) in
    let half : (x - 1) / 2 ≡ x / 2 - 1 = omega (arith, even) in
    let less = one_less k (x / 2) (sym (bit_at-suc x k) ∙ set) (λ i l. sym (bit_at-suc x i) ∙ below (suc i) (omega (arith, l))) in
    (bit_at-suc (x - 1) k ∙ ap (λ (n : ℕ). bit_at n k) half ∙ less.0, higher k (x - 1) x (λ i l. ap (λ (n : ℕ). bit_at n i) half ∙ less.1 i l))

-- it is cleared, and no other one
cleared : (x k : ℕ) → bit_at x k ≡ 1 → ((i : ℕ) → i < k → bit_at x i ≡ 0) → (i : ℕ) → ((bit_at (bit_and x (x - 1)) i ≡ 1) ↔ ((k < i) × (bit_at x i ≡ 1)))
cleared x k set below i =
    let both = bit_at_and x (x - 1) i in
    let less = one_less k x set below in
    elim (cases_lt k i) [
      | inl above ↦
          let same = less.1 i above in
          (λ on. (above, omega (arith, on, both, same)), λ h. omega (arith, both, same, h.1))
      | inr up_to ↦
          let off : bit_at (bit_and x (x - 1)) i ≡ 0 = elim (cases_lt i k) [
            | inl lower ↦ omega (arith, both, below i lower)
            | inr here ↦
                let same : k ≡ i = omega (arith, here, up_to) in
                omega (arith, both, subst (λ (n : ℕ). bit_at (x - 1) n ≡ 0) same less.0)
          ] in
          (λ on. absurd (omega (arith, on, off)), λ h. absurd (omega (arith, h.0, up_to)))
    ]

-- where a bit is 1, it and those below are cleared
cleared_from : (x s : ℕ) → x < 2 ^ 64 → bit_at x s ≡ 1 → (i : ℕ) → ((bit_at ((x / 2 ^ s - 1) * 2 ^ s % 2 ^ 64) i ≡ 1) ↔ ((s < i) × (bit_at x i ≡ 1)))
cleared_from x s small set i =
    let y = x / 2 ^ s - 1 in
    let first : bit_at (x / 2 ^ s) 0 ≡ 1 = bit_further x s 0 ∙ ap (bit_at x) (omega arith) ∙ set in
    let less = one_less 0 (x / 2 ^ s) first (λ j l. absurd (omega (arith, l))) in
    let fewer : y * 2 ^ s ≤ x / 2 ^ s * 2 ^ s = mul-le-mul_right (2 ^ s) (omega arith) in
    let fits : y * 2 ^ s ≤ x = omega (arith, fewer, div-mul-le_self x (2 ^ s)) in
    let whole : y * 2 ^ s % 2 ^ 64 ≡ y * 2 ^ s + 0 = mod-eq_of_lt (omega (arith, fits, small)) ∙ omega arith in
    let same : bit_at (y * 2 ^ s % 2 ^ 64) i ≡ bit_at (y * 2 ^ s + 0) i = ap (λ (n : ℕ). bit_at n i) whole in
    elim (cases_lt i s) [
      | inl low ↦
          let off = same ∙ bit_at_cat_low y s 0 i low ∙ bit_at-zero i in
          (λ on. absurd (omega (arith, on, off)), λ h. absurd (omega (arith, h.0, low)))
      | inr up ↦
          let high : bit_at (y * 2 ^ s % 2 ^ 64) i ≡ bit_at y (i - s) = same ∙ bit_at_cat_high y s 0 i (pow_pos s) up in
          elim (cases_lt s i) [
            | inl above ↦
                let all : s + (i - s) ≡ i = omega (arith, up) in
                let old : bit_at y (i - s) ≡ bit_at x i = less.1 (i - s) (omega (arith, above)) ∙ bit_further x s (i - s) ∙ ap (bit_at x) all in
                (λ on. (above, sym old ∙ sym high ∙ on), λ h. high ∙ old ∙ h.1)
            | inr here ↦
                let none : 0 ≡ i - s = omega (arith, here) in
                let off : bit_at (y * 2 ^ s % 2 ^ 64) i ≡ 0 = high ∙ subst (λ (n : ℕ). bit_at y n ≡ 0) none less.0 in
                (λ on. absurd (omega (arith, on, off)), λ h. absurd (omega (arith, h.0, here)))
          ]
    ]

-- ---- the place in a block

module _ (least : ℕ) (run : Run) (place : ℕ) (h : IsAtPlace least run place) where
  -- no end lies before the bit i, if those below it are not set
  none_below : (i : ℕ) → i ≤ 64 → ((j : ℕ) → j < i → bit_at run.bits j ≡ 0) → (z : ℕ) → place < z → z < run.word * 64 + i → slice_index run.rows.items z < least
  none_below i l unset z above below = elim (cases_lt z (run.word * 64)) [
    | inl earlier ↦ h.none z above earlier
    | inr behind ↦
        let j = z - run.word * 64 in
        let here : z ≡ run.word * 64 + j = omega (arith, behind) in
        elim (cases_lt (slice_index run.rows.items z) least) [
          | inl low ↦ low
          | inr high ↦
              let end : least ≤ slice_index run.rows.items (run.word * 64 + j) = subst (λ (n : ℕ). least ≤ slice_index run.rows.items n) here high in
              let set = (h.bits j (omega (arith, below, behind, l))).1 (omega (arith, above, here), end) in
              absurd (omega (arith, set, unset j (omega (arith, below, behind))))
        ]
  ]

  none_in_word : run.bits ≡ 0 → (z : ℕ) → place < z → z < run.word * 64 + 64 → slice_index run.rows.items z < least
  none_in_word zero_is = none_below 64 (omega arith) (λ j l. ap (λ (n : ℕ). bit_at n j) zero_is ∙ bit_at-zero j)

  pub no_more : run.bits ≡ 0 → run.length / 64 ≤ run.word + 1 → IsLastIn least run place
  no_more zero_is last z above below = none_in_word zero_is z above (omega (arith, below, last, h.marked.whole))

  pub next_word : (bits : ℕ) → run.bits ≡ 0 → run.word + 1 < run.length / 64 → bits ≡ slice_index run.ends.items (run.word + 1)
      → IsAtPlace least (record run { word = run.word + 1; bits = bits }) place
  next_word bits zero_is more read =
      let there = h.marked.are (run.word + 1) more in
      record {
        marked = record { whole = h.marked.whole; are = h.marked.are };
        before = omega (arith, h.before);
        begins = h.begins;
        word = more;
        none = λ z above below. none_in_word zero_is z above (omega (arith, below));
        small = omega (arith, read, there.small);
        bits = λ i l.
            let same : bit_at bits i ≡ bit_at (slice_index run.ends.items (run.word + 1)) i = ap (λ (n : ℕ). bit_at n i) read in
            (λ set. (omega (arith, h.before), (there.are i l).0 (sym same ∙ set)), λ end. same ∙ (there.are i l).1 end.1);
      }

  pub found_end : 0 < run.bits → IsNextEnd least run place (run.word * 64 + trailing_zeros w64 run.bits)
  found_end some =
      let lowest = bit_at-trailing_zeros w64 run.bits some h.small in
      let set = (h.bits (trailing_zeros w64 run.bits) lowest.0).0 lowest.1 in
      record {
        behind = set.0;
        from = omega arith;
        to = omega (arith, lowest.0);
        ends = set.1;
        none = none_below (trailing_zeros w64 run.bits) (omega (arith, lowest.0)) lowest.2;
      }

  module _ (end : ℕ) (n : IsNextEnd least run place end) where
    here : run.word * 64 + (end - run.word * 64) ≡ end
    here = omega (arith, n.from)

    set_there : bit_at run.bits (end - run.word * 64) ≡ 1
    set_there =
        (h.bits (end - run.word * 64) (omega (arith, n.from, n.to))).1
        (omega (arith, n.from, n.behind), subst (λ (k : ℕ). least ≤ slice_index run.rows.items k) (sym here) n.ends)

    none_set_below : (i : ℕ) → i < end - run.word * 64 → bit_at run.bits i ≡ 0
    none_set_below i l = elim (cases_lt (bit_at run.bits i) 1) [
      | inl off ↦ omega (arith, off)
      | inr on ↦
          let is = (h.bits i (omega (arith, l, n.to))).0 (omega (arith, on, bit_at-lt run.bits i)) in
          absurd (omega (arith, is.1, n.none (run.word * 64 + i) is.0 (omega (arith, l))))
    ]

    pub is_some_left : 0 < run.bits
    is_some_left = elim (eq-zero-or-pos run.bits) [
      | inl none ↦ absurd (omega (arith, set_there, ap (λ (k : ℕ). bit_at k (end - run.word * 64)) none, bit_at-zero (end - run.word * 64)))
      | inr some ↦ some
    ]

    pub taken : IsAtPlace least (record run { bits = bit_and run.bits (run.bits - 1) }) end
    taken = record {
      marked = record { whole = h.marked.whole; are = h.marked.are };
      before = n.to;
      begins = inr n.ends;
      word = h.word;
      none = λ z above below. absurd (omega (arith, above, below, n.from));
      small = omega (arith, and_le_l run.bits (run.bits - 1), h.small);
      bits = λ i l.
          let is = cleared run.bits (end - run.word * 64) set_there none_set_below i in
          let old = h.bits i l in (
            λ set. let left = is.0 set in (omega (arith, left.0, n.from), (old.0 left.1).1),
            λ end_is. is.1 (omega (arith, end_is.0, n.from), old.1 (omega (arith, end_is.0, n.behind), end_is.1)),
          );
    }

-- ---- a place that is found again

pub resumed : (least : ℕ) (run : Run) (place word bits : ℕ) → AreEnds least run → place < run.length → bit_at (slice_index run.ends.items (place / 64)) (place % 64) ≡ 1
    → word ≡ place / 64 → bits ≡ (slice_index run.ends.items (place / 64) / 2 ^ (place % 64) - 1) * 2 ^ (place % 64) % 2 ^ 64
    → IsAtPlace least (record run { word = word; bits = bits }) place
resumed least run place word bits marked inside set word_is bits_are =
    let x = slice_index run.ends.items (place / 64) in
    let there = marked.are (place / 64) (omega (arith, inside, marked.whole)) in
    let here : place / 64 * 64 + place % 64 ≡ place = omega arith in
    record {
      marked = record { whole = marked.whole; are = marked.are };
      before = omega (arith, word_is);
      begins = inr (subst (λ (n : ℕ). least ≤ slice_index run.rows.items n) here ((there.are (place % 64) (omega arith)).0 set));
      word = omega (arith, word_is, inside, marked.whole);
      none = λ z above below. absurd (omega (arith, above, below, word_is));
      small = omega (arith, bits_are);
      bits = λ i l.
          let is = cleared_from x (place % 64) there.small set i in
          let same : bit_at bits i ≡ bit_at ((x / 2 ^ (place % 64) - 1) * 2 ^ (place % 64) % 2 ^ 64) i = ap (λ (n : ℕ). bit_at n i) bits_are in
          let row : place / 64 * 64 + i ≡ word * 64 + i = omega (arith, word_is) in
          let old = subst (λ (n : ℕ). (bit_at x i ≡ 1) ↔ (least ≤ slice_index run.rows.items n)) row (there.are i l) in (
            λ on. let left = is.0 (sym same ∙ on) in (omega (arith, left.0, word_is), old.0 left.1),
            λ end. same ∙ is.1 (omega (arith, end.0, word_is), old.1 end.1),
          );
    }
