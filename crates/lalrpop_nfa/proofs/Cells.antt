-- The partition of the values below a place, which grows from boundary to boundary.
use Rattle.std.proofs.Common.{◌≡◌, ℕ, ◌+◌, ◌-◌, ◌<◌, ◌≤◌, ◌⊎◌, inl, inr, ⊎_elim, List, [], ◌∷◌, ◌++◌, length, refl, arith, get_or, zero, suc}
use Rattle.std.proofs.lemmas.List.{length_push, get_or_append_left, get_or_push}
use Rattle.std.proofs.lemmas.Bool.{cases_lt}
use Rattle.lalrpop_hir.specs.Range.{Range, Covers}
use Rattle.lalrpop_nfa.specs.Partition.{Ranges, IsCovered, Alike}

-- the k-th block; past the end, any
abbrev pub at : List Range → ℕ → Range
at xs k = get_or xs k (record { start = 0; end = 0 })

-- a nonempty range starts at c, or ends right before it
abbrev pub IsBoundary : Ranges → ℕ → Type 0
IsBoundary R c = (r : Range) × (R r × (r.start ≤ r.end) × ((c ≡ r.start) ⊎ (c ≡ r.end + 1)))

-- the blocks of the values below p
pub record BlocksBelow (R : Ranges) (blocks : List Range) (p : ℕ) : Type 0 where
  pub each : (k : ℕ) → k < length blocks → (at blocks k).start ≤ (at blocks k).end
  pub under : (k : ℕ) → k < length blocks → (at blocks k).end < p
  pub ascending : (j k : ℕ) → j < k → k < length blocks → (at blocks j).end < (at blocks k).start
  pub constant : (k c : ℕ) → k < length blocks → Covers (at blocks k) c → Alike R c (at blocks k).start
  pub held : (k : ℕ) → k < length blocks → IsCovered R (at blocks k).start
  pub covers : (c : ℕ) → c < p → IsCovered R c → (k : ℕ) × ((k < length blocks) × Covers (at blocks k) c)
  pub maximal : (j k : ℕ) → j < length blocks → k < length blocks → (at blocks j).end + 1 ≡ (at blocks k).start → ¬ Alike R (at blocks j).end (at blocks k).start

pub alike_refl : (R : Ranges) (c : ℕ) → Alike R c c
alike_refl R c r h = ((λ a. a), (λ a. a))

pub alike_sym : (R : Ranges) (c d : ℕ) → Alike R c d → Alike R d c
alike_sym R c d h r k = ((h r k).1, (h r k).0)

pub alike_trans : (R : Ranges) (b c d : ℕ) → Alike R b c → Alike R c d → Alike R b d
alike_trans R b c d h g r k = ((λ a. (g r k).0 ((h r k).0 a)), (λ a. (h r k).1 ((g r k).1 a)))

pub covered_along : (R : Ranges) (c d : ℕ) → Alike R c d → IsCovered R c → IsCovered R d
covered_along R c d h (r, (k, a)) = (r, (k, (h r k).0 a))

-- one range, at two neighbours with no boundary between
step_up : (r : Range) (c : ℕ) → ((r.start ≤ r.end) → (c + 1 ≡ r.start) ⊎ (c + 1 ≡ r.end + 1) → ⊥) → Covers r c → Covers r (c + 1)
step_up r c none (a, b) =
    ⊎_elim (λ (l : c < r.end). (omega (arith, a), omega (arith, l))) (λ (l : r.end ≤ c). absurd (none (omega (arith, a, b)) (inr (omega (arith, b, l))))) (cases_lt c r.end)

step_down : (r : Range) (c : ℕ) → ((r.start ≤ r.end) → (c + 1 ≡ r.start) ⊎ (c + 1 ≡ r.end + 1) → ⊥) → Covers r (c + 1) → Covers r c
step_down r c none (a, b) =
    ⊎_elim (λ (l : c < r.start). absurd (none (omega (arith, a, b)) (inl (omega (arith, a, l))))) (λ (l : r.start ≤ c). (l, omega (arith, b))) (cases_lt c r.start)

alike_for : (R : Ranges) (p d : ℕ) → ((c : ℕ) → p < c → c ≤ p + d → ¬ IsBoundary R c) → Alike R (p + d) p
alike_for R p zero none = let e : p + 0 ≡ p = omega arith in rw e (alike_refl R p)
alike_for R p (suc d) none =
    let e : p + suc d ≡ (p + d) + 1 = omega arith in
    rw e (alike_trans R ((p + d) + 1) (p + d) p
    (λ r k. (step_down r (p + d) (λ a b. none ((p + d) + 1) (omega arith) (omega arith) (r, (k, a, b))), step_up r (p + d) (λ a b. none ((p + d) + 1) (omega arith) (omega arith) (r, (k, a, b)))))
    (alike_for R p d (λ c a b. none c a (omega arith))))

-- between two boundaries the same ranges contain each value
pub alike_between : (R : Ranges) (p c : ℕ) → p ≤ c → ((d : ℕ) → p < d → d ≤ c → ¬ IsBoundary R d) → Alike R c p
alike_between R p c l none = let e : p + (c - p) ≡ c = omega arith in (rw e at (alike_for R p (c - p) (λ d a b. none d a (omega arith))))

-- at a boundary they change
pub changes_at_boundary : (R : Ranges) (b c : ℕ) → IsBoundary R c → b + 1 ≡ c → ¬ Alike R b c
changes_at_boundary R b c (r, (k, some, inl e)) step same = let h : Covers r b = (same r k).1 (omega arith, omega arith) in omega (arith, h.0)
changes_at_boundary R b c (r, (k, some, inr e)) step same = let h : Covers r c = (same r k).0 (omega arith, omega arith) in omega (arith, h.1)

pub parts_none : (R : Ranges) → BlocksBelow R [] 0
parts_none R = record {
  each = λ k l. absurd (omega arith);
  under = λ k l. absurd (omega arith);
  ascending = λ j k a l. absurd (omega arith);
  constant = λ k c l h. absurd (omega arith);
  held = λ k l. absurd (omega arith);
  covers = λ c l h. absurd (omega arith);
  maximal = λ j k a b e same. absurd (omega arith);
}

-- a cell that no range contains is skipped
pub parts_passed : (R : Ranges) (blocks : List Range) (p q : ℕ) → BlocksBelow R blocks p → ((c : ℕ) → p < c → c < q → ¬ IsBoundary R c) → ¬ IsCovered R p → p ≤ q → BlocksBelow R blocks q
parts_passed R blocks p q h none empty pq = record {
  each = h.each;
  under = λ k l. let e : (at blocks k).end < p = h.under k l in omega arith;
  ascending = h.ascending;
  constant = h.constant;
  held = h.held;
  covers = λ c l x.
      ⊎_elim (λ (a : c < p). h.covers c a x)
      (λ (a : p ≤ c). absurd (empty (covered_along R c p (alike_between R p c a (λ d u v. none d u (omega arith))) x)))
      (cases_lt c p);
  maximal = h.maximal;
}

module _ (R : Ranges) (blocks : List Range) (p q : ℕ) (h : BlocksBelow R blocks p) (pq : p < q) (boundary : IsBoundary R p) (none : (c : ℕ) → p < c → c < q → ¬ IsBoundary R c) (full : IsCovered R p) where
  abbrev cell : Range
  cell = record { start = p; end = q - 1 }

  old_at : (k : ℕ) → k < length blocks → at (blocks ++ cell ∷ []) k ≡ at blocks k
  old_at k l = get_or_append_left blocks (cell ∷ []) (record { start = 0; end = 0 }) k l

  new_at : at (blocks ++ cell ∷ []) (length blocks) ≡ cell
  new_at = get_or_push blocks cell (record { start = 0; end = 0 }) (length blocks) refl

  old_or_new : (k : ℕ) → k < length (blocks ++ cell ∷ []) → (k < length blocks) ⊎ (k ≡ length blocks)
  old_or_new k l = ⊎_elim (λ (a : k < length blocks). inl a) (λ (a : length blocks ≤ k). inr (omega (arith, length_push blocks cell))) (cases_lt k (length blocks))

  -- what holds of the blocks so far, and of the new one, holds of each
  each_at : (P : Range → Type 0) → ((k : ℕ) → k < length blocks → P (at blocks k)) → P cell → (k : ℕ) → k < length (blocks ++ cell ∷ []) → P (at (blocks ++ cell ∷ []) k)
  each_at P old new k l =
      ⊎_elim (λ (a : k < length blocks). rw (old_at k a) (old k a)) (λ (e : k ≡ length blocks). rw (e, new_at) new) (old_or_new k l)

  in_cell : (c : ℕ) → Covers cell c → Alike R c p
  in_cell c (a, b) = alike_between R p c a (λ d u v. none d u (omega arith))

  -- a cell from a boundary to the next one is one more block
  pub parts_kept : BlocksBelow R (blocks ++ cell ∷ []) q
  parts_kept = record {
    each = each_at (λ (r : Range). r.start ≤ r.end) h.each (omega arith);
    under = each_at (λ (r : Range). r.end < q) (λ k l. let e : (at blocks k).end < p = h.under k l in omega arith) (omega arith);
    ascending = λ j k a l.
        ⊎_elim
        (λ (b : k < length blocks). rw (old_at k b, old_at j (omega arith)) (h.ascending j k a b))
        (λ (e : k ≡ length blocks). rw (e, new_at, old_at j (omega arith)) (h.under j (omega arith)))
        (old_or_new k l);
    constant = λ k c l. each_at (λ (r : Range). Covers r c → Alike R c r.start) (λ i m. h.constant i c m) (in_cell c) k l;
    held = each_at (λ (r : Range). IsCovered R r.start) h.held full;
    covers = λ c l x.
        ⊎_elim
        (λ (a : c < p). let (k, (kl, u)) = h.covers c a x in (k, (omega (arith, length_push blocks cell), rw (old_at k kl) u)))
        (λ (a : p ≤ c). (length blocks, (omega (arith, length_push blocks cell), rw new_at (a, omega arith))))
        (cases_lt c p);
    maximal = λ j k a b.
        ⊎_elim
        (λ (kl : k < length blocks).
        ⊎_elim
        (λ (jl : j < length blocks). rw (old_at j jl, old_at k kl) (h.maximal j k jl kl))
        (λ (e : j ≡ length blocks). rw (e, new_at, old_at k kl) (λ step same. omega (arith, h.under k kl, h.each k kl)))
        (old_or_new j a))
        (λ (e : k ≡ length blocks).
        ⊎_elim
        (λ (jl : j < length blocks). rw (e, old_at j jl, new_at) (λ step same. changes_at_boundary R (at blocks j).end p boundary step same))
        (λ (f : j ≡ length blocks). rw (e, f, new_at) (λ step same. omega arith))
        (old_or_new j a))
        (old_or_new k b);
  }

-- past the last boundary no value is left
pub last_covers : (R : Ranges) (blocks : List Range) (p : ℕ) → BlocksBelow R blocks p → ((c : ℕ) → p < c → ¬ IsBoundary R c) → (c : ℕ) → IsCovered R c → (k : ℕ) × ((k < length blocks) × Covers (at blocks k) c)
last_covers R blocks p h none c (r, (k, a)) =
    ⊎_elim (λ (l : c < p). h.covers c l (r, (k, a))) (λ (l : p ≤ c). absurd (none (r.end + 1) (omega (arith, a.1)) (r, (k, omega (arith, a.0, a.1), inr refl)))) (cases_lt c p)

-- the value 0, if some range contains it, is a boundary
pub zero_is_boundary : (R : Ranges) (p : ℕ) → p ≡ 0 → IsCovered R p → IsBoundary R p
zero_is_boundary R p z (r, (k, a)) = (r, (k, omega (arith, a.0, a.1), inl (omega (arith, a.0))))
