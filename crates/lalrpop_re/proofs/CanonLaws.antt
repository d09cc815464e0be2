-- `canon s` is the list of the maximal runs of s.
use Rattle.std.proofs.Common.{◌≡◌, ◌↔◌, ◌⊎◌, inl, inr, ℕ, zero, suc, ◌<◌, ◌≤◌, true, ◌==◌, ◌&&◌, List, [], ◌∷◌, sym, subst, arith}
use Rattle.std.proofs.lemmas.Bool.{cond_both, and_parts, and_from, eqb-true, eqb-false, cases_lt}
use Rattle.std.proofs.lemmas.Bool.Decides.{nat_tests}
use Rattle.lalrpop_hir.specs.Range.{Range, Covers, Covered}
use Rattle.lalrpop_hir.specs.Runs.{IsScalar, next_scalar, AreApart, HaveEndsIn, IsCanonical, IsCanon}
use Rattle.lalrpop_hir.proofs.Canons.{scalar_steps, canon-unique}
use Rattle.lalrpop_re.specs.CharacterSet.{Set, is_scalar, with_least, runs_below, canon, Members, HasRuns}

pub is_scalar-IsScalar : (c : ℕ) → is_scalar c ≡ true → IsScalar c
is_scalar-IsScalar c h = grind (arith, nat_tests)

pub IsScalar-is_scalar : (c : ℕ) → IsScalar c → is_scalar c ≡ true
IsScalar-is_scalar c h = grind (arith, nat_tests)

pub IsScalar-below : (c : ℕ) → IsScalar c → c < 0x11_0000
IsScalar-below c (inl h) = omega arith
IsScalar-below c (inr h) = omega (arith, h.1)

-- ---- one more run, or a longer one, in front

abbrev to : ℕ → ℕ → Range
to a b = record { start = a; end = b }

by_neighbour : (P : List Range → Type 0) (c : ℕ) (r : Range) (rs : List Range) → (next_scalar c ≡ r.start → P (to c r.end ∷ rs)) → ((next_scalar c ≡ r.start → ⊥) → P (to c c ∷ r ∷ rs)) → P (with_least c (r ∷ rs))
by_neighbour P c r rs f g =
    cond_both (next_scalar c == r.start) (to c r.end ∷ rs) (to c c ∷ r ∷ rs) P (λ e. f (eqb-true _ _ e)) (λ e. g (eqb-false _ _ e))

-- the first range starts after c
abbrev StartsBehind : ℕ → List Range → Type 0
StartsBehind c [] = Unit {0}
StartsBehind c (r ∷ rs) = c < r.start

head_holds : (r : Range) (rs : List Range) → AreApart next_scalar (r ∷ rs) → r.start ≤ r.end
head_holds r [] a = a
head_holds r (q ∷ rs) a = a.0

longer_apart : (c : ℕ) (r : Range) (rs : List Range) → c < r.start → AreApart next_scalar (r ∷ rs) → AreApart next_scalar (to c r.end ∷ rs)
longer_apart c r [] h a = omega arith
longer_apart c r (q ∷ rs) h a = (omega (arith, a.0), a.1, a.2)

least_apart : (c : ℕ) (rs : List Range) → IsScalar c → IsCanonical rs → StartsBehind c rs → AreApart next_scalar (with_least c rs)
least_apart c [] s k b = omega arith
least_apart c (r ∷ rs) s k b =
    by_neighbour (AreApart next_scalar) c r rs
    (λ e. longer_apart c r rs b k.0)
    (λ n. (omega arith, omega (arith, n, scalar_steps.reaches c r.start s k.1.0 b), k.0))

least_ends : (c : ℕ) (rs : List Range) → IsScalar c → IsCanonical rs → HaveEndsIn IsScalar (with_least c rs)
least_ends c [] s k = (s, s, tt)
least_ends c (r ∷ rs) s k =
    by_neighbour (HaveEndsIn IsScalar) c r rs (λ e. (s, k.1.1, k.1.2)) (λ n. (s, s, k.1))

-- from the place before a range on there is one value more
one_longer : (c d : ℕ) (r : Range) → IsScalar c → IsScalar d → c < r.start → r.start ≤ r.end → next_scalar c ≡ r.start → Covers (to c r.end) d ↔ ((d ≡ c) ⊎ Covers r d)
one_longer c d r s u h le e = (
  λ k. elim (cases_lt c d) [
    | inl lt ↦ inr (omega (arith, scalar_steps.reaches c d s u lt), k.1)
    | inr ge ↦ inl (omega (arith, k.0))
  ],
  λ k. elim k [ inl q ↦ (omega arith, omega arith) | inr q ↦ (omega (arith, q.0), q.1) ],
)

least_covers : (c d : ℕ) (rs : List Range) → IsScalar c → IsScalar d → IsCanonical rs → StartsBehind c rs → Covered (with_least c rs) d ↔ ((d ≡ c) ⊎ Covered rs d)
least_covers c d [] s u k b = (
  λ h. elim h [ inl q ↦ inl (omega (arith, q.0, q.1)) | inr q ↦ absurd q ],
  λ h. elim h [ inl q ↦ inl (omega arith, omega arith) | inr q ↦ absurd q ],
)
least_covers c d (r ∷ rs) s u k b =
    by_neighbour (λ l. Covered l d ↔ ((d ≡ c) ⊎ Covered (r ∷ rs) d)) c r rs
    (λ e. let one = one_longer c d r s u b (head_holds r rs k.0) e in (
      λ h. elim h [ inl q ↦ elim (one.0 q) [ inl x ↦ inl x | inr x ↦ inr (inl x) ] | inr q ↦ inr (inr q) ],
      λ h. elim h [ inl q ↦ inl (one.1 (inl q)) | inr q ↦ elim q [ inl x ↦ inl (one.1 (inr x)) | inr x ↦ inr x ] ],
    ))
    (λ n. (
      λ h. elim h [ inl q ↦ inl (omega (arith, q.0, q.1)) | inr q ↦ inr q ],
      λ h. elim h [ inl q ↦ inl (omega arith, omega arith) | inr q ↦ inr q ],
    ))

-- ---- the runs below a place, from the highest value down

-- the list has the runs of the members from n on
record AreRunsFrom (n : ℕ) (s : Set) (rs : List Range) : Type 0 where
  canonical : IsCanonical rs
  covers : (c : ℕ) → IsScalar c → ((n ≤ c) × Members s c) ↔ Covered rs c

starts_behind : (n : ℕ) (s : Set) (rs : List Range) → AreRunsFrom (suc n) s rs → StartsBehind n rs
starts_behind n s [] k = tt
starts_behind n s (r ∷ rs) k =
    omega (arith, ((k.covers r.start k.canonical.1.0).1 (inl (omega arith, head_holds r rs k.canonical.0))).0)

-- a member is put in front
with_member : (n : ℕ) (s : Set) (rs : List Range) → IsScalar n → Members s n → AreRunsFrom (suc n) s rs → AreRunsFrom n s (with_least n rs)
with_member n s rs u m k =
    let b = starts_behind n s rs k in
    record {
      canonical = (least_apart n rs u k.canonical b, least_ends n rs u k.canonical);
      covers = λ c v.
          let more = least_covers n c rs u v k.canonical b in
          let old = k.covers c v in (
            λ h. elim (cases_lt n c) [ inl lt ↦ more.1 (inr (old.0 (lt, h.1))) | inr ge ↦ more.1 (inl (omega (arith, h.0))) ],
            λ h. elim (more.0 h) [ inl e ↦ (omega arith, subst (Members s) (sym e) m) | inr q ↦ let p = old.1 q in (omega (arith, p.0), p.1) ],
          );
    }

without_member : (n : ℕ) (s : Set) (rs : List Range) → (IsScalar n → Members s n → ⊥) → AreRunsFrom (suc n) s rs → AreRunsFrom n s rs
without_member n s rs out k =
    record {
      canonical = k.canonical;
      covers = λ c v.
          let old = k.covers c v in (
            λ h. elim (cases_lt n c) [
              | inl lt ↦ old.0 (lt, h.1)
              | inr ge ↦ let e : c ≡ n = omega (arith, h.0) in absurd (out (subst IsScalar e v) (subst (Members s) e h.1))
            ],
            λ h. let p = old.1 h in (omega (arith, p.0), p.1),
          );
    }

runs_down : (n : ℕ) (s : Set) (rs : List Range) → AreRunsFrom n s rs → AreRunsFrom 0 s (runs_below n s rs)
unfolding runs_below
runs_down zero s rs k = k
runs_down (suc n) s rs k =
    runs_down n s _
    (cond_both (is_scalar n && s n) (with_least n rs) rs (AreRunsFrom n s)
    (λ e. let p = and_parts (is_scalar n) (s n) e in with_member n s rs (is_scalar-IsScalar n p.0) p.1 k)
    (λ e. without_member n s rs (λ u m. let t = and_from (is_scalar n) (s n) (IsScalar-is_scalar n u) m in absurd cc) k))

-- stated at a variable, so that the checker doesn't compute the runs
runs_within : (n : ℕ) (s : Set) → ((c : ℕ) → IsScalar c → c < n) → IsCanon (Members s) (runs_below n s [])
runs_within n s all =
    let start : AreRunsFrom n s [] = record { canonical = (tt, tt); covers = λ c u. (λ h. absurd (omega (arith, h.0, all c u)), λ h. absurd h) } in
    let k = runs_down n s [] start in
    (k.canonical, λ c u. (λ m. (k.covers c u).0 (omega arith, m), λ h. ((k.covers c u).1 h).1))

pub canon-is : (s : Set) → IsCanon (λ c. s c ≡ true) (canon s)
unfolding canon
canon-is s = runs_within 0x11_0000 s IsScalar-below

-- the canon of a set is its only list of runs
pub HasRuns-canon : (rs : List Range) (s : Set) → HasRuns rs s → rs ≡ canon s
HasRuns-canon rs s k = canon-unique (Members s) rs (canon s) k (canon-is s)
