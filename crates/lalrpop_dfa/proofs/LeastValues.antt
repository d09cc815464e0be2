-- The least value that leads to a state with a property: the edges are passed in ascending order.
use Rattle.std.proofs.Common.{◌≡◌, ℕ, ◌⊎◌, ◌↔◌, ◌+◌, ◌<◌, ◌≤◌, ⊎_elim, List, length, refl, sym, ap, ◌∙◌, subst, arith}
use Rattle.std.specs.Prelude.{slice_get, Option, Some, None, Result, Ok, Err}
use Rattle.std.specs.Result.{OkIff, result_ok}
use Rattle.std.proofs.lemmas.Bool.{cases_lt}
use Rattle.std.proofs.lemmas.Option.{slice_get_within}
use Rattle.lalrpop_hir.specs.Range.{Range}
use Rattle.lalrpop_dfa.specs.Dfa.{Row, step, AreAscendingTests}
use Rattle.lalrpop_dfa.specs.Stored.{EndBefore}
use Rattle.lalrpop_dfa.proofs.EdgeTargets.{before_at, has_value_at, leads_at, leads_between, step_of}
use Rattle.lalrpop_dfa.specs.Internal.Ranks.{IsLeastInto}

-- the tests before the place k end before the value `next`, the others begin there or after it, and no value before it leads to W
pub record IsPassed (d : List Row) (W : ℕ → Type 0) (p : ℕ) (ts : List (Range × ℕ)) (k next : ℕ) : Type 0 where
  pub none : (c : ℕ) → c < next → ¬ W (step d p c)
  pub behind : EndBefore ts k next
  pub before : (j : ℕ) (t : Range × ℕ) → k ≤ j → slice_get ts j ≡ Some t → next ≤ t.0.start

pub passed_first : (d : List Row) (W : ℕ → Type 0) (p : ℕ) (ts : List (Range × ℕ)) → IsPassed d W p ts 0 0
passed_first d W p ts = record { none = λ c l. absurd (omega arith); behind = λ k t l e. absurd (omega arith); before = λ j t l e. omega arith }

module _ (d : List Row) (W : ℕ → Type 0) (p : ℕ) (r : Row) (at : slice_get d p ≡ Some r) (a : AreAscendingTests r.tests) where
  -- a value after the passed tests and before the next one leads along the other edge
  by_other : (k next c : ℕ) → IsPassed d W p r.tests k next → next ≤ c → ((t : Range × ℕ) → slice_get r.tests k ≡ Some t → c < t.0.start) → step d p c ≡ r.other
  by_other k next c h l less =
      step_of d p c r at ∙ leads_between r.tests a k r.other c (λ j t b e. let f : t.0.end < next = h.behind j t b e in omega arith) less

  by_test : (k c : ℕ) (t : Range × ℕ) → slice_get r.tests k ≡ Some t → t.0.start ≤ c → c ≤ t.0.end → step d p c ≡ t.1
  by_test k c t here low high = step_of d p c r at ∙ leads_at r.tests a k r.other c t here (low, high)

  same_test : (j k : ℕ) (t u : Range × ℕ) → j ≡ k → slice_get r.tests k ≡ Some t → slice_get r.tests j ≡ Some u → u ≡ t
  same_test j k t u e here there = let g : Some u ≡ Some t = sym there ∙ (ap (slice_get r.tests) e ∙ here) in cc

  module _ (k next : ℕ) (t : Range × ℕ) (h : IsPassed d W p r.tests k next) (here : slice_get r.tests k ≡ Some t) where
    before_it : (c : ℕ) → c < t.0.start → (u : Range × ℕ) → slice_get r.tests k ≡ Some u → c < u.0.start
    before_it c l u e = let same : u ≡ t = same_test k k t u refl here e in subst (λ (x : Range × ℕ). c < x.0.start) (sym same) l

    -- no value before the next test leads to W
    none_before : ¬ W r.other ⊎ (t.0.start ≤ next) → (c : ℕ) → c < t.0.start → ¬ W (step d p c)
    none_before other c l w =
        ⊎_elim (λ (x : c < next). h.none c x w)
        (λ (x : next ≤ c).
        ⊎_elim (λ (no : ¬ W r.other). no (subst W (by_other k next c h x (before_it c l)) w)) (λ (y : t.0.start ≤ next). omega arith) other)
        (cases_lt c next)

    pub passed_next : ¬ W r.other ⊎ (t.0.start ≤ next) → ¬ W t.1 → IsPassed d W p r.tests (k + 1) (t.0.end + 1)
    passed_next other not = record {
      none = λ c l w.
          ⊎_elim (λ (x : c < t.0.start). none_before other c x w)
          (λ (x : t.0.start ≤ c). let y : c ≤ t.0.end = omega arith in not (subst W (by_test k c t here x y) w))
          (cases_lt c t.0.start);
      behind = λ j u l e.
          ⊎_elim
          (λ (x : j < k).
          let f : u.0.end < next = h.behind j u x e in
          let g : next ≤ t.0.start = h.before k t (omega arith) here in
          let v : t.0.start ≤ t.0.end = has_value_at r.tests a k t here in
          omega arith)
          (λ (x : k ≤ j).
          let same : u ≡ t = same_test j k t u (omega arith) here e in
          subst (λ (y : Range × ℕ). y.0.end < t.0.end + 1) (sym same) (omega arith))
          (cases_lt j k);
      before = λ j u l e. let f : t.0.end < u.0.start = before_at r.tests a k j t u (omega arith) here e in omega arith;
    }

    pub least_by_test : t.0.start ≤ 4294967295 → ¬ W r.other ⊎ (t.0.start ≤ next) → W t.1 → IsLeastInto d W p (Some t.0.start)
    least_by_test fits other w = (
      fits,
      subst W (sym (by_test k t.0.start t here (omega arith) (has_value_at r.tests a k t here))) w,
      none_before other,
    )

    pub least_between : next < t.0.start → t.0.start ≤ 4294967295 → W r.other → IsLeastInto d W p (Some next)
    least_between less fits w = (
      omega arith,
      subst W (sym (by_other k next next h (omega arith) (before_it next less))) w,
      h.none,
    )

  module _ (next : ℕ) (h : IsPassed d W p r.tests (length r.tests) next) where
    nothing : {A : Type 0} (t : Range × ℕ) → slice_get r.tests (length r.tests) ≡ Some t → A
    nothing t e = absurd (omega (arith, slice_get_within r.tests (length r.tests) t e))

    pub least_behind : next ≤ 4294967295 → W r.other → IsLeastInto d W p (Some next)
    least_behind fits w = (
      fits,
      subst W (sym (by_other (length r.tests) next next h (omega arith) (λ t e. nothing t e))) w,
      h.none,
    )

    pub none_fits : 4294967295 < next → IsLeastInto d W p None
    none_fits more = λ c l. h.none c (omega arith)

    pub none_at_all : ¬ W r.other → IsLeastInto d W p None
    none_at_all not = λ c l w.
        ⊎_elim (λ (x : c < next). h.none c x w)
        (λ (x : next ≤ c). not (subst W (by_other (length r.tests) next c h x (λ t e. nothing t e)) w))
        (cases_lt c next)

    -- the value after all tests, if it fits
    pub least_fitting : {E : Type 0} (found : Result ℕ E) (o : Option ℕ) → OkIff found (next < 4294967296) next → o ≡ result_ok found → W r.other → IsLeastInto d W p o
    least_fitting (Ok v) o (fits, same) e w = rw (e, same) (least_behind (omega arith) w)
    least_fitting (Err f) o not e w = rw e (none_fits (⊎_elim (λ (x : next < 4294967296). absurd (not x)) (λ (x : 4294967296 ≤ next). omega arith) (cases_lt next 4294967296)))

-- the same for properties that agree
pub least_same : (d : List Row) (W V : ℕ → Type 0) (p : ℕ) (o : Option ℕ) → ((c : ℕ) → W (step d p c) ↔ V (step d p c)) → IsLeastInto d W p o → IsLeastInto d V p o
least_same d W V p None same h = λ c l v. h c l ((same c).1 v)
least_same d W V p (Some c) same h = (h.0, (same c).0 h.1, λ b l v. h.2 b l ((same b).1 v))
