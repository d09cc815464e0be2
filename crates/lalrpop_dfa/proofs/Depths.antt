-- How many states in a row wait, as it is found.
use Rattle.std.proofs.Common.{◌≡◌, ◌≢◌, ℕ, zero, suc, ◌⊎◌, inl, inr, ◌↔◌, ◌+◌, ◌<◌, ◌≤◌, ⊎_elim, List, [], ◌∷◌, ◌++◌, length, get_or, set, get_or-set_same, get_or-set_other, length-set, Bool, true, false, refl, sym, ap, ◌∙◌, subst, arith}
use Rattle.std.specs.Prelude.{cond, slice_get, Some, None}
use Rattle.std.proofs.lemmas.Bool.{cases_lt}
use Rattle.std.proofs.lemmas.Option.{slice_get-get_or}
use Rattle.std.proofs.lemmas.List.{length_push, get_or_append_left, get_or_push}
use Rattle.lalrpop_dfa.specs.Dfa.{Row, step, IsWellFormed}
use Rattle.lalrpop_dfa.specs.Internal.Marks.{AreWaitingFor, IsWaiting, Marked, WaitsFor}
use Rattle.lalrpop_dfa.specs.Internal.Ranks.{AreDeep, AreDepths, AreShallower, IsLeastInto, IsShallower, IsWanted, StaysFor}
use Rattle.lalrpop_dfa.proofs.EdgeTargets.{step_within}
use Rattle.lalrpop_dfa.proofs.Lookaheads.{waits_none}
use Rattle.lalrpop_dfa.proofs.Ranked.{stays_by, stays_on}
use Rattle.lalrpop_dfa.proofs.Totals.{same_or_other}

-- ---- the depths at first
-- the depth of a state by whether it waits
pub record IsFirstDepth (d : List Row) (most p k : ℕ) : Type 0 where
  pub low : k ≤ most
  pub waiting : 0 < k → IsWaiting d p
  pub deep : IsWaiting d p → k ≡ most

-- what a mark says
pub first_read : (d : List Row) (marks : List Bool) (most p k : ℕ) → AreWaitingFor d 0 marks → p < length marks → k ≡ cond (get_or marks p false) most 0 → IsFirstDepth d most p k
first_read d marks most p k are l value = at (get_or marks p false) (slice_get-get_or marks p false l) value (are.each p (omega (arith, l, are.same_length)))
  where
    at : (b : Bool) → slice_get marks p ≡ Some b → k ≡ cond b most 0 → Marked marks p ↔ WaitsFor d 0 p → IsFirstDepth d most p k
    at true here value each = record { low = omega (arith, value); waiting = λ z. (each.0 here).0; deep = λ w. value }
    at false here value each = record {
      low = omega (arith, value);
      waiting = λ z. absurd (omega (arith, z, value));
      deep = λ w. absurd (let m : slice_get marks p ≡ Some true = each.1 (waits_none d p w) in let e : Some false ≡ Some true = sym here ∙ m in cc);
    }

-- numbers that are pushed one by one
pub ranks_pushed : (P : ℕ → ℕ → Type 0) (xs ys : List ℕ) (n v : ℕ) → length xs ≡ n → ((p : ℕ) → p < n → P p (get_or xs p 0)) → P n v → ys ≡ xs ++ v ∷ []
    → (length ys ≡ n + 1) × ((p : ℕ) → p < n + 1 → P p (get_or ys p 0))
ranks_pushed P xs ys n v long old new is = (omega (arith, ap length is, length_push xs v, long), rw is each)
  where
    each : (p : ℕ) → p < n + 1 → P p (get_or (xs ++ v ∷ []) p 0)
    each p l =
        ⊎_elim (λ (a : p < n). subst (P p) (sym (get_or_append_left xs (v ∷ []) 0 p (omega (arith, long)))) (old p a))
        (λ (a : n ≤ p).
        let e : n ≡ p = omega arith in
        subst (λ q. P q (get_or (xs ++ v ∷ []) q 0)) e (subst (P n) (sym (get_or_push xs v 0 n long)) new))
        (cases_lt p n)

pub deep_at_first : (d : List Row) (most : ℕ) (depths : List ℕ) → length depths ≡ length d → ((p : ℕ) → p < length d → IsFirstDepth d most p (get_or depths p 0)) → AreDeep d most depths
deep_at_first d most depths same h = record {
  same_length = same;
  low = λ p l. (h p l).low;
  waiting = λ p l. (h p l).waiting;
  deep = λ j p less s. omega (arith, less, (h p s.0.0).deep s.0);
}

-- ---- one more than the greatest of those that the values of a state lead to
-- the depth so far
pub record IsShallowerYet (d : List Row) (depths : List ℕ) (p own new : ℕ) : Type 0 where
  pub some : 0 < new
  pub most : new ≤ own
  pub reached : (new ≤ 1) ⊎ ((c : ℕ) × ((c ≤ 4294967295) × (new ≤ get_or depths (step d p c) 0 + 1)))

pub shallower_first : (d : List Row) (depths : List ℕ) (p own : ℕ) → 0 < own → IsShallowerYet d depths p own 1
shallower_first d depths p own some = record { some = omega arith; most = omega (arith, some); reached = inl (omega arith) }

pub shallower_by : (d : List Row) (depths : List ℕ) (p own new c q : ℕ) → c ≤ 4294967295 → q ≡ step d p c → 0 < new → new ≤ own → new ≤ get_or depths q 0 + 1 → IsShallowerYet d depths p own new
shallower_by d depths p own new c q fits to some most less = record { some = some; most = most; reached = inr (c, (fits, subst (λ r. new ≤ get_or depths r 0 + 1) to less)) }

pub shallower_none : (d : List Row) (depths : List ℕ) (p own new : ℕ) → IsShallowerYet d depths p own new → ((q : ℕ) → get_or depths q 0 ≤ 18446744073709551615)
    → IsLeastInto d (IsWanted depths new 18446744073709551615) p None → IsShallower d depths p own new
shallower_none d depths p own new h fits none = record {
  some = h.some;
  most = h.most;
  enough = λ less c l.
      ⊎_elim (λ (x : get_or depths (step d p c) 0 < new). x) (λ (x : new ≤ get_or depths (step d p c) 0). absurd (none c l (x, fits (step d p c))))
      (cases_lt (get_or depths (step d p c) 0) new);
  reached = h.reached;
}

pub shallower_end : (d : List Row) (depths : List ℕ) (p own new : ℕ) → IsShallowerYet d depths p own new → own ≤ new → IsShallower d depths p own new
shallower_end d depths p own new h all = record { some = h.some; most = h.most; enough = λ less c l. absurd (omega (arith, less, all)); reached = h.reached }

-- ---- one pass: the states from a place on are done
pub record IsRising (d : List Row) (old new : List ℕ) (from : ℕ) : Type 0 where
  pub same_length : length new ≡ length old
  pub most : (p : ℕ) → p < length d → get_or new p 0 ≤ get_or old p 0
  pub reached : (p : ℕ) → from ≤ p → p < length d → (get_or new p 0 ≤ 1) ⊎ ((c : ℕ) × ((c ≤ 4294967295) × (get_or new p 0 ≤ get_or old (step d p c) 0 + 1)))
  pub deep : (most : ℕ) → AreDeep d most old → AreDeep d most new

pub rising_first : (d : List Row) (old : List ℕ) → IsRising d old old (length d)
rising_first d old = record { same_length = refl; most = λ p l. omega arith; reached = λ p from l. absurd (omega (arith, from, l)); deep = λ most h. h }

pub rising_end : (d : List Row) (old new : List ℕ) → IsRising d old new 0 → AreShallower d old new
rising_end d old new h = record { same_length = h.same_length; most = h.most; reached = λ p l. h.reached p (omega arith) l; deep = h.deep }

module _ (d : List Row) (old new : List ℕ) (place next : ℕ) (on : next ≡ place + 1) (h : IsRising d old new next) (long : length new ≡ length d) (l : place < length d) (well : IsWellFormed d) where
  abbrev Reached : ℕ → ℕ → Type 0
  Reached p k = (k ≤ 1) ⊎ ((c : ℕ) × ((c ≤ 4294967295) × (k ≤ get_or old (step d p c) 0 + 1)))

  greater : (p : ℕ) → place ≤ p → p ≢ place → place < p
  greater p from ne = ⊎_elim (λ (x : place < p). x) (λ (x : p ≤ place). absurd (ne (omega (arith, from, x)))) (cases_lt place p)

  -- a state without a depth stays so
  pub rising_past : get_or new place 0 ≤ 0 → IsRising d old new place
  rising_past none = record {
    same_length = h.same_length;
    most = h.most;
    reached = λ p from m. elim (same_or_other p place) [
      | inl e ↦ inl (let low : get_or new p 0 ≤ 1 = subst (λ q. get_or new q 0 ≤ 1) (sym e) (omega (arith, none)) in low)
      | inr ne ↦ h.reached p (omega (arith, on, greater p from ne)) m
    ];
    deep = h.deep;
  }

  module _ (value : ℕ) (less : IsShallower d new place (get_or new place 0) value) where
    abbrev now : List ℕ
    now = set new place value

    here : get_or now place 0 ≡ value
    here = get_or-set_same new place value 0 (omega (arith, l, long))

    there : (p : ℕ) → p ≢ place → get_or now p 0 ≡ get_or new p 0
    there p ne = get_or-set_other new place p value 0 ne

    reached_here : Reached place value
    reached_here = elim less.reached [
      | inl low ↦ inl low
      | inr (c, (fits, m)) ↦ inr (c, (fits, omega (arith, m, h.most (step d place c) (step_within d place c well l))))
    ]

    deep_here : (most j : ℕ) → AreDeep d most new → j < most → StaysFor d j place → j < value
    deep_here most j a b s =
        ⊎_elim (λ (x : value < get_or new place 0). by_next x j b s) (λ (x : get_or new place 0 ≤ value). omega (arith, x, a.deep j place b s)) (cases_lt value (get_or new place 0))
      where
        by_next : value < get_or new place 0 → (j : ℕ) → j < most → StaysFor d j place → j < value
        by_next x zero b s = less.some
        by_next x (suc j) b s = let (c, (fits, next_stays)) = stays_by d j place s in omega (arith, less.enough x c fits, a.deep j (step d place c) (omega (arith, b)) next_stays)

    deep_now : (most : ℕ) → AreDeep d most new → AreDeep d most now
    deep_now most a = record {
      same_length = length-set new place value ∙ a.same_length;
      low = λ p m. elim (same_or_other p place) [
        | inl e ↦ (let low : value ≤ most = omega (arith, less.most, a.low place l) in
            rw (e, here) low)
        | inr ne ↦ (rw (there p ne) (a.low p m))
      ];
      waiting = λ p m. elim (same_or_other p place) [
        | inl e ↦ (let waits : 0 < value → IsWaiting d place = λ some. a.waiting place l (omega (arith, some, less.most)) in
            rw (e, here) waits)
        | inr ne ↦ (rw (there p ne) (a.waiting p m))
      ];
      deep = λ j p b s. elim (same_or_other p place) [
        | inl e ↦ (let deeper : j < value = deep_here most j a b (subst (StaysFor d j) e s) in
            rw (e, here) deeper)
        | inr ne ↦ (rw (there p ne) (a.deep j p b s))
      ];
    }

    pub rising_more : IsRising d old now place
    rising_more = record {
      same_length = length-set new place value ∙ h.same_length;
      most = λ p m. elim (same_or_other p place) [
        | inl e ↦ (let low : value ≤ get_or old place 0 = omega (arith, less.most, h.most place l) in
            rw (e, here) low)
        | inr ne ↦ (rw (there p ne) (h.most p m))
      ];
      reached = λ p from m. elim (same_or_other p place) [
        | inl e ↦ (rw (e, here) reached_here)
        | inr ne ↦ (rw (there p ne) (h.reached p (omega (arith, on, greater p from ne)) m))
      ];
      deep = λ most a. deep_now most (h.deep most a);
    }

-- ---- at the end
pub depths_end : (d : List Row) (most : ℕ) (depths : List ℕ) → IsWellFormed d → most ≤ 18446744073709551615 → AreDeep d most depths → AreShallower d depths depths → AreDepths d most depths
depths_end d most depths well fits h still = record {
  same_length = h.same_length;
  each = λ p l j b. (λ less. stays j p l less, λ s. h.deep j p b s);
  fits = λ p l. omega (arith, h.low p l, fits);
}
  where
    stays : (j p : ℕ) → p < length d → j < get_or depths p 0 → StaysFor d j p
    stays zero p l less = (h.waiting p l less, ([], (tt, tt, refl)))
    stays (suc j) p l less = elim (still.reached p l) [
      | inl low ↦ absurd (omega (arith, low, less))
      | inr (c, (fits, m)) ↦ stays_on d j p c (h.waiting p l (omega (arith, less))) fits (stays j (step d p c) (step_within d p c well l) (omega (arith, m, less)))
    ]
