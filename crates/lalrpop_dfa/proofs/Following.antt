-- Words that run on, by states. Where values lead changes only at the borders of tests, so the borders tell whether some value fits.
use Rattle.std.proofs.Common.{◌≡◌, ℕ, zero, suc, ◌+◌, ◌<◌, ◌≤◌, ◌↔◌, ◌⊎◌, inl, inr, ⊎_elim, List, [], ◌∷◌, length, refl, sym, ap, ◌∙◌, subst, arith, Bool, true}
use Rattle.std.specs.Prelude.{slice_get, Some, IsSomeAnd}
use Rattle.std.proofs.lemmas.Bool.{cases_lt}
use Rattle.lalrpop_hir.specs.Range.{Range}
use Rattle.lalrpop_dfa.specs.Dfa.{Row, edge_target, step, run, after, IsWellFormed}
use Rattle.lalrpop_dfa.specs.Follow.{RunsOn}
use Rattle.lalrpop_dfa.specs.Lookahead.{Accepted, AcceptedAs, IsAccepting}
use Rattle.lalrpop_dfa.specs.Internal.Fitting.{Fits, HasFitting, IsBorder, NoBorderFits, OtherLeadsInto, OthersFit, RunsOnFrom}
use Rattle.lalrpop_dfa.specs.Internal.Marks.{AreLive, AreMarked, AreReached, IsAcceptingAs, LeadsOnTo, Marked}
use Rattle.lalrpop_dfa.proofs.AfterLaws.{after_within, run_append}
use Rattle.lalrpop_dfa.proofs.EdgeTargets.{leads_first, leads_later, leads_none, place_of, step_of, step_within, the_some}
use Rattle.lalrpop_dfa.proofs.Marking.{accepting_within, by_accepts, row_tests, top, top_above}

-- ---- where values lead by the tests of one state
-- the value is a border of one of the tests
abbrev pub HasBorder : List (Range × ℕ) → ℕ → Type 0
HasBorder ts c = (k : ℕ) × (t : Range × ℕ) × ((slice_get ts k ≡ Some t) × IsBorder t.0 c)

has_later : (u : Range × ℕ) (ts : List (Range × ℕ)) (c : ℕ) → HasBorder ts c → HasBorder (u ∷ ts) c
has_later u ts c (k, t, h) = (suc k, t, h)

-- if 0 is no border, no test has it
pub border_first : (ts : List (Range × ℕ)) (other : ℕ) → HasBorder ts 0 ⊎ (edge_target ts other 0 ≡ other)
border_first [] other = inr refl
border_first (t ∷ ts) other =
    ⊎_elim
    (λ (l : 0 < t.0.start).
    ⊎_elim (λ (b : HasBorder ts 0). inl (has_later t ts 0 b)) (λ (e : edge_target ts other 0 ≡ other). inr (leads_later t ts other 0 (λ h. omega (arith, h.0)) ∙ e)) (border_first ts other))
    (λ (l : t.0.start ≤ 0). inl (0, t, (refl, inl (omega arith))))
    (cases_lt 0 t.0.start)

-- if the next value is no border, it leads where the value does
module _ (t : Range × ℕ) (ts : List (Range × ℕ)) (other c : ℕ) where
  abbrev Same : Type 0
  Same = edge_target (t ∷ ts) other (suc c) ≡ edge_target (t ∷ ts) other c

  covered : t.0.start ≤ c → c ≤ t.0.end → HasBorder (t ∷ ts) (suc c) ⊎ Same
  covered low high =
      ⊎_elim (λ (l : c < t.0.end). inr (leads_first t ts other (suc c) (omega arith, omega arith) ∙ sym (leads_first t ts other c (low, high))))
      (λ (l : t.0.end ≤ c). inl (0, t, (refl, inr (omega arith))))
      (cases_lt c t.0.end)

  uncovered : (c < t.0.start) ⊎ (t.0.end < c) → edge_target ts other (suc c) ≡ edge_target ts other c → HasBorder (t ∷ ts) (suc c) ⊎ Same
  uncovered (inl less) same =
      ⊎_elim (λ (l : suc c < t.0.start). inr (leads_later t ts other (suc c) (λ h. omega (arith, h.0)) ∙ same ∙ sym (leads_later t ts other c (λ h. omega (arith, h.0)))))
      (λ (l : t.0.start ≤ suc c). inl (0, t, (refl, inl (omega arith))))
      (cases_lt (suc c) t.0.start)
  uncovered (inr more) same = inr (leads_later t ts other (suc c) (λ h. omega (arith, h.1)) ∙ same ∙ sym (leads_later t ts other c (λ h. omega (arith, h.1))))

pub border_next : (ts : List (Range × ℕ)) (other c : ℕ) → HasBorder ts (suc c) ⊎ (edge_target ts other (suc c) ≡ edge_target ts other c)
border_next [] other c = inr refl
border_next (t ∷ ts) other c =
    ⊎_elim (λ (b : HasBorder ts (suc c)). inl (has_later t ts (suc c) b))
    (λ (same : edge_target ts other (suc c) ≡ edge_target ts other c).
    ⊎_elim (λ (l : c < t.0.start). uncovered t ts other c (inl l) same)
    (λ (low : t.0.start ≤ c).
    ⊎_elim (λ (l : t.0.end < c). uncovered t ts other c (inr l) same) (λ (high : c ≤ t.0.end). covered t ts other c low high) (cases_lt t.0.end c))
    (cases_lt c t.0.start))
    (border_next ts other c)

-- a value behind all tests leads along the other edge
pub behind_all : (ts : List (Range × ℕ)) (other c : ℕ) → ((k : ℕ) (t : Range × ℕ) → slice_get ts k ≡ Some t → t.0.end < c) → edge_target ts other c ≡ other
behind_all ts other c behind = leads_none ts other c (λ t m h. (let (k, at) = place_of ts t m in omega (arith, behind k t at, h.1)))

-- ---- the values that fit at a state
module _ (d : List Row) (live toward : List Bool) (p : ℕ) where
  -- a border of one of the tests
  no_border : (ts : List (Range × ℕ)) (c : ℕ) → NoBorderFits d live toward p ts → c < 4294967296 → HasBorder ts c → ¬ Fits d live toward p c
  no_border ts c none l (k, t, (at, b)) fit = (none k t at).1 (c, (l, (b, fit)))

  module _ (r s : Row) (at : slice_get d p ≡ Some r) (start : slice_get d 0 ≡ Some s) where
    by_targets : (c x y : ℕ) → edge_target r.tests r.other c ≡ x → edge_target s.tests s.other c ≡ y → Fits d live toward p c ↔ (Marked live x × Marked toward y)
    by_targets c x y e f =
        let to_live = step_of d p c r at ∙ e in
        let to_second = step_of d 0 c s start ∙ f in (
          λ fit. (subst (Marked live) to_live fit.0, subst (Marked toward) to_second fit.1),
          λ fit. (subst (Marked live) (sym to_live) fit.0, subst (Marked toward) (sym to_second) fit.1),
        )

    -- some value is behind all tests
    pub others_fit : Marked live r.other → Marked toward s.other → HasFitting d live toward p
    others_fit lives begins =
        let c = top r.tests + top s.tests in (
          c,
          (by_targets c r.other s.other
              (behind_all r.tests r.other c (λ k t e. omega (arith, top_above r.tests k t e)))
              (behind_all s.tests s.other c (λ k t e. omega (arith, top_above s.tests k t e)))).1 (lives, begins),
        )

    module _ (others : Marked live r.other → Marked toward s.other → ⊥) (none : NoBorderFits d live toward p r.tests) (none_of_start : NoBorderFits d live toward p s.tests) where
      no_others : (c : ℕ) → edge_target r.tests r.other c ≡ r.other → edge_target s.tests s.other c ≡ s.other → ¬ Fits d live toward p c
      no_others c e f fit = let fits = (by_targets c r.other s.other e f).0 fit in others fits.0 fits.1

      -- by induction: a value that is no border leads where the one before it does
      within : (c : ℕ) → c < 4294967296 → ¬ Fits d live toward p c
      within zero l fit =
          ⊎_elim (λ (b : HasBorder r.tests 0). no_border r.tests 0 none l b fit)
          (λ (e : edge_target r.tests r.other 0 ≡ r.other).
          ⊎_elim (λ (b : HasBorder s.tests 0). no_border s.tests 0 none_of_start l b fit) (λ (f : edge_target s.tests s.other 0 ≡ s.other). no_others 0 e f fit) (border_first s.tests s.other))
          (border_first r.tests r.other)
      within (suc c) l fit =
          ⊎_elim (λ (b : HasBorder r.tests (suc c)). no_border r.tests (suc c) none l b fit)
          (λ (e : edge_target r.tests r.other (suc c) ≡ edge_target r.tests r.other c).
          ⊎_elim (λ (b : HasBorder s.tests (suc c)). no_border s.tests (suc c) none_of_start l b fit)
          (λ (f : edge_target s.tests s.other (suc c) ≡ edge_target s.tests s.other c).
          let x = edge_target r.tests r.other c in
          let y = edge_target s.tests s.other c in
          within c (omega arith) ((by_targets c x y refl refl).1 ((by_targets (suc c) x y e f).0 fit)))
          (border_next s.tests s.other c))
          (border_next r.tests r.other c)

      -- if neither the borders nor the other edges fit, nothing does
      pub none_fits : ¬ HasFitting d live toward p
      none_fits (c, fit) =
          ⊎_elim (λ (l : c < 4294967296). within c l fit)
          (λ (l : 4294967296 ≤ c).
          no_others c
          (behind_all r.tests r.other c (λ k t e. let end : t.0.end < 4294967296 = (none k t e).0 in omega arith))
          (behind_all s.tests s.other c (λ k t e. let end : t.0.end < 4294967296 = (none_of_start k t e).0 in omega arith))
          fit)
          (cases_lt c 4294967296)

  -- the same by what the states say of their edges
  pub others_have : OthersFit d live toward p → HasFitting d live toward p
  others_have (a, b) =
      let r = the_some (slice_get d p) (λ x. Marked live x.other) a in
      let s = the_some (slice_get d 0) (λ x. Marked toward x.other) b in
      others_fit r.0 s.0 r.1.0 s.1.0 r.1.1 s.1.1

  pub none_has : (ts us : List (Range × ℕ)) → IsSomeAnd (slice_get d p) (λ r. ts ≡ r.tests) → IsSomeAnd (slice_get d 0) (λ s. us ≡ s.tests)
      → ¬ OthersFit d live toward p → NoBorderFits d live toward p ts → NoBorderFits d live toward p us → ¬ HasFitting d live toward p
  none_has ts us here start others none none_of_start =
      let r = row_tests d p ts here in
      let s = row_tests d 0 us start in
      none_fits r.0 s.0 r.1.0 s.1.0
      (λ a b. others (rw r.1.0 a, rw s.1.0 b))
      (subst (NoBorderFits d live toward p) r.1.1 none)
      (subst (NoBorderFits d live toward p) s.1.1 none_of_start)

-- what an other edge says, as it is read
pub other_read : (d : List Row) (marks : List Bool) (p : ℕ) (r : Row) (b : Bool) → slice_get d p ≡ Some r → (b ≡ true) ↔ Marked marks r.other → (b ≡ true) ↔ OtherLeadsInto d marks p
other_read d marks p r b at told = rw at told

-- ---- the words that run on
module _ (d : List Row) (well : IsWellFormed d) (reached live toward : List Bool) (i j : ℕ) (are : AreReached d reached) (alive : AreLive d live)
    (on : AreMarked d (LeadsOnTo d (IsAcceptingAs d j)) toward) where
  pub runs_from : (p : ℕ) → RunsOnFrom d reached live toward i p → RunsOn (Accepted d) (AcceptedAs d i) (AcceptedAs d j)
  runs_from p (m, (accepts, (c, (lives, begins)))) =
      let here : p < length d = accepting_within d p (by_accepts d i p accepts) in
      (let (first, (some, e)) = (are.each p).0 m in
      let (later, accepted) = (alive.each (step d p c) (step_within d p c well here)).0 lives in
      let (rest, second) = (on.each (step d 0 c) (step_within d 0 c well well.some)).0 begins in
      record {
        first = first;
        value = c;
        rest = rest;
        later = later;
        some = some;
        is_first = subst (IsAcceptingAs d i) (sym e) accepts;
        begins_second = second;
        goes_on = subst (IsAccepting d) (sym (run_append d 0 first (c ∷ later) ∙ ap (λ q. run d (step d q c) later) e)) accepted;
      })

  pub from_runs : RunsOn (Accepted d) (AcceptedAs d i) (AcceptedAs d j) → (p : ℕ) × ((p < length d) × RunsOnFrom d reached live toward i p)
  from_runs h =
      let p = after d h.first in
      let here : p < length d = after_within d h.first well in
      let accepted : IsAccepting d (run d (step d p h.value) h.later) = subst (IsAccepting d) (run_append d 0 h.first (h.value ∷ h.later)) h.goes_on in
      let lives = (alive.each (step d p h.value) (step_within d p h.value well here)).1 (h.later, accepted) in
      let begins = (on.each (step d 0 h.value) (step_within d 0 h.value well well.some)).1 (h.rest, h.begins_second) in
      (p, (here, ((are.each p).1 (h.first, (h.some, refl)), (h.is_first, (h.value, (lives, begins))))))
