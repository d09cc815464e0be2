-- The automaton that begins in a state and stays where it accepts: it accepts a word if a nonempty prefix leads from the state to one that accepts.
use Rattle.std.proofs.Common.{◌≡◌, ◌≢◌, ℕ, zero, suc, ◌+◌, ◌<◌, ◌≤◌, ◌⊎◌, inl, inr, ⊎_elim, List, [], ◌∷◌, ◌++◌, length, refl, sym, ap, ◌∙◌, subst, arith, Bool, true, false}
use Rattle.std.specs.Prelude.{slice_get, Option, Some, None, IsSomeAnd, nat_le, ◌&&◌, if◌then◌else◌}
use Rattle.std.proofs.lemmas.Bool.{cases_lt}
use Rattle.std.proofs.lemmas.List.{length_push}
use Rattle.std.proofs.lemmas.Option.{slice_get_within}
use Rattle.lalrpop_hir.proofs.Pushed.{pushed_keeps, pushed_last}
use Rattle.lalrpop_hir.specs.Range.{Range}
use Rattle.lalrpop_dfa.specs.Dfa.{Row, edge_target, step, run, after, AreAscendingTests, IsWellFormed}
use Rattle.lalrpop_dfa.specs.Lookahead.{IsAccepting}
use Rattle.lalrpop_dfa.proofs.EdgeTargets.{place_of, step_of, step_within, the_some}
use Rattle.lalrpop_dfa.proofs.Marking.{test_in}
use Rattle.lalrpop_verdicts.specs.Answers.{accepted_by, accepted_at}
use Rattle.lalrpop_verdicts.specs.Internal.Beside.{Passes, shifted, shifted_row, row_ahead, AreAhead, IsAhead}
use Rattle.lalrpop_verdicts.proofs.FirstPair.{at_place}
use Rattle.lalrpop_verdicts.proofs.JoinedTests.{of_row, at_row}
use Rattle.lalrpop_verdicts.proofs.WonWordLaws.{accepting, some_tree}

-- ---- shifted tests
if_suc : (b : Bool) (x y : ℕ) → (if b then suc x else suc y) ≡ suc (if b then x else y)
if_suc true x y = refl
if_suc false x y = refl

shifted_target : (ts : List (Range × ℕ)) (o c : ℕ) → edge_target (shifted ts) (suc o) c ≡ suc (edge_target ts o c)
shifted_target [] o c = refl
shifted_target (t ∷ ts) o c =
    let b : Bool = nat_le t.0.start c && nat_le c t.0.end in
    ap (λ x. if b then suc t.1 else x) (shifted_target ts o c) ∙ if_suc b t.1 (edge_target ts o c)

shifted_ascend : (ts : List (Range × ℕ)) → AreAscendingTests ts → AreAscendingTests (shifted ts)
shifted_ascend [] a = tt
shifted_ascend (t ∷ []) a = a
shifted_ascend (t ∷ u ∷ ts) a = (a.0, a.1, shifted_ascend (u ∷ ts) a.2)

shifted_at : (ts : List (Range × ℕ)) (k : ℕ) (u : Range × ℕ) → slice_get (shifted ts) k ≡ Some u → (t : Range × ℕ) × ((slice_get ts k ≡ Some t) × (u.1 ≡ suc t.1))
shifted_at [] k u e = absurd (cc)
shifted_at (t ∷ ts) zero u e = (t, (refl, (let f : (t.0, suc t.1) ≡ u = cc in ap (λ (x : Range × ℕ). x.1) (sym f))))
shifted_at (t ∷ ts) (suc k) u e = shifted_at ts k u e

-- ---- the rows, as they are written
pub ahead_none : (d : List Row) (p : ℕ) (old rows : List Row) → old ≡ [] → IsSomeAnd (slice_get d p) (λ r. rows ≡ old ++ shifted_row r ∷ []) → AreAhead d p 0 rows
ahead_none d p old rows none written =
    let (r, (at, is)) = the_some (slice_get d p) (λ r. rows ≡ old ++ shifted_row r ∷ []) written in
    let one : rows ≡ shifted_row r ∷ [] = is ∙ ap (λ (xs : List Row). xs ++ shifted_row r ∷ []) none in
    record {
      same_length = ap length one;
      first = at_row (slice_get d p) r (λ x. slice_get rows 0 ≡ Some (shifted_row x)) at (ap (λ (xs : List Row). slice_get xs 0) one);
      each = λ q s l here. absurd (omega arith);
    }

pub ahead_more : (d : List Row) (p n : ℕ) (old rows : List Row) → AreAhead d p n old → IsSomeAnd (slice_get d n) (λ r. rows ≡ old ++ row_ahead n r (accepted_by r.kind) ∷ [])
    → AreAhead d p (n + 1) rows
ahead_more d p n old rows h written =
    let (r, (at, is)) = the_some (slice_get d n) (λ r. rows ≡ old ++ row_ahead n r (accepted_by r.kind) ∷ []) written in
    let new = row_ahead n r (accepted_by r.kind) in
    let (s, (start, first)) = the_some (slice_get d p) (λ x. slice_get old 0 ≡ Some (shifted_row x)) h.first in
    rw is (record {
      same_length = length_push old new ∙ omega (arith, h.same_length);
      first = at_row (slice_get d p) s (λ x. slice_get (old ++ new ∷ []) 0 ≡ Some (shifted_row x)) start (pushed_keeps old new 0 (shifted_row s) first);
      each = λ q x l here. ⊎_elim (λ (k : q < n). pushed_keeps old new (suc q) (row_ahead q x (accepted_by x.kind)) (h.each q x k here))
          (λ (k : n ≤ q).
          let last : q ≡ n = omega arith in
          let same : x ≡ r = (let e : Some x ≡ Some r = sym here ∙ ap (slice_get d) last ∙ at in cc) in
          let place : suc q ≡ length old = omega (arith, h.same_length) in
          ap (slice_get (old ++ new ∷ [])) place ∙ pushed_last old new ∙ (rw (last, same) refl)) (cases_lt q n);
    })

-- ---- the rows of the automaton
-- the tests ascend, and each edge leads to one of n states
record IsGoodRow (n : ℕ) (s : Row) : Type 0 where
  pub ascending : AreAscendingTests s.tests
  pub tests : (k : ℕ) (t : Range × ℕ) → slice_get s.tests k ≡ Some t → t.1 < n
  pub other : s.other < n

module _ (d : List Row) (p : ℕ) (e : List Row) (well : IsWellFormed d) (within : p < length d) (h : AreAhead d p (length d) e) where
  start_row : (r : Row) → slice_get d p ≡ Some r → slice_get e 0 ≡ Some (shifted_row r)
  start_row r at = of_row (slice_get d p) r (λ x. slice_get e 0 ≡ Some (shifted_row x)) at h.first

  good_shifted : (q : ℕ) (r : Row) → slice_get d q ≡ Some r → IsGoodRow (length e) (shifted_row r)
  good_shifted q r at = record {
    ascending = shifted_ascend r.tests (well.ascending q r at);
    tests = λ k u here. (let (t, (there, is)) = shifted_at r.tests k u here in omega (arith, test_in d q r k t well at there, is, h.same_length));
    other = omega (arith, well.others_in q r at, h.same_length);
  }

  good_ahead : (q : ℕ) (r : Row) → slice_get d q ≡ Some r → (o : Option ℕ) → IsGoodRow (length e) (row_ahead q r o)
  good_ahead q r at None = good_shifted q r at
  good_ahead q r at (Some i) = record { ascending = tt; tests = λ k u here. absurd (cc); other = omega (arith, slice_get_within d q r at, h.same_length) }

  good : (k : ℕ) (s : Row) → slice_get e k ≡ Some s → IsGoodRow (length e) s
  good zero s at =
      let (r, there) = at_place d p within in
      let same : shifted_row r ≡ s = (let f : Some (shifted_row r) ≡ Some s = sym (start_row r there) ∙ at in cc) in
      subst (IsGoodRow (length e)) same (good_shifted p r there)
  good (suc q) s at =
      let l : q < length d = omega (arith, slice_get_within e (suc q) s at, h.same_length) in
      let (r, there) = at_place d q l in
      let same : row_ahead q r (accepted_by r.kind) ≡ s = (let f : Some (row_ahead q r (accepted_by r.kind)) ≡ Some s = sym (h.each q r l there) ∙ at in cc) in
      subst (IsGoodRow (length e)) same (good_ahead q r there (accepted_by r.kind))

  pub ahead_well : IsWellFormed e
  ahead_well = record {
    some = omega (arith, h.same_length);
    ascending = λ k s at. (good k s at).ascending;
    tests_in = λ k s t at has. (let (j, there) = place_of s.tests t has in (good k s at).tests j t there);
    others_in = λ k s at. (good k s at).other;
  }

-- ---- what it accepts
module _ (d : List Row) (p : ℕ) (e : List Row) (h : IsAhead d p e) where
  step_start : (c : ℕ) → step e 0 c ≡ suc (step d p c)
  step_start c =
      let (r, at) = at_place d p h.within in
      step_of e 0 c (shifted_row r) (start_row d p e h.well_formed h.within h.rows r at) ∙ shifted_target r.tests r.other c ∙ ap (λ q. suc q) (sym (step_of d p c r at))

  -- the state accepts in both, and no value leads out of it; or in neither, and values lead alike
  record IsEnd (q : ℕ) : Type 0 where
    pub accepts : IsAccepting d q
    pub ahead : IsAccepting e (suc q)
    pub stays : (c : ℕ) → step e (suc q) c ≡ suc q

  record IsOpenState (q : ℕ) : Type 0 where
    pub accepts : ¬ IsAccepting d q
    pub ahead : ¬ IsAccepting e (suc q)
    pub leads : (c : ℕ) → step e (suc q) c ≡ suc (step d q c)

  by_tree : (q : ℕ) (r : Row) → slice_get d q ≡ Some r → (o : Option ℕ) → accepted_by r.kind ≡ o → slice_get e (suc q) ≡ Some (row_ahead q r o) → IsEnd q ⊎ IsOpenState q
  by_tree q r at None is row = inr (record {
    accepts = λ a. (let (i, f) = some_tree (slice_get d q) a in let g : None ≡ Some i = sym (ap accepted_at at ∙ is) ∙ f in cc);
    ahead = λ a. (let (i, f) = some_tree (slice_get e (suc q)) a in let g : None ≡ Some i = sym (ap accepted_at row) ∙ f in cc);
    leads = λ c. step_of e (suc q) c (shifted_row r) row ∙ shifted_target r.tests r.other c ∙ ap (λ k. suc k) (sym (step_of d q c r at));
  })
  by_tree q r at (Some i) is row = inl (record {
    accepts = accepting (slice_get d q) i (ap accepted_at at ∙ is);
    ahead = accepting (slice_get e (suc q)) i (ap accepted_at row);
    stays = λ c. step_of e (suc q) c (row_ahead q r (Some i)) row;
  })

  end_or_open : (q : ℕ) → q < length d → IsEnd q ⊎ IsOpenState q
  end_or_open q l = (let (r, at) = at_place d q l in by_tree q r at (accepted_by r.kind) refl (h.rows.each q r l at))

  ends : (q : ℕ) → IsEnd q → (w : List ℕ) → IsAccepting e (run e (suc q) w)
  ends q is [] = is.ahead
  ends q is (c ∷ w) = subst (λ k. IsAccepting e (run e k w)) (sym (is.stays c)) (ends q is w)

  next_in : (q c : ℕ) → q < length d → step d q c < length d
  next_in q c l = step_within d q c h.well_formed l

  -- from a state of its own on, the word may be empty
  abbrev Passed : ℕ → List ℕ → Type 0
  Passed q w = (u v : List ℕ) × (w ≡ u ++ v) × IsAccepting d (run d q u)

  one_more : (q c : ℕ) (w : List ℕ) → Passed (step d q c) w → Passed q (c ∷ w)
  one_more q c w (u, v, is, a) = (c ∷ u, v, ap (λ (x : List ℕ). let y : List ℕ = c ∷ x in y) is, a)

  to_passed : (w : List ℕ) (q : ℕ) → q < length d → IsAccepting e (run e (suc q) w) → Passed q w
  to_passed [] q l a = elim (end_or_open q l) [ inl x ↦ ([], [], refl, x.accepts) | inr x ↦ absurd (x.ahead a) ]
  to_passed (c ∷ w) q l a = elim (end_or_open q l) [
    | inl x ↦ ([], c ∷ w, refl, x.accepts)
    | inr x ↦ one_more q c w (to_passed w (step d q c) (next_in q c l) (subst (λ k. IsAccepting e (run e k w)) (x.leads c) a))
  ]

  from_passed : (w u v : List ℕ) (q : ℕ) → q < length d → w ≡ u ++ v → IsAccepting d (run d q u) → IsAccepting e (run e (suc q) w)
  from_passed w [] v q l is a = elim (end_or_open q l) [ inl x ↦ ends q x w | inr x ↦ absurd (x.accepts a) ]
  from_passed [] (b ∷ u) v q l is a = absurd (cc)
  from_passed (c ∷ w) (b ∷ u) v q l is a = elim (end_or_open q l) [
    | inl x ↦ ends q x (c ∷ w)
    | inr x ↦ (let same : b ≡ c = cc in let rest : w ≡ u ++ v = cc in
        subst (λ k. IsAccepting e (run e k w)) (sym (x.leads c)) (from_passed w u v (step d q c) (next_in q c l) rest (subst (λ k. IsAccepting d (run d (step d q k) u)) same a)))
  ]

  pub to_passes : (w : List ℕ) → w ≢ [] → IsAccepting e (after e w) → Passes d p w
  to_passes [] some a = absurd (some refl)
  to_passes (c ∷ w) some a =
      let (u, v, is, b) = to_passed w (step d p c) (next_in p c h.within) (subst (λ k. IsAccepting e (run e k w)) (step_start c) a) in
      (c ∷ u, v, ap (λ (x : List ℕ). let y : List ℕ = c ∷ x in y) is, (λ none. cc), b)

  prefix_passes : (w u v : List ℕ) → w ≡ u ++ v → u ≢ [] → IsAccepting d (run d p u) → IsAccepting e (after e w)
  prefix_passes w [] v is some a = absurd (some refl)
  prefix_passes [] (b ∷ u) v is some a = absurd (cc)
  prefix_passes (c ∷ w) (b ∷ u) v is some a =
      let same : b ≡ c = cc in
      let rest : w ≡ u ++ v = cc in
      subst (λ k. IsAccepting e (run e k w)) (sym (step_start c)) (from_passed w u v (step d p c) (next_in p c h.within) rest (subst (λ k. IsAccepting d (run d (step d p k) u)) same a))

  pub from_passes : (w : List ℕ) → Passes d p w → IsAccepting e (after e w)
  from_passes w (u, v, is, some, a) = prefix_passes w u v is some a
