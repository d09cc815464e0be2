-- For how many values in a row states wait.
use Rattle.std.proofs.Common.{◌≡◌, ◌≢◌, ℕ, zero, suc, ◌+◌, ◌*◌, ◌<◌, ◌≤◌, ◌⊎◌, inl, inr, ⊎_elim, List, [], ◌∷◌, length, set, get_or, get_or-set_same, get_or-set_other, length-set, refl, sym, ap, ◌∙◌, subst, arith, Bool, true, false}
use Rattle.std.specs.Prelude.{max, replicate, slice_get, Some, if◌then◌else◌}
use Rattle.std.proofs.lemmas.List.{get_or-replicate, length-replicate}
use Rattle.std.proofs.Math.Nat.{le-max_left, le-max_right, max-eq_left, max-eq_right}
use Rattle.std.proofs.lemmas.Bool.{cases_lt}
use Rattle.std.proofs.lemmas.Option.{slice_get_within}
use Rattle.lalrpop_hir.specs.Range.{Range}
use Rattle.lalrpop_dfa.specs.Dfa.{Row, edge_target, step, AreAscendingTests, IsWellFormed}
use Rattle.lalrpop_dfa.specs.Lookahead.{Accepted, CanStayOpen, IsAccepting, IsLookahead}
use Rattle.lalrpop_dfa.specs.Internal.Marks.{AreReached, AreWaitingEver, IsEntered, IsWaiting, Marked, WaitsFor}
use Rattle.lalrpop_dfa.specs.Internal.Waits.{AreAllWaits, AreLonger, AreWaits, IsGreatest, IsMostEntered}
use Rattle.lalrpop_dfa.proofs.EdgeTargets.{step_of, step_within}
use Rattle.lalrpop_dfa.proofs.Lookaheads.{Enters, at_most, entered_can, waits_before, waits_next, waits_none}
use Rattle.lalrpop_dfa.proofs.Marking.{Ends, accepting_within, by_other, by_test, of_entered, top}
use Rattle.lalrpop_dfa.proofs.Openness.{can_opens, opens_can}
use Rattle.lalrpop_dfa.proofs.Totals.{same_or_other, total}

max_cases : (a b : ℕ) → (max a b ≡ a) ⊎ (max a b ≡ b)
max_cases a b = ⊎_elim (λ (l : a < b). inr (max-eq_right (omega arith))) (λ (l : b ≤ a). inl (max-eq_left l)) (cases_lt a b)

module _ (d : List Row) (ever : List Bool) (are_ever : AreWaitingEver d ever) where
  -- one that waits, and leads to one that can wait forever, can too
  pub ever_back : (p c : ℕ) → IsWaiting d p → step d p c < length d → Marked ever (step d p c) → Marked ever p
  ever_back p c w l m =
      let (n, (few, (stay, more))) = are_ever in
      let on : WaitsFor d (suc n) p = waits_before d n p c w ((stay.each (step d p c) l).0 m) in
      (more.each p w.0).1 (subst (λ k. WaitsFor d k p) (omega arith) on)

  -- no state waits for more values than there are states
  pub waits_few : (numbers : List ℕ) → AreWaits d ever numbers → (p : ℕ) → p < length d → get_or numbers p 0 ≤ length d
  waits_few numbers h p l =
      let (n, (few, (stay, more))) = are_ever in
      ⊎_elim (λ (x : n < get_or numbers p 0). absurd (h.finite p l (omega (arith, x)) ((stay.each p l).1 (h.waits p n l x))))
      (λ (x : get_or numbers p 0 ≤ n). omega (arith, x, few))
      (cases_lt n (get_or numbers p 0))

pub none_yet : (d : List Row) (ever : List Bool) (numbers : List ℕ) → numbers ≡ replicate (length d) 0 → AreWaits d ever numbers
none_yet d ever numbers is = record {
  same_length = ap length is ∙ length-replicate (length d) 0;
  waits = λ p k l less. absurd (omega (arith, less, zero_at p l));
  finite = λ p l some. absurd (omega (arith, some, zero_at p l));
}
  where
    zero_at : (p : ℕ) → p < length d → get_or numbers p 0 ≡ 0
    zero_at p l = ap (λ xs. get_or xs p 0) is ∙ get_or-replicate (length d) p 0 0 l

-- ---- from the last state back to the first: those from the place on are done
pub record IsLengthening (d : List Row) (ever : List Bool) (old new : List ℕ) (place : ℕ) : Type 0 where
  pub are : AreWaits d ever new
  pub least : (p : ℕ) → p < length d → get_or old p 0 ≤ get_or new p 0
  pub more : (p c : ℕ) → place ≤ p → p < length d → IsWaiting d p → ¬ Marked ever p → get_or old (step d p c) 0 < get_or new p 0

pub lengthening_first : (d : List Row) (ever : List Bool) (numbers : List ℕ) → AreWaits d ever numbers → IsLengthening d ever numbers numbers (length d)
lengthening_first d ever numbers h = record { are = h; least = λ p l. omega arith; more = λ p c from l. absurd (omega (arith, from, l)) }

pub lengthening_end : (d : List Row) (ever : List Bool) (old new : List ℕ) → IsLengthening d ever old new 0 → AreLonger d ever old new
lengthening_end d ever old new h = record { are = h.are; least = h.least; more = λ p c l. h.more p c (omega arith) l }

module _ (d : List Row) (ever : List Bool) (old new : List ℕ) (place next : ℕ) (on : next ≡ place + 1) (h : IsLengthening d ever old new next) (well : IsWellFormed d) (l : place < length d) where
  -- the state stays as it is, for it doesn't wait, or waits forever
  pub lengthening_stays : (IsWaiting d place → ¬ Marked ever place → ⊥) → IsLengthening d ever old new place
  lengthening_stays why = record {
    are = h.are;
    least = h.least;
    more = λ p c from m w none.
        ⊎_elim (λ (x : place < p). h.more p c (omega (arith, on, x)) m w none)
        (λ (x : p ≤ place). let e : p ≡ place = omega (arith, from, x) in absurd (why (subst (IsWaiting d) e w) (subst (λ q. ¬ Marked ever q) e none)))
        (cases_lt place p);
  }

  module _ (greatest value : ℕ) (w : IsWaiting d place) (none : ¬ Marked ever place) (g : IsGreatest d new place greatest) (grows : get_or new place 0 ≤ value) (above : greatest + 1 ≤ value)
      (is : (value ≡ get_or new place 0) ⊎ (value ≡ greatest + 1)) where
    abbrev now : List ℕ
    now = set new place value

    here : get_or now place 0 ≡ value
    here = get_or-set_same new place value 0 (omega (arith, l, h.are.same_length))

    there : (p : ℕ) → p ≢ place → get_or now p 0 ≡ get_or new p 0
    there p ne = get_or-set_other new place p value 0 ne

    waits_here : (k : ℕ) → k < value → WaitsFor d k place
    waits_here k less = elim is [
      | inl e ↦ h.are.waits place k l (omega (arith, e, less))
      | inr e ↦ by_next k (omega (arith, e, less))
    ]
      where
        by_next : (k : ℕ) → k < greatest + 1 → WaitsFor d k place
        by_next zero less = waits_none d place w
        by_next (suc k) less =
            let (c, same) = g.reached in
            waits_before d k place c w (h.are.waits (step d place c) k (step_within d place c well l) (omega (arith, same, less)))

    pub lengthening_grows : IsLengthening d ever old now place
    lengthening_grows = record {
      are = record {
        same_length = length-set new place value ∙ h.are.same_length;
        waits = λ p k m. elim (same_or_other p place) [
          | inl e ↦ (rw (e, here) (waits_here k))
          | inr ne ↦ (rw (there p ne) (h.are.waits p k m))
        ];
        finite = λ p m. elim (same_or_other p place) [
          | inl e ↦ (rw (e, here) (λ some. none))
          | inr ne ↦ (rw (there p ne) (h.are.finite p m))
        ];
      };
      least = λ p m. elim (same_or_other p place) [
        | inl e ↦ (let low : get_or old place 0 ≤ value = omega (arith, h.least place l, grows) in
            rw (e, here) low)
        | inr ne ↦ (rw (there p ne) (h.least p m))
      ];
      more = λ p c from m wp np. elim (same_or_other p place) [
        | inl e ↦ (let high : get_or old (step d place c) 0 < value = omega (arith, h.least (step d place c) (step_within d place c well l), g.most c, above) in
            rw (e, here) high)
        | inr ne ↦ (rw (there p ne) (h.more p c (omega (arith, on, greater p from ne)) m wp np))
      ];
    }
      where
        greater : (p : ℕ) → place ≤ p → p ≢ place → place < p
        greater p from ne = ⊎_elim (λ (x : place < p). x) (λ (x : p ≤ place). absurd (ne (omega (arith, from, x)))) (cases_lt place p)

  pub lengthening_by_max : (greatest value : ℕ) → IsWaiting d place → ¬ Marked ever place → IsGreatest d new place greatest → value ≡ max (get_or new place 0) (greatest + 1)
      → IsLengthening d ever old (set new place value) place
  lengthening_by_max greatest value w none g is =
      lengthening_grows greatest value w none g (omega (arith, is, le-max_left (get_or new place 0) (greatest + 1))) (omega (arith, is, le-max_right (get_or new place 0) (greatest + 1)))
      (⊎_elim (λ (e : max (get_or new place 0) (greatest + 1) ≡ get_or new place 0). inl (is ∙ e)) (λ (e : max (get_or new place 0) (greatest + 1) ≡ greatest + 1). inr (is ∙ e))
      (max_cases (get_or new place 0) (greatest + 1)))

-- ---- the greatest of the numbers of the states that the values of a state lead to
-- of those at the other edge, and at the tests before the place k
pub record IsGreatestYet (numbers : List ℕ) (other : ℕ) (ts : List (Range × ℕ)) (k greatest : ℕ) : Type 0 where
  pub by_other : get_or numbers other 0 ≤ greatest
  pub by_tests : (j : ℕ) (t : Range × ℕ) → j < k → slice_get ts j ≡ Some t → get_or numbers t.1 0 ≤ greatest
  pub reached : (get_or numbers other 0 ≡ greatest) ⊎ ((j : ℕ) × (t : Range × ℕ) × ((slice_get ts j ≡ Some t) × (get_or numbers t.1 0 ≡ greatest)))

pub greatest_first : (numbers : List ℕ) (other : ℕ) (ts : List (Range × ℕ)) → IsGreatestYet numbers other ts 0 (get_or numbers other 0)
greatest_first numbers other ts = record { by_other = omega arith; by_tests = λ j t l e. absurd (omega (arith, l)); reached = inl refl }

pub greatest_more : (numbers : List ℕ) (other : ℕ) (ts : List (Range × ℕ)) (k old new : ℕ) (t : Range × ℕ) → IsGreatestYet numbers other ts k old → slice_get ts k ≡ Some t
    → old ≤ new → get_or numbers t.1 0 ≤ new → (new ≡ old) ⊎ (new ≡ get_or numbers t.1 0) → IsGreatestYet numbers other ts (k + 1) new
greatest_more numbers other ts k old new t h at low here is = record {
  by_other = omega (arith, h.by_other, low);
  by_tests = λ j u l e.
      ⊎_elim (λ (x : j < k). omega (arith, h.by_tests j u x e, low))
      (λ (x : k ≤ j).
      let i : k ≡ j = omega (arith, l, x) in
      let same : t ≡ u = (let g : Some t ≡ Some u = sym at ∙ (ap (slice_get ts) i ∙ e) in cc) in
      subst (λ (v : Range × ℕ). get_or numbers v.1 0 ≤ new) same here)
      (cases_lt j k);
  reached = elim is [
    | inl e ↦ subst (λ (m : ℕ). (get_or numbers other 0 ≡ m) ⊎ ((j : ℕ) × (u : Range × ℕ) × ((slice_get ts j ≡ Some u) × (get_or numbers u.1 0 ≡ m)))) (sym e) h.reached
    | inr e ↦ inr (k, t, (at, sym e))
  ];
}

pub greatest_by_max : (numbers : List ℕ) (other : ℕ) (ts : List (Range × ℕ)) (k old new q : ℕ) (t : Range × ℕ) → IsGreatestYet numbers other ts k old → slice_get ts k ≡ Some t
    → q ≡ t.1 → new ≡ max old (get_or numbers q 0) → IsGreatestYet numbers other ts (k + 1) new
greatest_by_max numbers other ts k old new q t h at to is =
    let there : get_or numbers q 0 ≡ get_or numbers t.1 0 = ap (λ p. get_or numbers p 0) to in
    greatest_more numbers other ts k old new t h at
    (omega (arith, is, le-max_left old (get_or numbers q 0))) (omega (arith, is, there, le-max_right old (get_or numbers q 0)))
    (⊎_elim (λ (e : max old (get_or numbers q 0) ≡ old). inl (is ∙ e)) (λ (e : max old (get_or numbers q 0) ≡ get_or numbers q 0). inr (is ∙ e ∙ there)) (max_cases old (get_or numbers q 0)))

-- where all edges lead to a state with the property, each value does
all_along : (P : ℕ → Type 0) (ts : List (Range × ℕ)) (other c : ℕ) → P other → ((k : ℕ) (t : Range × ℕ) → slice_get ts k ≡ Some t → P t.1) → P (edge_target ts other c)
all_along P [] other c o f = o
all_along P (u ∷ ts) other c o f = either _ u.1 (edge_target ts other c) (f 0 u refl) (all_along P ts other c o (λ k t e. f (suc k) t e))
  where
    either : (b : Bool) (x y : ℕ) → P x → P y → P (if b then x else y)
    either true x y p q = p
    either false x y p q = q

pub greatest_end : (d : List Row) (p : ℕ) (r : Row) (numbers : List ℕ) (k greatest : ℕ) → slice_get d p ≡ Some r → AreAscendingTests r.tests → length r.tests ≤ k
    → IsGreatestYet numbers r.other r.tests k greatest → IsGreatest d numbers p greatest
greatest_end d p r numbers k greatest at ascending all h = record {
  most = λ c. subst (λ q. get_or numbers q 0 ≤ greatest) (sym (step_of d p c r at))
      (all_along (λ q. get_or numbers q 0 ≤ greatest) r.tests r.other c h.by_other (λ j t e. h.by_tests j t (omega (arith, slice_get_within r.tests j t e, all)) e));
  reached = elim h.reached [
    | inl e ↦ (top r.tests, ap (λ q. get_or numbers q 0) (step_of d p (top r.tests) r at ∙ by_other r.tests r.other) ∙ e)
    | inr (j, t, (here, e)) ↦ (t.0.start, ap (λ q. get_or numbers q 0) (step_of d p t.0.start r at ∙ by_test r.tests r.other j t ascending here) ∙ e)
  ];
}

-- ---- the greatest number that is entered
pub record IsMostYet (d : List Row) (reached : List Bool) (numbers : List ℕ) (place most : ℕ) : Type 0 where
  pub bound : (p c : ℕ) → p < place → Marked reached p → IsAccepting d p → get_or numbers (step d p c) 0 ≤ most
  pub entered : (most ≡ 0) ⊎ ((p c : ℕ) × ((Marked reached p × IsAccepting d p) × (get_or numbers (step d p c) 0 ≡ most)))

pub most_first : (d : List Row) (reached : List Bool) (numbers : List ℕ) → IsMostYet d reached numbers 0 0
most_first d reached numbers = record { bound = λ p c l. absurd (omega (arith, l)); entered = inl refl }

pub most_past : (d : List Row) (reached : List Bool) (numbers : List ℕ) (place most : ℕ) → IsMostYet d reached numbers place most → (Marked reached place → IsAccepting d place → ⊥)
    → IsMostYet d reached numbers (place + 1) most
most_past d reached numbers place most h none = record {
  bound = λ p c l r a.
      ⊎_elim (λ (x : p < place). h.bound p c x r a)
      (λ (x : place ≤ p). let e : p ≡ place = omega (arith, l, x) in absurd (none (subst (Marked reached) e r) (subst (IsAccepting d) e a)))
      (cases_lt p place);
  entered = h.entered;
}

pub most_more : (d : List Row) (reached : List Bool) (numbers : List ℕ) (place old new greatest : ℕ) → IsMostYet d reached numbers place old → Marked reached place → IsAccepting d place
    → IsGreatest d numbers place greatest → old ≤ new → greatest ≤ new → (new ≡ greatest) ⊎ (new ≡ old) → IsMostYet d reached numbers (place + 1) new
most_more d reached numbers place old new greatest h r a g low high is = record {
  bound = λ p c l m b.
      ⊎_elim (λ (x : p < place). omega (arith, h.bound p c x m b, low))
      (λ (x : place ≤ p). let e : place ≡ p = omega (arith, l, x) in subst (λ q. get_or numbers (step d q c) 0 ≤ new) e (omega (arith, g.most c, high)))
      (cases_lt p place);
  entered = elim is [
    | inl e ↦ inr (place, g.reached.0, ((r, a), g.reached.1 ∙ sym e))
    | inr e ↦ subst (λ (m : ℕ). (m ≡ 0) ⊎ ((p c : ℕ) × ((Marked reached p × IsAccepting d p) × (get_or numbers (step d p c) 0 ≡ m)))) (sym e) h.entered
  ];
}

pub most_by_max : (d : List Row) (reached : List Bool) (numbers : List ℕ) (place old new greatest : ℕ) → IsMostYet d reached numbers place old → Marked reached place → IsAccepting d place
    → IsGreatest d numbers place greatest → new ≡ max greatest old → IsMostYet d reached numbers (place + 1) new
most_by_max d reached numbers place old new greatest h r a g is =
    most_more d reached numbers place old new greatest h r a g (omega (arith, is, le-max_right greatest old)) (omega (arith, is, le-max_left greatest old))
    (⊎_elim (λ (e : max greatest old ≡ greatest). inl (is ∙ e)) (λ (e : max greatest old ≡ old). inr (is ∙ e)) (max_cases greatest old))

pub most_end : (d : List Row) (reached : List Bool) (numbers : List ℕ) (place most : ℕ) → length d ≤ place → IsMostYet d reached numbers place most → IsMostEntered d reached numbers most
most_end d reached numbers place most all h = record { bound = λ p c r a. h.bound p c (omega (arith, accepting_within d p a, all)) r a; entered = h.entered }

-- ---- all numbers together have a bound
total_most : (m : ℕ) (xs : List ℕ) → ((p : ℕ) → p < length xs → get_or xs p 0 ≤ m) → total xs ≤ length xs * m
total_most m [] h = omega arith
total_most m (x ∷ xs) h =
    let later = total_most m xs (λ p l. h (suc p) (omega (arith, l))) in
    let e : (length xs + 1) * m ≡ length xs * m + m = grind arith in
    let f : length (x ∷ xs) * m ≡ (length xs + 1) * m = ap (λ (k : ℕ). k * m) (let g : length (x ∷ xs) ≡ length xs + 1 = omega arith in g) in
    omega (arith, later, h 0 (omega arith), e, f)

pub total_bound : (d : List Row) (ever : List Bool) → AreWaitingEver d ever → (numbers : List ℕ) → AreWaits d ever numbers → total numbers ≤ length d * length d
total_bound d ever are_ever numbers h =
    let most = total_most (length d) numbers (λ p l. waits_few d ever are_ever numbers h p (omega (arith, l, h.same_length))) in
    let e : length numbers * length d ≡ length d * length d = ap (λ k. k * length d) h.same_length in
    omega (arith, most, e)

-- ---- at the end
pub waits_end : (d : List Row) (ever : List Bool) → AreWaitingEver d ever → IsWellFormed d → (numbers : List ℕ) → AreLonger d ever numbers numbers → AreAllWaits d ever numbers
waits_end d ever are_ever well numbers h = record { are = h.are; all = all }
  where
    all : (k p : ℕ) → WaitsFor d k p → ¬ Marked ever p → k < get_or numbers p 0
    all zero p w none = omega (arith, h.more p 0 w.0.0 w.0 none)
    all (suc k) p w none =
        let (c, next_waits) = waits_next d k p w in
        let within = step_within d p c well w.0.0 in
        let later = all k (step d p c) next_waits (λ m. none (ever_back d ever are_ever p c w.0 within m)) in
        omega (arith, later, h.more p c w.0.0 w.0 none)

-- ---- how far a match is left open
module _ (d : List Row) (well : IsWellFormed d) (reached ever : List Bool) (are : AreReached d reached) (are_ever : AreWaitingEver d ever) (finite : IsEntered d reached ever → ⊥)
    (numbers : List ℕ) (h : AreAllWaits d ever numbers) (most : ℕ) (g : IsMostEntered d reached numbers most) where
  none_further : Enters d (Ends d) most → ⊥
  none_further (p, c, ((a, r), w)) =
      let (n, (few, (stay, more))) = are_ever in
      let not_ever : ¬ Marked ever (step d p c) = λ m. finite (of_entered d well reached ever n are stay (p, c, ((a, r), (stay.each (step d p c) (step_within d p c well (accepting_within d p a))).0 m))) in
      let low = g.bound p c ((are.each p).1 r) a in
      omega (arith, low, h.all most (step d p c) w not_ever)

  some_entered : (m : ℕ) → most ≡ suc m → CanStayOpen (Accepted d) (suc m)
  some_entered m e = elim g.entered [
    | inl none ↦ absurd (omega (arith, none, e))
    | inr (p, c, ((r, a), same)) ↦
        (let waits = h.are.waits (step d p c) m (step_within d p c well (accepting_within d p a)) (omega (arith, same, e)) in
        let can = entered_can d (Ends d) m (p, c, ((a, (are.each p).0 r), waits)) in
        let (v, x, (b, o)) = can_opens d (IsAccepting d) (λ q b. b) (suc m) can in (v, x, o))
  ]

  pub lookahead_found : IsLookahead (Accepted d) (Some most)
  lookahead_found = (
    λ m (v, x, o). at_most d (Ends d) most none_further m (opens_can d (IsAccepting d) (λ p a. a) well m v x o.word o),
    zero_or_some most refl,
  )
    where
      zero_or_some : (m : ℕ) → most ≡ m → (most ≡ 0) ⊎ CanStayOpen (Accepted d) most
      zero_or_some zero e = inl e
      zero_or_some (suc m) e = inr (subst (CanStayOpen (Accepted d)) (sym e) (some_entered m e))
