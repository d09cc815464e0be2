-- The states that words reach, and those from which words lead to a match: what is found in each pass over the states.
use Rattle.std.proofs.Common.{◌≡◌, ◌≢◌, ℕ, zero, suc, ◌+◌, ◌<◌, ◌≤◌, ◌↔◌, ◌⊎◌, inl, inr, ⊎_elim, List, [], ◌∷◌, ◌++◌, length, refl, sym, ap, ap₂, ◌∙◌, subst, arith, Bool, true, false, set, get_or-set_same, get_or-set_other, length-set}
use Rattle.std.specs.Prelude.{slice_get, Some, replicate, not}
use Rattle.std.specs.List.{AllZip}
use Rattle.std.proofs.Math.Bool.{beq}
use lib.Pointwise.{pointwise}
use Rattle.std.proofs.lemmas.Bool.{cases_lt}
use Rattle.std.proofs.lemmas.Option.{slice_get_within}
use Rattle.lalrpop_hir.specs.Range.{Range}
use Rattle.lalrpop_dfa.specs.Dfa.{Row, step, run, after, AreAscendingTests, IsWellFormed}
use Rattle.lalrpop_dfa.specs.Lookahead.{IsAccepting}
use Rattle.lalrpop_dfa.specs.Internal.Marks.{AreAccepting, AreLive, AreMarked, AreMarkedBack, AreMarkedOn, AreReached, IsReached, LeadsInto, LeadsOnTo, LeadsTo, Marked, WaitsFor}
use Rattle.lalrpop_dfa.proofs.AfterLaws.{run_append}
use Rattle.lalrpop_dfa.proofs.EdgeTargets.{step_of, step_within}
use Rattle.lalrpop_dfa.proofs.Lookaheads.{waits_none}
use Rattle.lalrpop_dfa.proofs.Marking.{accepting_within, along, by_other, by_test, fewer_marks, marked_count, marked_read, read_marked, same_marks, top}

-- ---- one mark more
pub set_marks : (marks : List Bool) (k p : ℕ) → k < length marks → Marked (set marks k true) p ↔ (Marked marks p ⊎ (p ≡ k))
set_marks marks k p l = (
  λ m. ⊎_elim (λ (x : p < k). inl (old m (omega arith)))
      (λ (x : k ≤ p). ⊎_elim (λ (y : k < p). inl (old m (omega arith))) (λ (y : p ≤ k). inr (omega arith)) (cases_lt k p))
      (cases_lt p k),
  λ h. elim h [
    | inl m ↦
        ⊎_elim (λ (x : p < k). new m (omega arith))
        (λ (x : k ≤ p). ⊎_elim (λ (y : k < p). new m (omega arith)) (λ (y : p ≤ k). here (omega arith)) (cases_lt k p))
        (cases_lt p k)
    | inr e ↦ here e
  ],
)
  where
    old : Marked (set marks k true) p → p ≢ k → Marked marks p
    old m other =
        let within : p < length marks = (let w = slice_get_within (set marks k true) p true m in omega (arith, w, length-set marks k true)) in
        marked_read marks p within (sym (get_or-set_other marks k p true false other) ∙ read_marked (set marks k true) p m)

    new : Marked marks p → p ≢ k → Marked (set marks k true) p
    new m other =
        let within : p < length (set marks k true) = (let w = slice_get_within marks p true m in omega (arith, w, length-set marks k true)) in
        marked_read (set marks k true) p within (get_or-set_other marks k p true false other ∙ read_marked marks p m)

    here : p ≡ k → Marked (set marks k true) p
    here e =
        subst (Marked (set marks k true)) (sym e)
        (marked_read (set marks k true) k (omega (arith, length-set marks k true)) (get_or-set_same marks k true false l))

module _ (d : List Row) where
  -- ---- from the last state back to the first: those from the place on are done
  pub record IsGoingBack (old new : List Bool) (place : ℕ) : Type 0 where
    pub same_length : length new ≡ length old
    pub kept : (p : ℕ) → Marked old p → Marked new p
    pub grown : (p : ℕ) → place ≤ p → p < length d → LeadsInto d old p → Marked new p
    pub sound : (p : ℕ) → Marked new p → (w : List ℕ) × Marked old (run d p w)

  pub back_start : (marks : List Bool) (place : ℕ) → length d ≤ place → IsGoingBack marks marks place
  back_start marks place all = record { same_length = refl; kept = λ p m. m; grown = λ p a l. absurd (omega arith); sound = λ p m. ([], m) }

  module _ (old new : List Bool) (place next : ℕ) (step_back : next ≡ place + 1) (h : IsGoingBack old new next) where
    pub back_marked : place < length new → LeadsInto d new place → IsGoingBack old (set new place true) place
    back_marked l (c, led) = record {
      same_length = length-set new place true ∙ h.same_length;
      kept = λ p m. (set_marks new place p l).1 (inl (h.kept p m));
      grown = λ p a b into.
          ⊎_elim (λ (x : place < p). (set_marks new place p l).1 (inl (h.grown p (omega arith) b into)))
          (λ (x : p ≤ place). (set_marks new place p l).1 (inr (omega arith)))
          (cases_lt place p);
      sound = λ p m. elim ((set_marks new place p l).0 m) [
        | inl here ↦ h.sound p here
        | inr e ↦ (let (w, so) = h.sound (step d place c) led in (c ∷ w, subst (λ q. Marked old (run d (step d q c) w)) (sym e) so))
      ];
    }

    pub back_stays : Marked new place ⊎ (¬ LeadsInto d new place) → IsGoingBack old new place
    back_stays why = record {
      same_length = h.same_length;
      kept = h.kept;
      grown = λ p a b (c, into).
          ⊎_elim (λ (x : place < p). h.grown p (omega arith) b (c, into))
          (λ (x : p ≤ place).
          let e : place ≡ p = omega arith in
          subst (Marked new) e
          (⊎_elim (λ (m : Marked new place). m) (λ (none : ¬ LeadsInto d new place). absurd (none (c, h.kept (step d place c) (subst (λ q. Marked old (step d q c)) (sym e) into)))) why))
          (cases_lt place p);
      sound = h.sound;
    }

  pub back_end : (old new : List Bool) (place : ℕ) → place ≤ 0 → IsGoingBack old new place → AreMarkedBack d old new
  back_end old new place none h = record { same_length = h.same_length; kept = h.kept; grown = λ p l. h.grown p (omega arith) l; sound = h.sound }

  -- ---- from the first state on to the last: those before the place are done
  pub record IsGoingOn (old new : List Bool) (place : ℕ) : Type 0 where
    pub same_length : length new ≡ length old
    pub kept : (p : ℕ) → Marked old p → Marked new p
    pub grown : (p c : ℕ) → p < place → Marked old p → Marked new (step d p c)
    pub sound : (q : ℕ) → Marked new q → (p : ℕ) × (w : List ℕ) × (Marked old p × (run d p w ≡ q))

  pub on_start : (marks : List Bool) → IsGoingOn marks marks 0
  on_start marks = record { same_length = refl; kept = λ p m. m; grown = λ p c l. absurd (omega arith); sound = λ q m. (q, [], (m, refl)) }

  module _ (old new : List Bool) (place : ℕ) (h : IsGoingOn old new place) where
    pub on_marked : (new2 : List Bool) → length new2 ≡ length new → ((q : ℕ) → Marked new2 q ↔ (Marked new q ⊎ LeadsTo d place q)) → Marked new place → IsGoingOn old new2 (place + 1)
    on_marked new2 same marked here = record {
      same_length = same ∙ h.same_length;
      kept = λ p m. (marked p).1 (inl (h.kept p m));
      grown = λ p c l m.
          ⊎_elim (λ (x : p < place). (marked (step d p c)).1 (inl (h.grown p c x m)))
          (λ (x : place ≤ p). let e : p ≡ place = omega arith in (marked (step d p c)).1 (inr (c, ap (λ q. step d q c) (sym e))))
          (cases_lt p place);
      sound = λ q m. elim ((marked q).0 m) [
        | inl is ↦ h.sound q is
        | inr led ↦ (let (p, w, (is, e)) = h.sound place here in (p, w ++ led.0 ∷ [], (is, run_append d p w (led.0 ∷ []) ∙ ap (λ r. step d r led.0) e ∙ led.1)))
      ];
    }

    pub on_stays : ¬ Marked new place → IsGoingOn old new (place + 1)
    on_stays none = record {
      same_length = h.same_length;
      kept = h.kept;
      grown = λ p c l m.
          ⊎_elim (λ (x : p < place). h.grown p c x m)
          (λ (x : place ≤ p). let e : p ≡ place = omega arith in absurd (none (subst (Marked new) e (h.kept p m))))
          (cases_lt p place);
      sound = h.sound;
    }

  pub on_end : (old new : List Bool) (place : ℕ) → length old ≤ place → IsGoingOn old new place → AreMarkedOn d old new
  on_end old new place all h = record {
    same_length = h.same_length;
    kept = h.kept;
    grown = λ p c m. h.grown p c (let w = slice_get_within old p true m in omega arith) m;
    sound = h.sound;
  }

  -- ---- states from which some word leads to a goal
  pub record IsGrowing (goals marks : List Bool) : Type 0 where
    pub same_length : length marks ≡ length d
    pub kept : (p : ℕ) → Marked goals p → Marked marks p
    pub sound : (p : ℕ) → Marked marks p → LeadsOnTo d (Marked goals) p

  pub growing_first : (goals : List Bool) → length goals ≡ length d → IsGrowing goals goals
  growing_first goals same = record { same_length = same; kept = λ p m. m; sound = λ p m. ([], m) }

  pub growing_more : (goals old new : List Bool) → IsGrowing goals old → AreMarkedBack d old new → IsGrowing goals new
  growing_more goals old new h more = record {
    same_length = more.same_length ∙ h.same_length;
    kept = λ p m. more.kept p (h.kept p m);
    sound = λ p m.
        (let (w, is) = more.sound p m in
        let (z, goal) = h.sound (run d p w) is in
        (w ++ z, subst (Marked goals) (sym (run_append d p w z)) goal));
  }

  -- if a pass marks none more, all are marked
  pub growing_end : IsWellFormed d → (goals marks : List Bool) → IsGrowing goals marks → AreMarkedBack d marks marks → AreMarked d (LeadsOnTo d (Marked goals)) marks
  growing_end well goals marks h more = record { same_length = h.same_length; each = λ p l. (h.sound p, λ (z, m). all z p l m) }
    where
      all : (z : List ℕ) (p : ℕ) → p < length d → Marked goals (run d p z) → Marked marks p
      all [] p l m = h.kept p m
      all (c ∷ z) p l m = more.grown p l (c, all z (step d p c) (step_within d p c well l) m)

  -- the goals are the states with a property
  pub leading_to : (W : ℕ → Type 0) → ((p : ℕ) → W p → p < length d) → (goals marks : List Bool) → AreMarked d W goals
      → AreMarked d (LeadsOnTo d (Marked goals)) marks → AreMarked d (LeadsOnTo d W) marks
  leading_to W within goals marks are lead = record {
    same_length = lead.same_length;
    each = λ p l. (
      λ m. (let (z, goal) = (lead.each p l).0 m in
          let there : run d p z < length d = (let w = slice_get_within goals (run d p z) true goal in omega (arith, w, are.same_length)) in
          (z, (are.each (run d p z) there).0 goal)),
      λ (z, w). (lead.each p l).1 (z, (are.each (run d p z) (within (run d p z) w)).1 w),
    );
  }

  pub live_of : (goals marks : List Bool) → AreAccepting d goals → AreMarked d (LeadsOnTo d (Marked goals)) marks → AreLive d marks
  live_of goals marks are lead =
      let accepting : AreMarked d (IsAccepting d) goals = record { same_length = are.same_length; each = are.each } in
      let live = leading_to (IsAccepting d) (accepting_within d) goals marks accepting lead in
      record { same_length = live.same_length; each = live.each }

  -- ---- states that a nonempty word reaches
  pub record IsGrowingReached (marks : List Bool) : Type 0 where
    pub same_length : length marks ≡ length d
    pub first : (c : ℕ) → Marked marks (step d 0 c)
    pub sound : (q : ℕ) → Marked marks q → IsReached d q

  none_marked : (n q : ℕ) → ¬ Marked (replicate n false) q
  none_marked zero q m = cc
  none_marked (suc n) zero m = cc
  none_marked (suc n) (suc q) m = none_marked n q m

  pub reached_first : (marks : List Bool) → length marks ≡ length d → ((q : ℕ) → Marked marks q ↔ (Marked (replicate (length d) false) q ⊎ LeadsTo d 0 q)) → IsGrowingReached marks
  reached_first marks same marked = record {
    same_length = same;
    first = λ c. (marked (step d 0 c)).1 (inr (c, refl));
    sound = λ q m. elim ((marked q).0 m) [
      | inl none ↦ absurd (none_marked (length d) q none)
      | inr led ↦ (led.0 ∷ [], (λ e. cc, led.1))
    ];
  }

  append_some : (v w : List ℕ) → v ≢ [] → (v ++ w) ≢ []
  append_some [] w some e = some refl
  append_some (c ∷ v) w some e = cc

  pub reached_more : (old new : List Bool) → IsGrowingReached old → AreMarkedOn d old new → IsGrowingReached new
  reached_more old new h more = record {
    same_length = more.same_length ∙ h.same_length;
    first = λ c. more.kept (step d 0 c) (h.first c);
    sound = λ q m.
        (let (p, w, (is, e)) = more.sound q m in
        let (v, (some, at)) = h.sound p is in
        (v ++ w, (append_some v w some, run_append d 0 v w ∙ ap (λ r. run d r w) at ∙ e)));
  }

  pub reached_end : (marks : List Bool) → IsGrowingReached marks → AreMarkedOn d marks marks → AreReached d marks
  reached_end marks h more = record { same_length = h.same_length; each = λ p. (h.sound p, λ (v, (some, e)). subst (Marked marks) e (from v some)) }
    where
      on : (w : List ℕ) (p : ℕ) → Marked marks p → Marked marks (run d p w)
      on [] p m = m
      on (c ∷ w) p m = on w (step d p c) (more.grown p c m)

      from : (v : List ℕ) → v ≢ [] → Marked marks (after d v)
      from [] some = absurd (some refl)
      from (c ∷ w) some = on w (step d 0 c) (h.first c)

  -- ---- the targets of a state: those of its first k tests
  pub record AreTargetsMarked (ts : List (Range × ℕ)) (old new : List Bool) (k : ℕ) : Type 0 where
    pub same_length : length new ≡ length old
    pub marked : (q : ℕ) → Marked new q ↔ (Marked old q ⊎ ((j : ℕ) × (t : Range × ℕ) × ((j < k) × (slice_get ts j ≡ Some t) × (t.1 ≡ q))))

  pub targets_start : (ts : List (Range × ℕ)) (marks : List Bool) → AreTargetsMarked ts marks marks 0
  targets_start ts marks = record {
    same_length = refl;
    marked = λ q. (λ m. inl m, λ h. elim h [ inl m ↦ m | inr far ↦ absurd (omega (arith, far.2.0)) ]);
  }

  pub targets_more : (ts : List (Range × ℕ)) (old new : List Bool) (k : ℕ) (t : Range × ℕ) → AreTargetsMarked ts old new k → slice_get ts k ≡ Some t → t.1 < length new → AreTargetsMarked ts old (set new t.1 true) (k + 1)
  targets_more ts old new k t h at l = record {
    same_length = length-set new t.1 true ∙ h.same_length;
    marked = λ q. (
      λ m. elim ((set_marks new t.1 q l).0 m) [
        | inl is ↦ elim ((h.marked q).0 is) [
          | inl before ↦ inl before
          | inr led ↦ inr (led.0, led.1, (omega (arith, led.2.0), led.2.1, led.2.2))
        ]
        | inr e ↦ inr (k, t, (omega arith, at, sym e))
      ],
      λ x. elim x [
        | inl before ↦ (set_marks new t.1 q l).1 (inl ((h.marked q).1 (inl before)))
        | inr led ↦
            ⊎_elim (λ (a : led.0 < k). (set_marks new t.1 q l).1 (inl ((h.marked q).1 (inr (led.0, led.1, (a, led.2.1, led.2.2))))))
            (λ (a : k ≤ led.0).
            let e : led.0 ≡ k = omega (arith, led.2.0) in
            let same : led.1 ≡ t = (let g : Some led.1 ≡ Some t = sym led.2.1 ∙ (ap (slice_get ts) e ∙ at) in cc) in
            (set_marks new t.1 q l).1 (inr (sym led.2.2 ∙ ap (λ (u : Range × ℕ). u.1) same)))
            (cases_lt led.0 k)
      ],
    );
  }

  pub targets_end : (p : ℕ) (r : Row) (old new : List Bool) (k : ℕ) → slice_get d p ≡ Some r → AreAscendingTests r.tests → AreTargetsMarked r.tests old new k → length r.tests ≤ k → r.other < length new
      → (q : ℕ) → Marked (set new r.other true) q ↔ (Marked old q ⊎ LeadsTo d p q)
  targets_end p r old new k at a h all l q = (
    λ m. elim ((set_marks new r.other q l).0 m) [
      | inl is ↦ elim ((h.marked q).0 is) [
        | inl before ↦ inl before
        | inr led ↦ inr (led.1.0.start, step_of d p led.1.0.start r at ∙ by_test r.tests r.other led.0 led.1 a led.2.1 ∙ led.2.2)
      ]
      | inr e ↦ inr (top r.tests, step_of d p (top r.tests) r at ∙ by_other r.tests r.other ∙ sym e)
    ],
    λ x. elim x [
      | inl before ↦ (set_marks new r.other q l).1 (inl ((h.marked q).1 (inl before)))
      | inr led ↦ elim (along (λ (s : ℕ). s ≡ q) r.tests r.other led.0 (sym (step_of d p led.0 r at) ∙ led.1)) [
        | inl e ↦ (set_marks new r.other q l).1 (inr (sym e))
        | inr (j, t, (here, e)) ↦ (set_marks new r.other q l).1 (inl ((h.marked q).1 (inr (j, t, (let w = slice_get_within r.tests j t here in omega arith, here, e)))))
      ]
    ],
  )

-- a pass marks no fewer: the same, or more
pub pass_more : (old new : List Bool) → length new ≡ length old → ((p : ℕ) → Marked old p → Marked new p) → (old ≡ new) ⊎ (marked_count old < marked_count new)
pass_more old new same kept = fewer_marks old new (sym same) kept

-- a copy of marks is the same
pub same_copy : (xs ys : List Bool) → AllZip (λ x y. y ≡ x) xs ys → ys ≡ xs
same_copy [] [] h = refl
same_copy [] (y ∷ ys) h = absurd h
same_copy (x ∷ xs) [] h = absurd h
same_copy (x ∷ xs) (y ∷ ys) h = ap₂ (λ z zs. z ∷ zs) h.0 (same_copy xs ys h.1)

-- marks that are the same after a pass, and marks of which there are more
module _ (old new copy : List Bool) (same : copy ≡ old) (decided : Bool) (told : decided ≡ pointwise beq new copy) where
  pub unchanged : decided ≡ true → new ≡ old
  unchanged t = (same_marks new copy).0 (sym told ∙ t) ∙ same

  pub changed : decided ≡ false → length new ≡ length old → ((p : ℕ) → Marked old p → Marked new p) → marked_count old < marked_count new
  changed f long kept = elim (pass_more old new long kept) [
    | inl e ↦ absurd (let t : decided ≡ true = told ∙ (same_marks new copy).1 (sym e ∙ sym same) in cc)
    | inr more ↦ more
  ]

-- ---- states that wait: those that are live but don't accept
module _ (d : List Row) (p : ℕ) (live accepting : List Bool) (are : AreLive d live) (acc : AreAccepting d accepting) (l : p < length d) where
  pub waits_if : (b : Bool) → slice_get live p ≡ Some true → slice_get accepting p ≡ Some b → (not b ≡ true) ↔ WaitsFor d 0 p
  waits_if true m at = (λ t. absurd (let f : false ≡ true = t in cc), λ w. absurd (w.0.1 ((acc.each p l).0 at)))
  waits_if false m at = (
    λ t. waits_none d p (l, (λ a. absurd (let f : Some false ≡ Some true = sym at ∙ (acc.each p l).1 a in cc)), (are.each p l).0 m),
    λ w. refl,
  )

  pub waits_else : slice_get live p ≡ Some false → (false ≡ true) ↔ WaitsFor d 0 p
  waits_else at = (λ t. absurd (cc), λ w. absurd (let f : Some false ≡ Some true = sym at ∙ (are.each p l).1 w.0.2 in cc))
