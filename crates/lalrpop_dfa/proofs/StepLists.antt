-- The lists of where values lead, as more states get theirs.
use Rattle.std.proofs.Common.{◌≡◌, ℕ, inl, inr, ◌+◌, ◌<◌, List, [], ◌∷◌, ◌++◌, length, get_or, refl, sym, ap, ◌∙◌, arith, length-append}
use Rattle.std.specs.Prelude.{slice_get, Option, Some, None, IfSome}
use Rattle.std.specs.List.{AllZip}
use Rattle.std.proofs.lemmas.List.Elements.{same_from_all_zip}
use Rattle.std.proofs.lemmas.Option.{slice_get_within, slice_get-get_or}
use Rattle.lalrpop_hir.specs.Range.{Range}
use Rattle.lalrpop_dfa.specs.Dfa.{Row, edge_target, step}
use Rattle.lalrpop_dfa.specs.Stored.{AreSteps, AreListed}
use Rattle.lalrpop_hir.proofs.Pushed.{pushed_cases, pushed_keeps, pushed_last}
use Rattle.lalrpop_dfa.proofs.EdgeTargets.{step_of}

-- the places so far name lists of their states
abbrev pub TellSteps : List Row → List (Option ℕ) → List (List ℕ) → Type 0
TellSteps d places lists = (p k : ℕ) → slice_get places p ≡ Some (Some k) → (targets : List ℕ) × ((slice_get lists k ≡ Some targets) × AreSteps d p targets)

-- a list of where values lead by the edges of a state
pub steps_by_edges : (d : List Row) (p : ℕ) (r : Row) (ts : List (Range × ℕ)) (other : ℕ) (o : Option (List ℕ)) → slice_get d p ≡ Some r → ts ≡ r.tests → other ≡ r.other
    → IfSome o (λ targets. (c : ℕ) → c < 128 → slice_get targets c ≡ Some (edge_target ts other c)) → IfSome o (λ targets. AreSteps d p targets)
steps_by_edges d p r ts other None at same_tests same_other h = tt
steps_by_edges d p r ts other (Some targets) at same_tests same_other h = λ c l. h c l ∙ rw (same_tests, same_other) (ap (λ n. Some n) (sym (step_of d p c r at)))

-- one more state, without a list
pub told_without : (d : List Row) (places places2 : List (Option ℕ)) (lists lists2 : List (List ℕ)) (n : ℕ) → length places ≡ n → TellSteps d places lists
    → places2 ≡ places ++ None ∷ [] → lists2 ≡ lists → (length places2 ≡ n + 1) × TellSteps d places2 lists2
told_without d places places2 lists lists2 n long h e f = (omega (arith, ap length e, length-append places (None ∷ []), long), rw (e, f) told)
  where
    told : TellSteps d (places ++ None ∷ []) lists
    told p k at = elim (pushed_cases places None p (Some k) at) [
      | inl old ↦ h p k old
      | inr new ↦ (let g : Some k ≡ None = new.1 in cc)
    ]

-- one more state, with its list
pub told_with : (d : List Row) (places places2 : List (Option ℕ)) (lists lists2 : List (List ℕ)) (n m : ℕ) (targets : List ℕ) → length places ≡ n → TellSteps d places lists
    → AreSteps d n targets → m ≡ length lists → places2 ≡ places ++ Some m ∷ [] → lists2 ≡ lists ++ targets ∷ [] → (length places2 ≡ n + 1) × TellSteps d places2 lists2
told_with d places places2 lists lists2 n m targets long h own last e f = (omega (arith, ap length e, length-append places (Some m ∷ []), long), rw (e, f) told)
  where
    told : TellSteps d (places ++ Some m ∷ []) (lists ++ targets ∷ [])
    told p k at = elim (pushed_cases places (Some m) p (Some k) at) [
      | inl old ↦ (let was = h p k old in (was.0, (pushed_keeps lists targets k was.0 was.1.0, was.1.1)))
      | inr new ↦ (let same : k ≡ m = (let g : Some k ≡ Some m = new.1 in cc) in
          (targets, (ap (slice_get (lists ++ targets ∷ [])) (same ∙ last) ∙ pushed_last lists targets, rw (new.0, long) own)))
    ]

-- what the list of a state says
pub told_step : (d : List Row) (places : List (Option ℕ)) (lists : List (List ℕ)) → TellSteps d places lists
    → (p c k : ℕ) (targets : List ℕ) → slice_get places p ≡ Some (Some k) → slice_get lists k ≡ Some targets → c < 128 → get_or targets c 0 ≡ step d p c
told_step d places lists h p c k targets e f l =
    let own = h p k e in
    let same : own.0 ≡ targets = (let g : Some own.0 ≡ Some targets = sym own.1.0 ∙ f in cc) in
    let at : slice_get targets c ≡ Some (step d p c) = rw same at own.1.1 c l in
    let got : Some (get_or targets c 0) ≡ Some (step d p c) = sym (slice_get-get_or targets c 0 (slice_get_within targets c _ at)) ∙ at in
    cc

pub listed_step : (d : List Row) (places : List (Option ℕ)) (lists : List (List ℕ)) → AreListed d places lists
    → (p c k i : ℕ) (o : Option ℕ) (targets : List ℕ) → p < length d → i ≡ p → o ≡ get_or places i o → o ≡ Some k → targets ≡ get_or lists k targets → c < 128 → get_or targets c 0 ≡ step d p c
listed_step d places lists h p c k i o targets l is e f g m =
    let place : slice_get places p ≡ Some (Some k) = slice_get-get_or places p o (omega (arith, h.same_length)) ∙ ap (λ q. Some q) (ap (λ n. get_or places n o) (sym is) ∙ sym e ∙ f) in
    let own = h.each p k place in
    let at : slice_get lists k ≡ Some targets = slice_get-get_or lists k targets (slice_get_within lists k own.0 own.1.0) ∙ ap (λ q. Some q) (sym g) in
    told_step d places lists h.each p c k targets place at m

-- copies of places
pub same_places : (R : Option ℕ → Option ℕ → Type 0) → ((n : ℕ) → R None (Some n) → ⊥) → ((n : ℕ) → R (Some n) None → ⊥) → ((m n : ℕ) → R (Some m) (Some n) → n ≡ m)
    → (xs ys : List (Option ℕ)) → AllZip R xs ys → ys ≡ xs
same_places R added lost some xs ys all = same_from_all_zip R xs ys all same
  where
    same : (x y : Option ℕ) → R x y → y ≡ x
    same None None r = refl
    same None (Some n) r = absurd (added n r)
    same (Some m) None r = absurd (lost m r)
    same (Some m) (Some n) r = ap (λ q. Some q) (some m n r)
