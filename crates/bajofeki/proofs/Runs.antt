-- What the run of an automaton has seen settles what matches.
use Rattle.std.proofs.Common.{◌≡◌, ◌≢◌, ℕ, ◌⊎◌, inl, inr, List, [], ◌∷◌, ◌++◌, refl, sym, subst, ◌∙◌}
use Rattle.std.specs.Prelude.{Option, Some, None, IsSomeAnd, slice_get}
use Rattle.lalrpop_hir.specs.Range.{Range}
use Rattle.lalrpop_hir.specs.Tree.{Tree}
use Rattle.lalrpop_hir.specs.Winners.{Matched}
use Rattle.lalrpop_dfa.specs.Dfa.{Row, step, run, after, RecognizesAll, IsRightKind, IsReject, AreAscendingTests, edge_target}
use Rattle.lalrpop_dfa.specs.Lookahead.{IsTrim, IsLive, IsAccepting}
use Rattle.lalrpop_dfa.specs.declared.Kind.{Kind}
use Rattle.lalrpop_dfa.specs.declared.Kind.TheVariants.{Accepts, Reject, Neither}
use Rattle.lalrpop_dfa.proofs.AfterLaws.{run_append}
use Rattle.lalrpop_dfa.proofs.EdgeTargets.{step_of}
use Rattle.lalrpop_dfa.proofs.LongestLemmas.{unmatched}
use Rattle.lalrpop_dfa.proofs.Marking.{along, top, by_test, by_other}
use Rattle.lalrpop_dfa.proofs.Recognized.{accepted_matched}

-- ---- where the edges of a state lead
module _ (d : List Row) (p : ℕ) (r : Row) (at : slice_get d p ≡ Some r) where
  -- all of them lead to states that reject
  pub all_reject : ((k : ℕ) (t : Range × ℕ) → slice_get r.tests k ≡ Some t → IsReject d t.1) → IsReject d r.other → (c : ℕ) → IsReject d (step d p c)
  all_reject tests other c = subst (IsReject d) (sym (step_of d p c r at)) (by_cases (along (λ q. q ≡ edge) r.tests r.other c refl))
    where
      edge : ℕ
      edge = edge_target r.tests r.other c

      by_cases : (r.other ≡ edge) ⊎ ((k : ℕ) × (t : Range × ℕ) × ((slice_get r.tests k ≡ Some t) × (t.1 ≡ edge))) → IsReject d edge
      by_cases (inl e) = subst (IsReject d) e other
      by_cases (inr (k, t, (here, e))) = subst (IsReject d) e (tests k t here)

  -- one of them leads to a state that does not
  pub test_goes_on : (k : ℕ) (t : Range × ℕ) → AreAscendingTests r.tests → slice_get r.tests k ≡ Some t → ¬ IsReject d t.1 → (c : ℕ) × ¬ IsReject d (step d p c)
  test_goes_on k t a here not =
      (t.0.start, λ reject. not (subst (IsReject d) (step_of d p t.0.start r at ∙ by_test r.tests r.other k t a here) reject))

  pub other_goes_on : ¬ IsReject d r.other → (c : ℕ) × ¬ IsReject d (step d p c)
  other_goes_on not =
      (top r.tests, λ reject. not (subst (IsReject d) (step_of d p (top r.tests) r at ∙ by_other r.tests r.other) reject))

-- ---- what is settled

module _ (d : List Row) (ts : List Tree) (ps : List ℕ) (h : RecognizesAll d ts ps) where
  stays : (p : ℕ) (w : List ℕ) → IsReject d p → IsReject d (run d p w)
  stays p [] reject = reject
  stays p (c ∷ w) reject = stays (step d p c) w (h.stays p c reject)

  -- after a word that leads to a state that rejects no tree matches
  pub none_behind : (v w : List ℕ) → IsReject d (after d v) → ¬ Matched ts (v ++ w)
  none_behind v w reject =
      unmatched ts ps (v ++ w) (slice_get d (after d (v ++ w))) (subst (IsReject d) (sym (run_append d 0 v w)) (stays (after d v) w reject)) (h.kinds (v ++ w))

  -- where a value leads to a state that does not reject, some longer word matches
  pub goes_on_to_match : (w : List ℕ) (c : ℕ) → IsTrim d → ¬ IsReject d (step d (after d w) c) → (v : List ℕ) × ((v ≢ []) × Matched ts (w ++ v))
  goes_on_to_match w c trim not = by_state (slice_get d next) refl (h.kinds (w ++ c ∷ []))
    where
      next : ℕ
      next = after d (w ++ c ∷ [])

      reached : next ≡ step d (after d w) c
      reached = run_append d 0 w (c ∷ [])

      on : IsLive d (step d (after d w) c) → (v : List ℕ) × ((v ≢ []) × Matched ts (w ++ v))
      on (z, accepts) = (c ∷ z, ((λ none. cc), accepted_matched d ts ps h (w ++ c ∷ z) (subst (IsAccepting d) (sym (run_append d 0 w (c ∷ z))) accepts)))

      by_kind : (r : Row) (k : Kind) → slice_get d next ≡ Some r → r.kind ≡ k → IsRightKind ts ps (w ++ c ∷ []) k → (v : List ℕ) × ((v ≢ []) × Matched ts (w ++ v))
      by_kind r (Accepts i) at is only = (c ∷ [], ((λ none. cc), (i, only.0.0)))
      by_kind r Reject at is none = absurd (not (subst (IsReject d) reached (subst (λ o. IsSomeAnd o (λ x. x.kind ≡ Reject)) (sym at) is)))
      by_kind r Neither at is none =
          on (trim (step d (after d w) c) (subst (λ q. IsSomeAnd (slice_get d q) (λ x. x.kind ≡ Neither)) reached (subst (λ o. IsSomeAnd o (λ x. x.kind ≡ Neither)) (sym at) is)))

      by_state : (o : Option Row) → slice_get d next ≡ o → IsSomeAnd o (λ r. IsRightKind ts ps (w ++ c ∷ []) r.kind) → (v : List ℕ) × ((v ≢ []) × Matched ts (w ++ v))
      by_state None at none = absurd none
      by_state (Some r) at right = by_kind r r.kind at refl right
