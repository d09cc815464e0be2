-- The least number of states of an automaton that recognizes given trees.
use Rattle.std.proofs.Common.{◌≡◌, ℕ, zero, suc, ◌<◌, inl, inr, List, [], ◌∷◌, length, map, refl, sym, ap, subst, ◌∙◌, arith}
use Rattle.std.specs.Prelude.{Some, IsSomeAnd, slice_get}
use Rattle.std.specs.List.{Contains}
use Rattle.std.proofs.lemmas.List.{length-map}
use Rattle.std.proofs.lemmas.Option.{same_Some, slice_get_cases}
use Rattle.lalrpop_hir.specs.Range.{Range}
use Rattle.lalrpop_hir.specs.Tree.{Tree}
use Rattle.lalrpop_dfa.specs.Dfa.{Row, step, run, after, edge_target, AreAscendingTests, IsReject, IsRightKind, IsWellFormed, RecognizesAll}
use Rattle.lalrpop_dfa.specs.declared.Kind.{Kind}
use Rattle.lalrpop_dfa.specs.declared.Kind.TheVariants.{Accepts, Reject, Neither}
use Rattle.lalrpop_dfa.proofs.AfterLaws.{after_within}
use Rattle.lalrpop_dfa.proofs.EdgeTargets.{step_of, the_some}
use Rattle.lalrpop_verdicts.specs.Answers.{accepted_by, accepted_at}
use Rattle.lalrpop_verdicts.specs.Smallest.{AnswerAlike, IsLeastCount}
use Rattle.lalrpop_verdicts.proofs.ClassAutomata.{right_kind}
use Rattle.lalrpop_review.specs.Review.{IsLeastStates}

-- ---- an automaton that answers alike, and in which no state rejects

abbrev opened_kind : Kind → Kind
opened_kind (Accepts i) = Accepts i
opened_kind Reject = Neither
opened_kind Neither = Neither

abbrev opened : Row → Row
opened r = record { kind = opened_kind r.kind; tests = r.tests; other = r.other; items = r.items }

same_accepted : (k : Kind) → accepted_by (opened_kind k) ≡ accepted_by k
same_accepted (Accepts i) = refl
same_accepted Reject = refl
same_accepted Neither = refl

no_reject : (k : Kind) → ¬ (opened_kind k ≡ Reject)
no_reject (Accepts i) e = cc
no_reject Reject e = cc
no_reject Neither e = cc

row_of : (d : List Row) (p : ℕ) (s : Row) → slice_get (map opened d) p ≡ Some s → (r : Row) × ((slice_get d p ≡ Some r) × (opened r ≡ s))
row_of [] p s at = absurd (cc)
row_of (r ∷ d) zero s at = (r, (refl, same_Some (opened r) s at))
row_of (r ∷ d) (suc p) s at = row_of d p s at

same_step : (d : List Row) (p c : ℕ) → step (map opened d) p c ≡ step d p c
same_step d p c = elim (slice_get_cases (map opened d) p).1 [
  | inl x ↦ (let (r, (at, same)) = row_of d p x.0 x.2 in
      step_of (map opened d) p c x.0 x.2 ∙ ap (λ (s : Row). edge_target s.tests s.other c) (sym same) ∙ sym (step_of d p c r at))
  | inr past ↦ elim (slice_get_cases d p).1 [
    | inl y ↦ absurd (omega (arith, past.0, y.1, length-map d opened))
    | inr also ↦ rw (past.1, also.1) refl
  ]
]

same_run : (d : List Row) (p : ℕ) (w : List ℕ) → run (map opened d) p w ≡ run d p w
same_run d p [] = refl
same_run d p (c ∷ w) = ap (λ q. run (map opened d) q w) (same_step d p c) ∙ same_run d (step d p c) w

same_at : (d : List Row) (p : ℕ) → accepted_at (slice_get (map opened d) p) ≡ accepted_at (slice_get d p)
same_at [] p = refl
same_at (r ∷ d) zero = same_accepted r.kind
same_at (r ∷ d) (suc p) = same_at d p

opened_alike : (d : List Row) → AnswerAlike d (map opened d)
opened_alike d w = sym (ap (λ p. accepted_at (slice_get (map opened d) p)) (same_run d 0 w) ∙ same_at d (after d w))

opened_fits : (d : List Row) → IsWellFormed d → IsWellFormed (map opened d)
opened_fits d fits = record {
  some = omega (arith, fits.some, length-map d opened);
  ascending = λ p s at. (let (r, (there, same)) = row_of d p s at in subst (λ (x : Row). AreAscendingTests x.tests) same (fits.ascending p r there));
  tests_in = tests_in;
  others_in = others_in;
}
  where
    tests_in : (p : ℕ) (s : Row) (t : Range × ℕ) → slice_get (map opened d) p ≡ Some s → Contains s.tests t → t.1 < length (map opened d)
    tests_in p s t at has =
        let (r, (there, same)) = row_of d p s at in
        let below : t.1 < length d = fits.tests_in p r t there (subst (λ (x : Row). Contains x.tests t) (sym same) has) in
        omega (arith, below, length-map d opened)

    others_in : (p : ℕ) (s : Row) → slice_get (map opened d) p ≡ Some s → s.other < length (map opened d)
    others_in p s at =
        let (r, (there, same)) = row_of d p s at in
        let below : s.other < length d = subst (λ (x : Row). x.other < length d) same (fits.others_in p r there) in
        omega (arith, below, length-map d opened)

none_rejects : (d : List Row) (p : ℕ) → ¬ IsReject (map opened d) p
none_rejects d p rejects =
    let (s, (at, is)) = the_some (slice_get (map opened d) p) (λ x. x.kind ≡ Reject) rejects in
    let (r, (there, same)) = row_of d p s at in
    no_reject r.kind (ap (λ (x : Row). x.kind) same ∙ is)

-- ---- automata that recognize the trees

one_answer : (ts : List Tree) (ps w : List ℕ) (k l : Kind) → IsRightKind ts ps w k → IsRightKind ts ps w l → accepted_by k ≡ accepted_by l
one_answer ts ps w (Accepts i) (Accepts j) one other = ap (λ n. Some n) (other.1 i one.0)
one_answer ts ps w (Accepts i) Reject one none = absurd (none (i, one.0.0))
one_answer ts ps w (Accepts i) Neither one none = absurd (none (i, one.0.0))
one_answer ts ps w Reject (Accepts j) none one = absurd (none (j, one.0.0))
one_answer ts ps w Reject Reject none also = refl
one_answer ts ps w Reject Neither none also = refl
one_answer ts ps w Neither (Accepts j) none one = absurd (none (j, one.0.0))
one_answer ts ps w Neither Reject none also = refl
one_answer ts ps w Neither Neither none also = refl

module _ (ts : List Tree) (ps : List ℕ) (d : List Row) (recognizes : RecognizesAll d ts ps) where
  -- one that recognizes them answers alike
  same_answers : (e : List Row) → RecognizesAll e ts ps → AnswerAlike d e
  same_answers e also w =
      let (r, (at, is)) = the_some (slice_get d (after d w)) (λ x. IsRightKind ts ps w x.kind) (recognizes.kinds w) in
      let (s, (there, right)) = the_some (slice_get e (after e w)) (λ x. IsRightKind ts ps w x.kind) (also.kinds w) in
      ap accepted_at at ∙ one_answer ts ps w r.kind s.kind is right ∙ sym (ap accepted_at there)

  -- one that answers alike has the right kinds
  right_kinds : (e : List Row) → IsWellFormed e → AnswerAlike d e → (w : List ℕ) → IsSomeAnd (slice_get e (after e w)) (λ x. IsRightKind ts ps w x.kind)
  right_kinds e fits alike w =
      let (r, (at, is)) = the_some (slice_get d (after d w)) (λ x. IsRightKind ts ps w x.kind) (recognizes.kinds w) in
      elim (slice_get_cases e (after e w)).1 [
        | inl x ↦ (let same : accepted_by x.0.kind ≡ accepted_by r.kind = ap accepted_at (sym x.2) ∙ sym (alike w) ∙ ap accepted_at at in
            rw x.2 (right_kind ts ps w r.kind x.0.kind same is))
        | inr past ↦ absurd (omega (arith, past.0, after_within e w fits))
      ]

  opened_recognizes : (e : List Row) → IsWellFormed e → AnswerAlike d e → RecognizesAll (map opened e) ts ps
  opened_recognizes e fits alike = record {
    kinds = right_kinds (map opened e) (opened_fits e fits) (λ w. alike w ∙ opened_alike e w);
    stays = λ p c rejects. absurd (none_rejects e p rejects);
  }

  pub least_states : (n : ℕ) → IsLeastCount d n → IsLeastStates ts ps n
  least_states n (least, (fits, alike, smallest, count)) = record {
    some = (map opened least, ((opened_fits least fits, opened_recognizes least fits alike), length-map least opened ∙ count));
    none_fewer = λ e is. omega (arith, count, smallest e is.0 (λ w. sym (alike w) ∙ same_answers e is.1 w));
  }
