-- Values between which no edge begins or ends lead alike.
use Rattle.std.proofs.Common.{◌≡◌, ℕ, ◌+◌, ◌<◌, ◌≤◌, ◌∙◌, Bool, inl, inr, List, [], ◌∷◌, refl, sym, ap, subst, arith}
use Rattle.std.specs.Prelude.{if◌then◌else◌, slice_get, Some, IsSomeAnd}
use Rattle.std.specs.List.{All}
use Rattle.std.proofs.lemmas.Bool.{and_from, and_left, and_right, cases_lt, le-leb, lt-leb}
use Rattle.std.proofs.lemmas.List.Elements.{All-head, All-tail, All-weaker}
use Rattle.std.proofs.lemmas.Option.{slice_get_cases}
use Rattle.lalrpop_hir.specs.Range.{Range}
use Rattle.lalrpop_dfa.specs.Dfa.{Row, edge_target, step}
use Rattle.lalrpop_emit.specs.Internal.Classes.{AreAlike, AreBetweenMarks, AreMarks, IsBetweenMarks, IsMarked, holds}

-- the range holds both values or neither
abbrev IsSteady : ℕ → ℕ → (Range × ℕ) → Type 0
IsSteady value c t = holds t.0.start t.0.end c ≡ holds t.0.start t.0.end value

same_target : (ts : List (Range × ℕ)) (o value c : ℕ) → All (IsSteady value c) ts → edge_target ts o c ≡ edge_target ts o value
same_target [] o value c all = refl
same_target (t ∷ ts) o value c all =
    ap (λ (b : Bool). if b then t.1 else edge_target ts o c) (All-head (IsSteady value c) t ts all)
    ∙ ap (λ (n : ℕ). if holds t.0.start t.0.end value then t.1 else n) (same_target ts o value c (All-tail (IsSteady value c) t ts all))

-- a state whose edges lead both values alike
same_step : (d : List Row) (p value c : ℕ) → ((r : Row) → slice_get d p ≡ Some r → All (IsSteady value c) r.tests)
    → step d p c ≡ step d p value
same_step d p value c all = elim (slice_get_cases d p).1 [
  | inl x ↦ rw x.2 (same_target x.0.tests x.0.other value c (all x.0 x.2))
  | inr past ↦ rw past.1 refl
]

-- the range neither begins nor ends between both values
steady : (value c first last : ℕ) → value ≤ c → (value < first → first ≤ c → ⊥) → (value < last + 1 → last + 1 ≤ c → ⊥)
    → holds first last c ≡ holds first last value
steady value c first last le begins ends = elim (cases_lt value first) [
  | inl before ↦ elim (cases_lt c first) [
    | inl less ↦ and_left _ _ (lt-leb first c less) ∙ sym (and_left _ _ (lt-leb first value before))
    | inr more ↦ absurd (begins before more)
  ]
  | inr from ↦ elim (cases_lt last value) [
    | inl past ↦ and_right _ _ (lt-leb c last (omega arith)) ∙ sym (and_right _ _ (lt-leb value last past))
    | inr to ↦ elim (cases_lt last c) [
      | inl more ↦ absurd (ends (omega arith) (omega arith))
      | inr less ↦ and_from _ _ (le-leb first c (omega arith)) (le-leb c last less) ∙ sym (and_from _ _ (le-leb first value from) (le-leb value last to))
    ]
  ]
]

-- characters after the value, up to which none is marked, lead alike
pub unmarked_alike : (d : List Row) (marks : List Bool) (value c : ℕ) → AreMarks d marks → value ≤ c → c < 1114112
    → ((v : ℕ) → value < v → v ≤ c → ¬ IsMarked marks v) → AreAlike d c value
unmarked_alike d marks value c h le character none = λ p within.
    same_step d p value c (λ r at.
    All-weaker (λ t. IsBetweenMarks marks t.0) (IsSteady value c) (λ t between.
    steady value c t.0.start t.0.end le (λ after to. none t.0.start after to (between.start (omega (arith, to, character))))
    (λ after to. none (t.0.end + 1) after to (between.end (omega (arith, to, character))))) r.tests (h.each p r at))

-- the edges of one more state are between marks
pub marks_more : (d : List Row) (old new : List Bool) (edges : List (Range × ℕ)) (n : ℕ)
    → ((p : ℕ) (r : Row) → p < n → slice_get d p ≡ Some r → AreBetweenMarks old r.tests)
    → ((c : ℕ) → IsMarked old c → IsMarked new c) → IsSomeAnd (slice_get d n) (λ r. edges ≡ r.tests) → AreBetweenMarks new edges
    → (p : ℕ) (r : Row) → p < n + 1 → slice_get d p ≡ Some r → AreBetweenMarks new r.tests
marks_more d old new edges n before kept are between p r below at = elim (cases_lt p n) [
  | inl small ↦
      All-weaker (λ t. IsBetweenMarks old t.0) (λ t. IsBetweenMarks new t.0)
      (λ t h. record { start = λ l. kept t.0.start (h.start l); end = λ l. kept (t.0.end + 1) (h.end l) }) r.tests (before p r small at)
  | inr past ↦
      let is : p ≡ n = omega (arith, below, past) in
      let here : slice_get d n ≡ Some r = subst (λ (k : ℕ). slice_get d k ≡ Some r) is at in
      subst (AreBetweenMarks new) (subst (λ o. IsSomeAnd o (λ (r : Row). edges ≡ r.tests)) here are) between
]
