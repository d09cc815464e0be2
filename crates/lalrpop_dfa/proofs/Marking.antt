-- Marked states: where edges lead, and states that wait.
use Rattle.std.proofs.Common.{◌≡◌, ℕ, zero, suc, ◌+◌, ◌<◌, ◌≤◌, ◌↔◌, ◌⊎◌, inl, inr, ⊎_elim, List, [], ◌∷◌, ◌++◌, length, refl, sym, ap, ◌∙◌, subst, arith, Bool, true, false, get_or, length-append}
use Rattle.std.specs.Prelude.{slice_get, Option, Some, None, IsSomeAnd, if◌then◌else◌}
use Rattle.std.proofs.lemmas.Option.{slice_get_within, slice_get_cases, slice_get-get_or}
use Rattle.std.proofs.lemmas.Bool.{cases_lt}
use Rattle.std.proofs.Math.Bool.{beq}
use lib.Pointwise.{pointwise, pointwise_decides}
use Rattle.lalrpop_hir.proofs.Pushed.{pushed_cases, pushed_keeps, pushed_last}
use Rattle.lalrpop_hir.specs.Range.{Range}
use Rattle.lalrpop_dfa.specs.declared.Kind.{Kind}
use Rattle.lalrpop_dfa.specs.declared.Kind.TheVariants.{Accepts}
use Rattle.lalrpop_dfa.specs.Dfa.{Row, StoredState, AreStored, edge_target, step, AreAscendingTests, IsWellFormed}
use Rattle.lalrpop_dfa.specs.Lookahead.{Accepted, AcceptedAs, IsAccepting, IsLookahead, StaysOpenEver}
use Rattle.lalrpop_dfa.specs.Internal.Marks.{Marked, IsAcceptingAs, LeadsInto, AreReached, IsReached, WaitsFor, AreWaitingFor, AreWaitingEver, IsEntered, EntersBy}
use Rattle.lalrpop_dfa.proofs.EdgeTargets.{place_of, leads_at, leads_none, has_value_at, step_of, step_within, the_some}
use Rattle.lalrpop_dfa.proofs.Lookaheads.{Enters, can_entered, for_ever}
use Rattle.lalrpop_dfa.proofs.Openness.{EndsMatch, can_opens, opens_can}

-- ---- where the values lead from a state: along one of its test edges, or its other edge
module _ (P : ℕ → Type 0) where
  chosen : (b : Bool) (x y : ℕ) → P (if b then x else y) → P x ⊎ P y
  chosen true x y h = inl h
  chosen false x y h = inr h

  pub along : (ts : List (Range × ℕ)) (other c : ℕ) → P (edge_target ts other c) → P other ⊎ ((k : ℕ) × (t : Range × ℕ) × ((slice_get ts k ≡ Some t) × P t.1))
  along [] other c h = inl h
  along (u ∷ ts) other c h =
      ⊎_elim (λ (a : P u.1). inr (0, u, (refl, a)))
      (λ (a : P (edge_target ts other c)).
      ⊎_elim (λ (b : P other). inl b)
      (λ (b : (k : ℕ) × (t : Range × ℕ) × ((slice_get ts k ≡ Some t) × P t.1)). inr (suc b.0, b.1, b.2))
      (along ts other c a))
      (chosen _ u.1 (edge_target ts other c) h)

-- a value above all tests
abbrev pub top : List (Range × ℕ) → ℕ
top [] = 0
top (t ∷ ts) = t.0.end + 1 + top ts

pub top_above : (ts : List (Range × ℕ)) (k : ℕ) (t : Range × ℕ) → slice_get ts k ≡ Some t → t.0.end < top ts
top_above [] k t e = cc
top_above (u ∷ ts) zero t e = let same : u ≡ t = cc in rw (← same) (omega arith)
top_above (u ∷ ts) (suc k) t e = omega (arith, top_above ts k t e)

pub by_test : (ts : List (Range × ℕ)) (other k : ℕ) (t : Range × ℕ) → AreAscendingTests ts → slice_get ts k ≡ Some t → edge_target ts other t.0.start ≡ t.1
by_test ts other k t a at = leads_at ts a k other t.0.start t at (omega arith, has_value_at ts a k t at)

pub by_other : (ts : List (Range × ℕ)) (other : ℕ) → edge_target ts other (top ts) ≡ other
by_other ts other = leads_none ts other (top ts) (λ t m h. (let (k, at) = place_of ts t m in omega (arith, top_above ts k t at, h.1)))

-- a state of which one edge leads to a marked state, and one of which none does
module _ (d : List Row) (marks : List Bool) (p : ℕ) (r : Row) (at : slice_get d p ≡ Some r) where
  pub leads_by_test : (k : ℕ) (t : Range × ℕ) → AreAscendingTests r.tests → slice_get r.tests k ≡ Some t → Marked marks t.1 → LeadsInto d marks p
  leads_by_test k t a here m = (t.0.start, subst (Marked marks) (sym (step_of d p t.0.start r at ∙ by_test r.tests r.other k t a here)) m)

  pub leads_by_other : Marked marks r.other → LeadsInto d marks p
  leads_by_other m = (top r.tests, subst (Marked marks) (sym (step_of d p (top r.tests) r at ∙ by_other r.tests r.other)) m)

  pub leads_else : ((k : ℕ) (t : Range × ℕ) → slice_get r.tests k ≡ Some t → Marked marks t.1 → ⊥) → LeadsInto d marks p → Marked marks r.other
  leads_else none (c, m) =
      ⊎_elim (λ (a : Marked marks r.other). a)
      (λ (a : (k : ℕ) × (t : Range × ℕ) × ((slice_get r.tests k ≡ Some t) × Marked marks t.1)). absurd (none a.0 a.1 a.2.0 a.2.1))
      (along (Marked marks) r.tests r.other c (subst (Marked marks) (step_of d p c r at) m))

pub row_tests : (d : List Row) (p : ℕ) (ts : List (Range × ℕ)) → IsSomeAnd (slice_get d p) (λ x. ts ≡ x.tests) → (r : Row) × ((slice_get d p ≡ Some r) × (ts ≡ r.tests))
row_tests d p ts h = the_some (slice_get d p) (λ x. ts ≡ x.tests) h

-- ---- states that accept
pub accepting_within : (d : List Row) (p : ℕ) → IsAccepting d p → p < length d
accepting_within d p a = elim (slice_get_cases d p).1 [
  | inl x ↦ slice_get_within d p x.0 x.2
  | inr past ↦ absurd (rw past.1 at a)
]

pub by_accepts : (d : List Row) (i p : ℕ) → IsAcceptingAs d i p → IsAccepting d p
by_accepts d i p h = at (slice_get d p) h
  where
    at : (o : Option Row) → IsSomeAnd o (λ r. r.kind ≡ Accepts i) → IsSomeAnd o (λ r. (j : ℕ) × (r.kind ≡ Accepts j))
    at None h = h
    at (Some r) h = (i, h)

pub accepts_by : (d : List Row) (p : ℕ) → IsAccepting d p → (i : ℕ) × IsAcceptingAs d i p
accepts_by d p h = at (slice_get d p) h
  where
    at : (o : Option Row) → IsSomeAnd o (λ r. (j : ℕ) × (r.kind ≡ Accepts j)) → (i : ℕ) × IsSomeAnd o (λ r. r.kind ≡ Accepts i)
    at None h = absurd h
    at (Some r) h = h

-- what the marks say of entering states that wait for n values
module _ (d : List Row) (well : IsWellFormed d) (reached marks : List Bool) (n : ℕ) (are : AreReached d reached) (stay : AreWaitingFor d n marks) where
  pub by_enters : (i p : ℕ) → EntersBy d reached marks i p → (c : ℕ) × ((IsAcceptingAs d i p × IsReached d p) × WaitsFor d n (step d p c))
  by_enters i p (m, (b, (c, led))) =
      let l : p < length d = accepting_within d p (by_accepts d i p b) in
      (c, ((b, (are.each p).0 m), (stay.each (step d p c) (step_within d p c well l)).0 led))

  pub enters_by : (i p c : ℕ) → IsAcceptingAs d i p → IsReached d p → WaitsFor d n (step d p c) → EntersBy d reached marks i p
  enters_by i p c b r o =
      let l : p < length d = accepting_within d p (by_accepts d i p b) in
      ((are.each p).1 r, (b, (c, (stay.each (step d p c) (step_within d p c well l)).1 o)))

  pub entered_of : IsEntered d reached marks → Enters d (EndsMatch d (IsAccepting d) (λ p a. a)) n
  entered_of (i, p, e) = (let (c, ((b, r), o)) = by_enters i p e in (p, c, ((by_accepts d i p b, r), o)))

  pub of_entered : Enters d (EndsMatch d (IsAccepting d) (λ p a. a)) n → IsEntered d reached marks
  of_entered (p, c, ((a, r), o)) = (let (i, b) = accepts_by d p a in (i, p, enters_by i p c b r o))

-- ---- the number of marked states
abbrev pub marked_count : List Bool → ℕ
marked_count [] = 0
marked_count (true ∷ bs) = suc (marked_count bs)
marked_count (false ∷ bs) = marked_count bs

pub count_at_most : (bs : List Bool) → marked_count bs ≤ length bs
count_at_most [] = omega arith
count_at_most (true ∷ bs) = omega (arith, count_at_most bs)
count_at_most (false ∷ bs) = omega (arith, count_at_most bs)

-- if fewer are marked, either the marks are the same or their count is smaller
pub fewer_marks : (xs ys : List Bool) → length xs ≡ length ys → ((k : ℕ) → Marked xs k → Marked ys k) → (xs ≡ ys) ⊎ (marked_count xs < marked_count ys)
fewer_marks [] [] e f = inl refl
fewer_marks [] (y ∷ ys) e f = absurd (omega arith)
fewer_marks (x ∷ xs) [] e f = absurd (omega arith)
fewer_marks (true ∷ xs) (false ∷ ys) e f = absurd (let g : Some false ≡ Some true = f 0 refl in cc)
fewer_marks (true ∷ xs) (true ∷ ys) e f =
    ⊎_elim (λ (a : xs ≡ ys). inl (ap (λ (bs : List Bool). true ∷ bs) a)) (λ (a : marked_count xs < marked_count ys). inr (omega arith))
    (fewer_marks xs ys (omega arith) (λ k m. f (suc k) m))
fewer_marks (false ∷ xs) (false ∷ ys) e f =
    ⊎_elim (λ (a : xs ≡ ys). inl (ap (λ (bs : List Bool). false ∷ bs) a)) (λ (a : marked_count xs < marked_count ys). inr (omega arith))
    (fewer_marks xs ys (omega arith) (λ k m. f (suc k) m))
fewer_marks (false ∷ xs) (true ∷ ys) e f =
    ⊎_elim (λ (a : xs ≡ ys). inr (let g : marked_count xs ≡ marked_count ys = ap marked_count a in omega arith)) (λ (a : marked_count xs < marked_count ys). inr (omega arith))
    (fewer_marks xs ys (omega arith) (λ k m. f (suc k) m))

-- ---- marks that are pushed one by one
pub marks_pushed : (P : ℕ → Type 0) (marks marks2 : List Bool) (n : ℕ) (b : Bool) → length marks ≡ n → ((p : ℕ) → p < n → Marked marks p ↔ P p) → (b ≡ true) ↔ P n
    → marks2 ≡ marks ++ b ∷ [] → (length marks2 ≡ n + 1) × ((p : ℕ) → p < n + 1 → Marked marks2 p ↔ P p)
marks_pushed P marks marks2 n b long h here is = (omega (arith, ap length is, length-append marks (b ∷ []), long), rw is each)
  where
    each : (p : ℕ) → p < n + 1 → Marked (marks ++ b ∷ []) p ↔ P p
    each p l = (
      λ m. elim (pushed_cases marks b p true m) [
        | inl old ↦ (h p (omega (arith, slice_get_within marks p true old))).0 old
        | inr new ↦ subst P (sym (new.0 ∙ long)) (here.0 (sym new.1))
      ],
      λ x. ⊎_elim (λ (a : p < n). pushed_keeps marks b p true ((h p a).1 x))
          (λ (a : n ≤ p). let e : p ≡ n = omega arith in
          let t : b ≡ true = here.1 (subst P e x) in
          rw t (ap (slice_get (marks ++ true ∷ [])) (e ∙ sym long) ∙ pushed_last marks true))
          (cases_lt p n),
    )

pub mark_at : (marks : List Bool) (p : ℕ) (b : Bool) → p < length marks → b ≡ get_or marks p b → slice_get marks p ≡ Some b
mark_at marks p b l is = slice_get-get_or marks p b l ∙ ap (λ (x : Bool). Some x) (sym is)

pub marked_read : (marks : List Bool) (p : ℕ) → p < length marks → get_or marks p false ≡ true → Marked marks p
marked_read marks p l e = slice_get-get_or marks p false l ∙ ap (λ (b : Bool). Some b) e

pub read_marked : (marks : List Bool) (p : ℕ) → Marked marks p → get_or marks p false ≡ true
read_marked marks p m = let e : Some (get_or marks p false) ≡ Some true = sym (slice_get-get_or marks p false (slice_get_within marks p true m)) ∙ m in cc

pub test_in : (d : List Row) (p : ℕ) (r : Row) (k : ℕ) (t : Range × ℕ) → IsWellFormed d → slice_get d p ≡ Some r → slice_get r.tests k ≡ Some t → t.1 < length d
test_in d p r k t h at here =
    let l : k < length r.tests = slice_get_within r.tests k t here in
    h.tests_in p r t at (k, l, (let e : Some (get_or r.tests k t) ≡ Some t = sym (slice_get-get_or r.tests k t l) ∙ here in cc))

-- ---- what holds of a state's kind, which is stored with it
pub kind_read : (K : Kind → Type 0) (d : List Row) (states : List StoredState) (p : ℕ) (s : StoredState) (kind : Kind) (b : Bool) → AreStored d states → p < length states
    → s ≡ get_or states p s → kind ≡ s.kind → (b ≡ true) ↔ K kind → (b ≡ true) ↔ IsSomeAnd (slice_get d p) (λ r. K r.kind)
kind_read K d states p s kind b are l is same told = elim (slice_get_cases d p).1 [
  | inl x ↦ (
      let at : slice_get states p ≡ Some s = slice_get-get_or states p s l ∙ ap (λ (y : StoredState). Some y) (sym is) in
      let kinds : kind ≡ x.0.kind = same ∙ (are.each p x.0 s x.2 at).kind in
      (λ t. rw x.2 (subst K kinds (told.0 t)), λ a. (let k : K x.0.kind = rw x.2 at a in told.1 (subst K (sym kinds) k))))
  | inr past ↦ absurd (omega (arith, past.0, are.same_length))
]

-- ---- states that can wait forever
module _ (d : List Row) (marks : List Bool) (n : ℕ) (stay : AreWaitingFor d n marks) (more : AreWaitingFor d (n + 1) marks) where
  -- each state that waits for n values waits for one more
  pub ever_more : (p : ℕ) → WaitsFor d n p → WaitsFor d (suc n) p
  ever_more p o = subst (λ k. WaitsFor d k p) (omega arith) ((more.each p o.0.0).0 ((stay.each p o.0.0).1 o))

-- a nonempty match leads to the state
abbrev pub Ends : List Row → ℕ → Type 0
Ends d = EndsMatch d (IsAccepting d) (λ p a. a)

-- if one is entered, there is no greatest number
pub ever_entered : (d : List Row) → IsWellFormed d → (reached marks : List Bool) → AreReached d reached → AreWaitingEver d marks → IsEntered d reached marks → IsLookahead (Accepted d) None
ever_entered d well reached marks are (n, (few, (stay, more))) entered m =
    let all = for_ever d (Ends d) n (ever_more d marks n stay more) (entered_of d well reached marks n are stay entered) m in
    (let (v, x, (a, o)) = can_opens d (IsAccepting d) (λ p a. a) m all in (v, x, o))

-- ---- `==` of marks
bits_decide : (x y : Bool) → (beq x y ≡ true → x ≡ y) × (x ≡ y → beq x y ≡ true)
bits_decide true true = (λ e. refl, λ e. refl)
bits_decide true false = (λ e. cc, λ e. cc)
bits_decide false true = (λ e. cc, λ e. cc)
bits_decide false false = (λ e. refl, λ e. refl)

pub same_marks : (xs ys : List Bool) → (pointwise beq xs ys ≡ true → xs ≡ ys) × (xs ≡ ys → pointwise beq xs ys ≡ true)
same_marks xs ys = pointwise_decides bits_decide xs ys

-- ---- the patterns that can stay open forever

-- one more state: the patterns that one of the states so far tells of
module _ (Tells : ℕ → ℕ → Type 0) (old new : List Bool) (count number : ℕ) (place : Option ℕ) where
  pub told_more : length old ≡ count
      → ((i : ℕ) → i < count → Marked old i ↔ ((p : ℕ) × ((p < number) × Tells i p)))
      → ((i : ℕ) → (place ≡ Some i) ↔ Tells i number)
      → ((i : ℕ) → i < length old → Marked new i ↔ (Marked old i ⊎ (place ≡ Some i)))
      → (i : ℕ) → i < count → Marked new i ↔ ((p : ℕ) × ((p < number + 1) × Tells i p))
  told_more long each here one i l = (
    λ m. ⊎_elim (λ (a : Marked old i). (let (p, (b, e)) = (each i l).0 a in (p, (omega arith, e))))
        (λ (a : place ≡ Some i). (number, (omega arith, (here i).0 a)))
        ((one i (omega arith)).0 m),
    λ (p, (b, e)). ⊎_elim (λ (a : p < number). (one i (omega arith)).1 (inl ((each i l).1 (p, (a, e)))))
        (λ (a : number ≤ p). let same : p ≡ number = omega arith in (one i (omega arith)).1 (inr ((here i).1 (subst (Tells i) same e))))
        (cases_lt p number),
  )

pub ever_marked : (d : List Row) → IsWellFormed d → (reached marks found : List Bool) (count : ℕ) → AreReached d reached → AreWaitingEver d marks
    → ((i : ℕ) → i < count → Marked found i ↔ ((p : ℕ) × ((p < length d) × EntersBy d reached marks i p)))
    → (i : ℕ) → i < count → Marked found i ↔ StaysOpenEver (Accepted d) (AcceptedAs d i)
ever_marked d well reached marks found count are (n, (few, (stay, more))) each i l = (
  λ m. (let (p, (b, e)) = (each i l).0 m in
      let (c, (a, o)) = by_enters d well reached marks n are stay i p e in
      λ k. can_opens d (IsAcceptingAs d i) (by_accepts d i) k (for_ever d (EndsMatch d (IsAcceptingAs d i) (by_accepts d i)) n (ever_more d marks n stay more) (p, c, (a, o)) k)),
  λ ever. (let (v, x, (b, h)) = ever (suc n) in
      let (p, c, ((a, r), o)) = can_entered d (EndsMatch d (IsAcceptingAs d i) (by_accepts d i)) n (opens_can d (IsAcceptingAs d i) (by_accepts d i) well (suc n) v x b h) in
      (each i l).1 (p, (accepting_within d p (by_accepts d i p a), enters_by d well reached marks n are stay i p c a r o))),
)
