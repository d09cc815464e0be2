-- The automaton of the classes answers each word alike, and no automaton that does has fewer states.
use Rattle.std.proofs.Common.{◌≡◌, ℕ, suc, zero, ◌<◌, ◌≤◌, ◌⊎◌, inl, inr, List, [], ◌∷◌, ◌++◌, length, sym, ap, ◌∙◌, subst, arith, Bool, true, false}
use Rattle.std.specs.Prelude.{slice_get, slice_index, Some, None, IsSomeAnd, nat_le, ◌&&◌, if◌then◌else◌}
use Rattle.std.proofs.lemmas.Bool.{cases_lt}
use Rattle.std.proofs.lemmas.Option.{slice_get_cases, slice_get_within}
use Rattle.lalrpop_hir.specs.Range.{Range}
use Rattle.lalrpop_hir.specs.Tree.{Tree}
use Rattle.lalrpop_dfa.specs.declared.Kind.{Kind}
use Rattle.lalrpop_dfa.specs.declared.Kind.TheVariants.{Accepts, Reject, Neither}
use Rattle.lalrpop_dfa.specs.Dfa.{Row, edge_target, step, run, after, IsReject, IsRightKind, Recognizes, RecognizesAll, AreAscendingTests, IsWellFormed}
use Rattle.lalrpop_dfa.proofs.EdgeTargets.{place_of, step_of, step_within, the_some}
use Rattle.lalrpop_dfa.proofs.AfterLaws.{run_append, after_within}
use Rattle.lalrpop_verdicts.specs.Answers.{accepted_by, accepted_at, answer_from}
use Rattle.lalrpop_verdicts.specs.Smallest.{AnswerAlike, AreApart, HasFewestEdges, IsCanonical, IsSmallest, RejectsAtOnce}
use Rattle.lalrpop_verdicts.specs.Internal.Classes.{AlikeFrom, AreAlikeClasses}
use Rattle.lalrpop_verdicts.specs.Internal.ClassRows.{IsNumberOf, LeadAlike, StaysInClass, IsClassRow, AreReached, IsWalk}
use Rattle.lalrpop_verdicts.proofs.ClassOrder.{rows_in_order}
use Rattle.lalrpop_verdicts.proofs.Distinct.{different_below}
use Rattle.lalrpop_verdicts.proofs.JoinedTests.{fewest_numbers}

-- ---- tests that lead alike
either : (classes states : List ℕ) (b : Bool) (x y z v : ℕ) → IsNumberOf classes states x y → IsNumberOf classes states z v → IsNumberOf classes states (if b then x else z) (if b then y else v)
either classes states true x y z v g h = g
either classes states false x y z v g h = h

-- a value leads to the number of the class that it leads into
pub target_number : (classes states : List ℕ) (ts us : List (Range × ℕ)) (o n c : ℕ) → LeadAlike classes states ts us → IsNumberOf classes states o n → IsNumberOf classes states (edge_target ts o c) (edge_target us n c)
target_number classes states [] [] o n c h other = other
target_number classes states [] (u ∷ us) o n c h other = absurd h
target_number classes states (t ∷ ts) [] o n c h other = absurd h
target_number classes states (t ∷ ts) (u ∷ us) o n c h other =
    rw h.0 (either classes states (nat_le t.0.start c && nat_le c t.0.end) t.1 u.1 (edge_target ts o c) (edge_target us n c) h.1 (target_number classes states ts us o n c h.2 other))

alike_ascend : (classes states : List ℕ) (ts us : List (Range × ℕ)) → LeadAlike classes states ts us → AreAscendingTests ts → AreAscendingTests us
alike_ascend classes states [] [] h a = tt
alike_ascend classes states [] (u ∷ us) h a = absurd h
alike_ascend classes states (t ∷ ts) [] h a = absurd h
alike_ascend classes states (t ∷ []) (u ∷ []) h a = rw h.0 a
alike_ascend classes states (t ∷ []) (u ∷ v ∷ us) h a = absurd h.2
alike_ascend classes states (t ∷ r ∷ ts) (u ∷ []) h a = absurd h.2
alike_ascend classes states (t ∷ r ∷ ts) (u ∷ v ∷ us) h a = (
  rw h.0 a.0,
  rw (h.0, h.2.0) a.1,
  alike_ascend classes states (r ∷ ts) (v ∷ us) h.2 a.2,
)

alike_at : (classes states : List ℕ) (ts us : List (Range × ℕ)) → LeadAlike classes states ts us → (k : ℕ) (u : Range × ℕ) → slice_get us k ≡ Some u → u.1 < length states
alike_at classes states [] [] h k u e = cc
alike_at classes states [] (v ∷ us) h k u e = absurd h
alike_at classes states (t ∷ ts) [] h k u e = absurd h
alike_at classes states (t ∷ ts) (v ∷ us) h zero u e = let same : v ≡ u = cc in subst (λ (x : Range × ℕ). x.1 < length states) same h.1.within
alike_at classes states (t ∷ ts) (v ∷ us) h (suc k) u e = alike_at classes states ts us h.2 k u e

-- ---- kinds
pub right_kind : (ts : List Tree) (ps w : List ℕ) (k l : Kind) → accepted_by l ≡ accepted_by k → IsRightKind ts ps w k → IsRightKind ts ps w l
right_kind ts ps w (Accepts i) (Accepts j) e h = let same : i ≡ j = cc in subst (λ n. IsRightKind ts ps w (Accepts n)) same h
right_kind ts ps w (Accepts i) Reject e h = cc
right_kind ts ps w (Accepts i) Neither e h = cc
right_kind ts ps w Reject (Accepts j) e h = cc
right_kind ts ps w Reject Reject e h = h
right_kind ts ps w Reject Neither e h = h
right_kind ts ps w Neither (Accepts j) e h = cc
right_kind ts ps w Neither Reject e h = h
right_kind ts ps w Neither Neither e h = h

-- ---- an automaton of the classes
-- state i of e stands for the class of the state i of the list: values lead alike from both, and both accept alike
pub record IsOfClasses (d : List Row) (classes states : List ℕ) (e : List Row) : Type 0 where
  pub reached : AreReached d classes states
  pub count : length e ≡ length states
  pub steps : (i c : ℕ) → i < length e → IsNumberOf classes states (step d (slice_index states i) c) (step e i c)
  pub accepts : (i : ℕ) → i < length e → answer_from e i [] ≡ answer_from d (slice_index states i) []

module _ (d : List Row) (classes states : List ℕ) (e : List Row) (well : IsWellFormed d) (are : AreAlikeClasses d classes) (of : IsOfClasses d classes states e) where
  abbrev first : ℕ → ℕ
  first i = slice_index states i

  pub in_d : (i : ℕ) → i < length e → first i < length d
  in_d i l = of.reached.within i (omega (arith, l, of.count))

  step_in : (i c : ℕ) → i < length e → step e i c < length e
  step_in i c l = omega (arith, (of.steps i c l).within, of.count)

  run_in : (i : ℕ) (w : List ℕ) → i < length e → run e i w < length e
  run_in i [] l = l
  run_in i (c ∷ w) l = run_in (step e i c) w (step_in i c l)

  -- a state of e answers what the state by which its class was met does
  pub class_answers : (i : ℕ) (w : List ℕ) → i < length e → answer_from e i w ≡ answer_from d (first i) w
  class_answers i [] l = of.accepts i l
  class_answers i (c ∷ w) l =
      let n = step e i c in
      let there : n < length e = step_in i c l in
      class_answers n w there ∙ (are.same (first n) (step d (first i) c) (in_d n there) (step_within d (first i) c well (in_d i l))).0 (of.steps i c l).same w

  pub first_in : 0 < length e
  first_in = omega (arith, of.reached.some, of.count)

  pub class_alike : AnswerAlike d e
  class_alike w = ap (λ p. answer_from d p w) (sym of.reached.start) ∙ sym (class_answers 0 w first_in)

  -- states of e that answer alike are the same
  pub class_apart : (i j : ℕ) → i < length e → j < length e → AlikeFrom e i j → i ≡ j
  class_apart i j l m h =
      of.reached.apart i j (omega (arith, l, of.count)) (omega (arith, m, of.count))
      ((are.same (first i) (first j) (in_d i l) (in_d j m)).1 (λ w. sym (class_answers i w l) ∙ h w ∙ class_answers j w m))

  on : (a : List Row) (p : ℕ) (v w : List ℕ) → answer_from a p (v ++ w) ≡ answer_from a (run a p v) w
  on a p v w = ap (λ q. accepted_at (slice_get a q)) (run_append a p v w)

  -- each state of e is reached
  pub class_reached : (i : ℕ) → i < length e → (w : List ℕ) × (after e w ≡ i)
  class_reached i l = (let (v, led) = of.reached.reached i (omega (arith, l, of.count)) in (
    v,
    class_apart (after e v) i (run_in 0 v first_in) l (λ w.
        sym (on e 0 v w) ∙ sym (class_alike (v ++ w)) ∙ on d 0 v w ∙ ap (λ p. answer_from d p w) led ∙ sym (class_answers i w l)),
  ))

  pub class_smallest : IsSmallest e
  class_smallest f fits alike = different_below there (length e) (length f) there_in there_one
    where
      -- a word of the state, and the state of f after it
      word_at : (i : ℕ) → (i < length e) ⊎ (length e ≤ i) → List ℕ
      word_at i (inl l) = (class_reached i l).0
      word_at i (inr l) = []

      word_to : ℕ → List ℕ
      word_to i = word_at i (cases_lt i (length e))

      leads_at : (i : ℕ) → i < length e → (o : (i < length e) ⊎ (length e ≤ i)) → after e (word_at i o) ≡ i
      leads_at i l (inl m) = (class_reached i m).1
      leads_at i l (inr m) = absurd (omega arith)

      leads : (i : ℕ) → i < length e → after e (word_to i) ≡ i
      leads i l = leads_at i l (cases_lt i (length e))

      there : ℕ → ℕ
      there i = after f (word_to i)

      there_in : (i : ℕ) → i < length e → there i < length f
      there_in i l = after_within f (word_to i) fits

      answers : (i : ℕ) → i < length e → (v : List ℕ) → answer_from e i v ≡ answer_from f (there i) v
      answers i l v =
          ap (λ p. answer_from e p v) (sym (leads i l)) ∙ sym (on e 0 (word_to i) v) ∙ alike (word_to i ++ v) ∙ on f 0 (word_to i) v

      there_one : (i j : ℕ) → i < length e → j < length e → there i ≡ there j → i ≡ j
      there_one i j l m same = class_apart i j l m (λ v. answers i l v ∙ ap (λ p. answer_from f p v) same ∙ sym (answers j m v))

-- ---- the automaton whose rows a walk over the classes has written
module _ (d : List Row) (classes states : List ℕ) (e : List Row) (well : IsWellFormed d) (are : AreAlikeClasses d classes) (walk : IsWalk d classes states e) (all : length e ≡ length states) where
  row_at : (i : ℕ) → i < length e → (s : Row) × ((slice_get e i ≡ Some s) × IsClassRow d classes states (slice_index states i) s)
  row_at i l = elim (slice_get_cases e i).1 [
    | inl x ↦ (x.0, (x.2, walk.each i x.0 x.2))
    | inr past ↦ absurd (omega (arith, past.0))
  ]

  row_step : (i c : ℕ) → i < length e → IsNumberOf classes states (step d (slice_index states i) c) (step e i c)
  row_step i c l = (let (s, (there, is)) = row_at i l in
      let number = target_number classes states is.joined s.tests is.row.other s.other c is.tests is.other in
      rw (step_of e i c s there, step_of d (slice_index states i) c is.row is.here) (record { within = number.within; same = number.same ∙ is.are_joined.alike c }))

  row_accepts : (i : ℕ) → i < length e → answer_from e i [] ≡ answer_from d (slice_index states i) []
  row_accepts i l = (let (s, (there, is)) = row_at i l in rw there is.kind.accepted)

  of_walk : IsOfClasses d classes states e
  of_walk = record { reached = walk.reached; count = all; steps = row_step; accepts = row_accepts }

  pub walk_alike : AnswerAlike d e
  walk_alike = class_alike d classes states e well are of_walk

  pub walk_smallest : IsSmallest e
  walk_smallest = class_smallest d classes states e well are of_walk

  -- ---- what rejects
  -- from a state of a class that no value leads out of, nothing is accepted if nothing is there
  dead_class : (p : ℕ) → p < length d → answer_from d p [] ≡ None → StaysInClass d classes p → (w : List ℕ) → answer_from d p w ≡ None
  dead_class p l none stays [] = none
  dead_class p l none stays (c ∷ w) =
      (are.same (step d p c) p (step_within d p c well l) l).0 (stays c) w ∙ dead_class p l none stays w

  stays_dead : (p : ℕ) → p < length d → ((w : List ℕ) → answer_from d p w ≡ None) → StaysInClass d classes p
  stays_dead p l dead c = (are.same (step d p c) p (step_within d p c well l) l).1 (λ w. dead (c ∷ w) ∙ sym (dead w))

  walk_in : (i : ℕ) → i < length e → slice_index states i < length d
  walk_in i l = walk.reached.within i (omega (arith, l, all))

  pub walk_rejects : RejectsAtOnce e
  walk_rejects i s here =
      let l : i < length e = slice_get_within e i s here in
      let is = walk.each i s here in (
        λ k w. (let (none, stays) = is.kind.rejects.0 k in class_answers d classes states e well are of_walk i w l ∙ dead_class (slice_index states i) (walk_in i l) none stays w),
        λ dead.
            let d_dead : (w : List ℕ) → answer_from d (slice_index states i) w ≡ None = λ w. sym (class_answers d classes states e well are of_walk i w l) ∙ dead w in
            is.kind.rejects.1 (d_dead [], stays_dead (slice_index states i) (walk_in i l) d_dead),
      )

  -- ---- e's edges are as few as can be
  walk_fewest : HasFewestEdges e
  walk_fewest i s here = (let is = walk.each i s here in fewest_numbers classes states is.joined s.tests is.row.other s.other is.tests is.other is.are_joined.few)

  -- ---- e is well formed
  pub walk_well : IsWellFormed e
  walk_well = record {
    some = omega (arith, walk.reached.some, all);
    ascending = λ i s here. (let is = walk.each i s here in alike_ascend classes states is.joined s.tests is.tests is.are_joined.ascending);
    tests_in = λ i s u here has.
        (let is = walk.each i s here in
        let (k, there) = place_of s.tests u has in
        omega (arith, alike_at classes states is.joined s.tests is.tests k u there, all));
    others_in = λ i s here. omega (arith, (walk.each i s here).other.within, all);
  }

  -- ---- e is one of a kind
  walk_apart : AreApart e
  walk_apart i j l m h = class_apart d classes states e well are of_walk i j l m h

  pub walk_canonical : IsCanonical e
  walk_canonical = record {
    well_formed = walk_well;
    rejects = walk_rejects;
    edges = walk_fewest;
    apart = walk_apart;
    order = rows_in_order e (length states) walk.order;
  }

-- ---- what is recognized
-- an automaton that answers alike, and in which a state rejects exactly if it is dead
module _ (d e : List Row) (fits : IsWellFormed e) (alike : AnswerAlike d e) (rejects : RejectsAtOnce e) where
  reject_stays : (p c : ℕ) → IsReject e p → IsReject e (step e p c)
  reject_stays p c j =
      let (s, (here, kind)) = the_some (slice_get e p) (λ r. r.kind ≡ Reject) j in
      let l : p < length e = slice_get_within e p s here in
      elim (slice_get_cases e (step e p c)).1 [
        | inl x ↦ rw x.2 ((rejects (step e p c) x.0 x.2).1 (λ w. (rejects p s here).0 kind (c ∷ w)))
        | inr past ↦ absurd (omega (arith, past.0, step_within e p c fits l))
      ]

  kinds_right : (ts : List Tree) (ps w : List ℕ) → IsSomeAnd (slice_get d (after d w)) (λ r. IsRightKind ts ps w r.kind) → IsSomeAnd (slice_get e (after e w)) (λ r. IsRightKind ts ps w r.kind)
  kinds_right ts ps w right =
      let (r, (at, is)) = the_some (slice_get d (after d w)) (λ x. IsRightKind ts ps w x.kind) right in
      elim (slice_get_cases e (after e w)).1 [
        | inl x ↦ (let same : accepted_by x.0.kind ≡ accepted_by r.kind = ap accepted_at (sym x.2) ∙ sym (alike w) ∙ ap accepted_at at in
            rw x.2 (right_kind ts ps w r.kind x.0.kind same is))
        | inr past ↦ absurd (omega (arith, past.0, after_within e w fits))
      ]

  pub alike_recognizes : (ts : List Tree) (ps : List ℕ) → Recognizes d ts ps → Recognizes e ts ps
  alike_recognizes ts ps h = record { kinds = λ w is. kinds_right ts ps w (h.kinds w is); stays = λ p c l. reject_stays p c }

  pub alike_recognizes_all : (ts : List Tree) (ps : List ℕ) → RecognizesAll d ts ps → RecognizesAll e ts ps
  alike_recognizes_all ts ps h = record { kinds = λ w. kinds_right ts ps w (h.kinds w); stays = reject_stays }
