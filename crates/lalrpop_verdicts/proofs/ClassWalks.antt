-- A walk over the classes: numbering one more state, writing one more row.
use Rattle.std.proofs.Common.{◌≡◌, ◌≢◌, ℕ, suc, zero, ◌+◌, ◌<◌, ◌≤◌, inl, inr, ⊎_elim, List, [], ◌∷◌, ◌++◌, length, refl, sym, ap, ap₂, ◌∙◌, subst, arith, get_or, set, replicate}
use Rattle.std.specs.Prelude.{slice_get, slice_index, Option, Some, None}
use Rattle.std.proofs.lemmas.Bool.{cases_lt}
use Rattle.std.proofs.lemmas.List.{length-set}
use Rattle.std.proofs.lemmas.Option.{slice_get-get_or, slice_get_within}
use Rattle.lalrpop_hir.proofs.Pushed.{pushed_cases}
use Rattle.lalrpop_hir.specs.Range.{Range}
use Rattle.lalrpop_dfa.specs.declared.Kind.TheVariants.{Accepts, Reject, Neither}
use Rattle.lalrpop_dfa.specs.Dfa.{Row, edge_target, step, after, AreAscendingTests}
use Rattle.lalrpop_dfa.proofs.AfterLaws.{after_push}
use Rattle.lalrpop_dfa.proofs.EdgeTargets.{step_of}
use Rattle.lalrpop_dfa.proofs.Marking.{along, top, by_test, by_other}
use Rattle.lalrpop_verdicts.specs.Answers.{accepted_by, answer_from}
use Rattle.lalrpop_verdicts.specs.Smallest.{edges_of}
use Rattle.lalrpop_verdicts.specs.Internal.Classes.{AreAlikeClasses}
use Rattle.lalrpop_verdicts.specs.Internal.ClassRows.{AreNumbered, IsNumberOf, AreMet, AreMetInTurn, LeadsTo, StaysInClass, LeadAlike, IsClassKind, IsClassRow, AreReached, IsWalk}
use Rattle.lalrpop_verdicts.proofs.ClassOrder.{order_more, order_start}
use Rattle.lalrpop_verdicts.proofs.Distinct.{different_below}
use Rattle.lalrpop_verdicts.proofs.PushedNumbers.{pushed_length, pushed_new, pushed_old}

-- ---- a list with one element set
set_here : {X : Type 0} (xs : List X) (i : ℕ) (y : X) → i < length xs → slice_get (set xs i y) i ≡ Some y
set_here [] i y l = absurd (omega arith)
set_here (x ∷ xs) zero y l = refl
set_here (x ∷ xs) (suc i) y l = set_here xs i y (omega arith)

set_there : {X : Type 0} (xs : List X) (i j : ℕ) (y : X) → j ≢ i → slice_get (set xs i y) j ≡ slice_get xs j
set_there [] i j y ne = refl
set_there (x ∷ xs) zero zero y ne = absurd (ne refl)
set_there (x ∷ xs) zero (suc j) y ne = refl
set_there (x ∷ xs) (suc i) zero y ne = refl
set_there (x ∷ xs) (suc i) (suc j) y ne = set_there xs i j y (λ e. ne (ap (λ n. suc n) e))

-- what is read at a place
pub read_index : (xs : List ℕ) (i p k : ℕ) → i ≡ p → p < length xs → k ≡ get_or xs i k → k ≡ slice_index xs p
read_index xs i p k e l is =
    let at : slice_get xs p ≡ Some (slice_index xs p) = slice_get-get_or xs p 0 l in
    let same : Some k ≡ Some (slice_index xs p) = ap (λ y. Some y) (is ∙ ap (λ j. get_or xs j k) e) ∙ sym (slice_get-get_or xs p k l) ∙ at in
    cc

pub read_number : (xs : List (Option ℕ)) (k : ℕ) (o : Option ℕ) → k < length xs → o ≡ get_or xs k o → slice_get xs k ≡ Some o
read_number xs k o l is = slice_get-get_or xs k o l ∙ ap (λ y. Some y) (sym is)

pub not_some : (o : Option ℕ) → ((x : ℕ) → o ≡ Some x → ⊥) → o ≡ None
not_some None none = refl
not_some (Some x) none = absurd (none x refl)

-- ---- states that are met
pub met_none : (W : ℕ → Type 0) (states : List ℕ) → AreMet W states states
met_none W states = record { longer = omega arith; kept = λ i l. refl; since = λ i l m. absurd (omega arith) }

pub met_then : (W : ℕ → Type 0) (a b c : List ℕ) → AreMet W a b → AreMet W b c → AreMet W a c
met_then W a b c g h = record {
  longer = omega (arith, g.longer, h.longer);
  kept = λ i l. h.kept i (omega (arith, l, g.longer)) ∙ g.kept i l;
  since = λ i l m.
      ⊎_elim (λ (x : i < length b). subst W (sym (h.kept i x)) (g.since i l x)) (λ (x : length b ≤ i). h.since i x m)
      (cases_lt i (length b));
}

pub met_weaker : (V W : ℕ → Type 0) (a b : List ℕ) → ((q : ℕ) → V q → W q) → AreMet V a b → AreMet W a b
met_weaker V W a b f h = record { longer = h.longer; kept = h.kept; since = λ i l m. f (slice_index b i) (h.since i l m) }

-- ---- the number of a class
module _ (classes : List ℕ) (numbers : List (Option ℕ)) (states : List ℕ) (h : AreNumbered classes numbers states) where
  pub numbered_apart : (i j : ℕ) → i < length states → j < length states → slice_index classes (slice_index states i) ≡ slice_index classes (slice_index states j) → i ≡ j
  numbered_apart i j l m e = let same : Some (Some i) ≡ Some (Some j) = sym (h.numbered i l) ∙ ap (slice_get numbers) e ∙ h.numbered j m in cc

  pub number_found : (p k n : ℕ) → k ≡ slice_index classes p → slice_get numbers k ≡ Some (Some n) → IsNumberOf classes states p n
  number_found p k n is here = (let b = h.back k n here in record { within = b.0; same = b.1 ∙ is })

  module _ (p k n : ℕ) (within : p < length classes) (is : k ≡ slice_index classes p) (none : slice_get numbers k ≡ Some None) (next : n ≡ length states) where
    more : length (states ++ p ∷ []) ≡ length states + 1
    more = pushed_length states p

    below : {A : Type 0} (i : ℕ) → i < length (states ++ p ∷ []) → ((i < length states) → A) → ((i ≡ n) → A) → A
    below i l old new = ⊎_elim old (λ (x : length states ≤ i). new (omega (arith, l, more, x, next))) (cases_lt i (length states))

    pub number_new : IsNumberOf classes (states ++ p ∷ []) p n
    number_new = record { within = omega (arith, more, next); same = ap (slice_index classes) (pushed_new states p n next) }

    pub met_new : AreMet (λ q. q ≡ p) states (states ++ p ∷ [])
    met_new = record {
      longer = omega (arith, more);
      kept = λ i l. pushed_old states p i l;
      since = λ i l m. pushed_new states p i (omega (arith, l, m, more));
    }

    pub numbered_new : AreNumbered classes (set numbers k (Some n)) (states ++ p ∷ [])
    numbered_new = record {
      room = λ q l. omega (arith, h.room q l, length-set numbers k (Some n));
      within = λ i l. below i l
          (λ m. rw (pushed_old states p i m) (h.within i m))
          (λ e. rw (pushed_new states p i (e ∙ next)) within);
      numbered = λ i l. below i l
          (λ m. rw (pushed_old states p i m)
          (set_there numbers k (slice_index classes (slice_index states i)) (Some n) (λ e. let clash : Some (Some i) ≡ Some None = sym (h.numbered i m) ∙ ap (slice_get numbers) e ∙ none in cc)
          ∙ h.numbered i m))
          (λ e. rw (pushed_new states p i (e ∙ next), ← is) (set_here numbers k (Some n) (slice_get_within numbers k None none) ∙ ap (λ j. Some (Some j)) (sym e)));
      back = back;
    }
      where
        back_other : (j m : ℕ) → j ≢ k → slice_get (set numbers k (Some n)) j ≡ Some (Some m) → (m < length (states ++ p ∷ [])) × (slice_index classes (slice_index (states ++ p ∷ []) m) ≡ j)
        back_other j m ne e =
            let b = h.back j m (sym (set_there numbers k j (Some n) ne) ∙ e) in
            (omega (arith, b.0, more), ap (slice_index classes) (pushed_old states p m b.0) ∙ b.1)

        back_here : (j m : ℕ) → j ≡ k → slice_get (set numbers k (Some n)) j ≡ Some (Some m) → (m < length (states ++ p ∷ [])) × (slice_index classes (slice_index (states ++ p ∷ []) m) ≡ j)
        back_here j m same e =
            let is_set : Some (Some n) ≡ Some (Some m) = sym (set_here numbers k (Some n) (slice_get_within numbers k None none)) ∙ ap (slice_get (set numbers k (Some n))) (sym same) ∙ e in
            let number : m ≡ n = cc in
            (omega (arith, number, more, next), ap (slice_index classes) (pushed_new states p m (number ∙ next)) ∙ sym is ∙ sym same)

        back : (j m : ℕ) → slice_get (set numbers k (Some n)) j ≡ Some (Some m) → (m < length (states ++ p ∷ [])) × (slice_index classes (slice_index (states ++ p ∷ []) m) ≡ j)
        back j m e =
            ⊎_elim (λ (x : j < k). back_other j m (omega arith) e)
            (λ (x : k ≤ j). ⊎_elim (λ (y : k < j). back_other j m (omega arith) e) (λ (y : j ≤ k). back_here j m (omega arith) e) (cases_lt k j))
            (cases_lt j k)

-- no state is met
none_there : (count k n : ℕ) → slice_get (replicate count None) k ≡ Some (Some n) → ⊥
none_there zero k n e = cc
none_there (suc count) zero n e = cc
none_there (suc count) (suc k) n e = none_there count k n e

pub numbered_none : (classes : List ℕ) (numbers : List (Option ℕ)) (count : ℕ) → numbers ≡ replicate count None → length numbers ≡ count → ((p : ℕ) → p < length classes → slice_index classes p < count)
    → AreNumbered classes numbers []
numbered_none classes numbers count is long below = record {
  room = λ p l. omega (arith, below p l, long);
  within = λ i l. absurd (omega arith);
  numbered = λ i l. absurd (omega arith);
  back = λ k n e. absurd (none_there count k n (ap (λ ns. slice_get ns k) (sym is) ∙ e));
}

-- ---- numbers stay when further states are met
module _ (W : ℕ → Type 0) (classes old new : List ℕ) (h : AreMet W old new) where
  pub number_kept : (p n : ℕ) → IsNumberOf classes old p n → IsNumberOf classes new p n
  number_kept p n is = record { within = omega (arith, is.within, h.longer); same = ap (slice_index classes) (h.kept n is.within) ∙ is.same }

  pub tests_kept : (ts us : List (Range × ℕ)) → LeadAlike classes old ts us → LeadAlike classes new ts us
  tests_kept [] [] a = tt
  tests_kept [] (u ∷ us) a = absurd a
  tests_kept (t ∷ ts) [] a = absurd a
  tests_kept (t ∷ ts) (u ∷ us) a = (a.0, number_kept t.1 u.1 a.1, tests_kept ts us a.2)

  pub row_kept : (d : List Row) (p : ℕ) (s : Row) → IsClassRow d classes old p s → IsClassRow d classes new p s
  row_kept d p s is = record {
    row = is.row;
    here = is.here;
    joined = is.joined;
    are_joined = is.are_joined;
    tests = tests_kept is.joined s.tests is.tests;
    other = number_kept is.row.other s.other is.other;
    kind = is.kind;
  }

pub tests_push : (classes states : List ℕ) (ts us : List (Range × ℕ)) (t u : Range × ℕ) → LeadAlike classes states ts us → u.0 ≡ t.0 → IsNumberOf classes states t.1 u.1
    → LeadAlike classes states (ts ++ t ∷ []) (us ++ u ∷ [])
tests_push classes states [] [] t u a same is = (same, is, tt)
tests_push classes states [] (v ∷ us) t u a same is = absurd a
tests_push classes states (r ∷ ts) [] t u a same is = absurd a
tests_push classes states (r ∷ ts) (v ∷ us) t u a same is = (a.0, a.1, tests_push classes states ts us t u a.2 same is)

-- ranges with the same ends are the same
pub range_same : (a b r s : Range) → a ≡ r → b ≡ s → b.start ≡ a.start → b.end ≡ a.end → s ≡ r
range_same a b r s p q start end = sym q ∙ ap₂ (λ x y. let t : Range = record { start = x; end = y } in t) start end ∙ p

-- ---- a row's edges
module _ (d : List Row) (classes : List ℕ) (p : ℕ) (r : Row) (at : slice_get d p ≡ Some r) where
  pub led_by_test : (k : ℕ) (t : Range × ℕ) → AreAscendingTests r.tests → slice_get r.tests k ≡ Some t → LeadsTo d p t.1
  led_by_test k t a here = (t.0.start, step_of d p t.0.start r at ∙ by_test r.tests r.other k t a here)

  pub led_by_other : LeadsTo d p r.other
  led_by_other = (top r.tests, step_of d p (top r.tests) r at ∙ by_other r.tests r.other)

  pub stays_by_edges : ((k : ℕ) (t : Range × ℕ) → slice_get r.tests k ≡ Some t → slice_index classes t.1 ≡ slice_index classes p) → slice_index classes r.other ≡ slice_index classes p
      → StaysInClass d classes p
  stays_by_edges tests other c = elim (along (λ q. q ≡ edge_target r.tests r.other c) r.tests r.other c refl) [
    | inl e ↦ ap (slice_index classes) (step_of d p c r at ∙ sym e) ∙ other
    | inr (k, t, (here, e)) ↦ ap (slice_index classes) (step_of d p c r at ∙ sym e) ∙ tests k t here
  ]

  pub stays_led : (q : ℕ) → LeadsTo d p q → StaysInClass d classes p → slice_index classes q ≡ slice_index classes p
  stays_led q led stays = ap (slice_index classes) (sym led.1) ∙ stays led.0

-- ---- kinds
module _ (d : List Row) (classes : List ℕ) (p : ℕ) (r : Row) (at : slice_get d p ≡ Some r) where
  at_end : answer_from d p [] ≡ accepted_by r.kind
  at_end = rw at refl

  pub kind_accepts : (i : ℕ) → r.kind ≡ Accepts i → IsClassKind d classes p (Accepts i)
  kind_accepts i is = record {
    accepted = sym (at_end ∙ ap accepted_by is);
    rejects = (
      λ e. absurd (let clash : Accepts i ≡ Reject = e in cc),
      λ h. absurd (let clash : None ≡ Some i = sym h.0 ∙ at_end ∙ ap accepted_by is in cc),
    );
  }

  pub kind_rejects : accepted_by r.kind ≡ None → StaysInClass d classes p → IsClassKind d classes p Reject
  kind_rejects none stays = record { accepted = sym (at_end ∙ none); rejects = (λ e. (at_end ∙ none, stays), λ h. refl) }

  pub kind_waits : accepted_by r.kind ≡ None → ¬ StaysInClass d classes p → IsClassKind d classes p Neither
  kind_waits none leaves = record {
    accepted = sym (at_end ∙ none);
    rejects = (λ e. absurd (let clash : Neither ≡ Reject = e in cc), λ h. absurd (leaves h.1));
  }

-- ---- states that words lead to
pub reached_start : (d : List Row) (classes : List ℕ) (numbers : List (Option ℕ)) (states : List ℕ) → AreAlikeClasses d classes → AreNumbered classes numbers states
    → AreMet (λ q. q ≡ 0) [] states → (n : ℕ) → IsNumberOf classes states 0 n → AreReached d classes states
reached_start d classes numbers states are numbered met n first = record {
  some = omega (arith, first.within);
  start = met.since 0 (omega arith) (omega (arith, first.within));
  within = λ i l. omega (arith, numbered.within i l, are.same_length);
  apart = numbered_apart classes numbers states numbered;
  reached = λ i l. ([], sym (met.since i (omega arith) l));
}

-- a value after a word that leads to p
pub led_further : (d : List Row) (p q : ℕ) → (w : List ℕ) × (after d w ≡ p) → LeadsTo d p q → (w : List ℕ) × (after d w ≡ q)
led_further d p q (w, e) (c, led) = (w ++ c ∷ [], after_push d w c ∙ ap (λ r. step d r c) e ∙ led)

pub reached_more : (W : ℕ → Type 0) (d : List Row) (classes : List ℕ) (numbers : List (Option ℕ)) (old new : List ℕ) → AreAlikeClasses d classes → AreReached d classes old → AreNumbered classes numbers new
    → AreMet W old new → ((q : ℕ) → W q → (w : List ℕ) × (after d w ≡ q)) → AreReached d classes new
reached_more W d classes numbers old new are h numbered met further = record {
  some = omega (arith, h.some, met.longer);
  start = met.kept 0 h.some ∙ h.start;
  within = λ i l. omega (arith, numbered.within i l, are.same_length);
  apart = numbered_apart classes numbers new numbered;
  reached = λ i l.
      ⊎_elim (λ (x : i < length old). (let (w, e) = h.reached i x in (w, e ∙ sym (met.kept i x))))
      (λ (x : length old ≤ i). further (slice_index new i) (met.since i x l))
      (cases_lt i (length old));
}

-- there are no more classes than states
pub reached_few : (d : List Row) (classes states : List ℕ) → AreReached d classes states → length states ≤ length d
reached_few d classes states h = different_below (slice_index states) (length states) (length d) h.within (λ i j l m e. h.apart i j l m (ap (slice_index classes) e))

-- ---- the walk
pub walk_start : (d : List Row) (classes : List ℕ) (numbers : List (Option ℕ)) (states : List ℕ) → AreAlikeClasses d classes → AreNumbered classes numbers states
    → AreMet (λ q. q ≡ 0) [] states → (n : ℕ) → IsNumberOf classes states 0 n → AreMetInTurn [] (n ∷ []) states → IsWalk d classes states []
walk_start d classes numbers states are numbered met n first turn = record {
  reached = reached_start d classes numbers states are numbered met n first;
  few = omega arith;
  order = order_start n states turn;
  each = λ i s e. absurd (let no : None ≡ Some s = e in cc);
}

module _ (d : List Row) (classes : List ℕ) (numbers : List (Option ℕ)) (old new : List ℕ) (rows : List Row) (p : ℕ) (s : Row) (are : AreAlikeClasses d classes) (walk : IsWalk d classes old rows)
    (numbered : AreNumbered classes numbers new) (next : length rows < length old) (is : p ≡ slice_index old (length rows)) (met : AreMet (LeadsTo d p) old new) (row : IsClassRow d classes new p s)
    (turn : AreMetInTurn old (edges_of s.tests s.other) new) where
  to_here : (w : List ℕ) × (after d w ≡ p)
  to_here = (let (w, e) = walk.reached.reached (length rows) next in (w, e ∙ sym is))

  pub walk_more : IsWalk d classes new (rows ++ s ∷ [])
  walk_more = record {
    reached = reached_more (LeadsTo d p) d classes numbers old new are walk.reached numbered met (λ q led. led_further d p q to_here led);
    few = omega (arith, pushed_length rows s, next, met.longer);
    order = order_more rows s old new walk.order next turn;
    each = each;
  }
    where
      each : (i : ℕ) (t : Row) → slice_get (rows ++ s ∷ []) i ≡ Some t → IsClassRow d classes new (slice_index new i) t
      each i t e = elim (pushed_cases rows s i t e) [
        | inl before ↦ (let l : i < length old = omega (arith, slice_get_within rows i t before, walk.few) in
            rw (met.kept i l) (row_kept (LeadsTo d p) classes old new met d (slice_index old i) t (walk.each i t before)))
        | inr (last, same) ↦ (let place : slice_index new i ≡ p = ap (slice_index new) last ∙ met.kept (length rows) next ∙ sym is in
            rw (place, same) row)
      ]
