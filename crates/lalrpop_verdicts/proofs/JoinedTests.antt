-- Tests that are joined where they lead into one class, as the tests are added one by one.
use Rattle.std.proofs.Common.{◌≡◌, ℕ, suc, zero, ◌+◌, ◌<◌, ◌≤◌, ◌⊎◌, inl, inr, ⊎_elim, List, [], ◌∷◌, ◌++◌, length, take, refl, sym, ap, ◌∙◌, subst, arith, Bool, true, false}
use Rattle.std.specs.Prelude.{slice_get, slice_index, Option, Some, IsSomeAnd, nat_le, ◌&&◌, if◌then◌else◌}
use Rattle.std.proofs.lemmas.Bool.{cases_lt}
use Rattle.std.proofs.lemmas.Option.{slice_get_within}
use Rattle.lalrpop_hir.proofs.Pushed.{pushed_cases, pushed_keeps, pushed_last}
use Rattle.lalrpop_hir.specs.Range.{Range, Covers}
use Rattle.lalrpop_dfa.specs.Dfa.{Row, edge_target, AreAscendingTests, IsWellFormed}
use Rattle.lalrpop_dfa.proofs.EdgeTargets.{place_of, before_at, has_value_at, leads_first, leads_later, leads_none, the_some}
use Rattle.lalrpop_dfa.proofs.Marking.{row_tests, test_in}
use Rattle.lalrpop_verdicts.specs.Smallest.{AreFewestTests}
use Rattle.lalrpop_verdicts.specs.Internal.ClassRows.{AreFewTests, AreJoined, IsAdded, IsBehind, IsNumberOf, LeadAlike, LeadsTo}
use Rattle.lalrpop_verdicts.proofs.ClassWalks.{led_by_test}

-- ---- ascending tests
pub ascend_take : (ts : List (Range × ℕ)) (n : ℕ) → AreAscendingTests ts → AreAscendingTests (take n ts)
ascend_take [] zero a = tt
ascend_take [] (suc n) a = tt
ascend_take (t ∷ ts) zero a = tt
ascend_take (t ∷ []) (suc zero) a = a
ascend_take (t ∷ []) (suc (suc n)) a = a
ascend_take (t ∷ u ∷ ts) (suc zero) a = a.0
ascend_take (t ∷ u ∷ ts) (suc (suc n)) a = (a.0, a.1, ascend_take (u ∷ ts) (suc n) a.2)

ascend_push : (us : List (Range × ℕ)) (t : Range × ℕ) → AreAscendingTests us → t.0.start ≤ t.0.end → ((k : ℕ) (u : Range × ℕ) → slice_get us k ≡ Some u → u.0.end < t.0.start) → AreAscendingTests (us ++ t ∷ [])
ascend_push [] t a some before = some
ascend_push (u ∷ []) t a some before = (a, before 0 u refl, some)
ascend_push (u ∷ v ∷ us) t a some before = (a.0, a.1, ascend_push (v ∷ us) t a.2 some (λ k w e. before (suc k) w e))

ascend_last : (front : List (Range × ℕ)) (last t : Range × ℕ) → t.0.start ≡ last.0.start → t.0.start ≤ t.0.end → AreAscendingTests (front ++ last ∷ []) → AreAscendingTests (front ++ t ∷ [])
ascend_last [] last t start some a = some
ascend_last (u ∷ []) last t start some a = (a.0, omega (arith, a.1, start), some)
ascend_last (u ∷ v ∷ front) last t start some a = (a.0, a.1, ascend_last (v ∷ front) last t start some a.2)

pub taken_get : (ts : List (Range × ℕ)) (n j : ℕ) (t : Range × ℕ) → slice_get (take n ts) j ≡ Some t → slice_get ts j ≡ Some t
taken_get [] zero j t e = cc
taken_get [] (suc n) j t e = cc
taken_get (s ∷ ts) zero j t e = absurd (cc)
taken_get (s ∷ ts) (suc n) zero t e = e
taken_get (s ∷ ts) (suc n) (suc j) t e = taken_get ts n j t e

-- ---- what holds of the row that is there
pub of_row : (o : Option Row) (r : Row) (P : Row → Type 0) → o ≡ Some r → IsSomeAnd o P → P r
of_row o r P e h = subst (λ x. IsSomeAnd x P) e h

pub at_row : (o : Option Row) (r : Row) (P : Row → Type 0) → o ≡ Some r → P r → IsSomeAnd o P
at_row o r P e h = rw e h

-- ---- where a value leads
pushed_target : (ts : List (Range × ℕ)) (t : Range × ℕ) (o c : ℕ) → edge_target (ts ++ t ∷ []) o c ≡ edge_target ts (edge_target (t ∷ []) o c) c
pushed_target [] t o c = refl
pushed_target (s ∷ ts) t o c = ap (λ x. if nat_le s.0.start c && nat_le c s.0.end then s.1 else x) (pushed_target ts t o c)

covers_or : (r : Range) (c : ℕ) → Covers r c ⊎ (¬ Covers r c)
covers_or r c =
    ⊎_elim (λ (l : c < r.start). inr (λ h. omega (arith, h.0)))
    (λ (l : r.start ≤ c). ⊎_elim (λ (m : r.end < c). inr (λ h. omega (arith, h.1))) (λ (m : c ≤ r.end). inl (l, m)) (cases_lt r.end c))
    (cases_lt c r.start)

none_before : (ts : List (Range × ℕ)) (b o c : ℕ) → ((k : ℕ) (t : Range × ℕ) → slice_get ts k ≡ Some t → t.0.end < b) → b ≤ c → edge_target ts o c ≡ o
none_before ts b o c before l = leads_none ts o c (λ t m h. let (k, at) = place_of ts t m in omega (arith, before k t at, h.1))

module _ (f : ℕ → ℕ) where
  same_if : (b : Bool) (x y z : ℕ) → f x ≡ f y → f (if b then z else x) ≡ f (if b then z else y)
  same_if true x y z e = refl
  same_if false x y z e = e

  alike_under : (ts : List (Range × ℕ)) (x y c : ℕ) → f x ≡ f y → f (edge_target ts x c) ≡ f (edge_target ts y c)
  alike_under [] x y c e = e
  alike_under (s ∷ ts) x y c e = same_if (nat_le s.0.start c && nat_le c s.0.end) (edge_target ts x c) (edge_target ts y c) s.1 (alike_under ts x y c e)

module _ (f : ℕ → ℕ) (o : ℕ) where
  few_push : (us : List (Range × ℕ)) (t : Range × ℕ) → AreFewTests f o us → ¬ (f t.1 ≡ f o)
      → ((front : List (Range × ℕ)) (last : Range × ℕ) → us ≡ front ++ last ∷ [] → t.0.start ≡ last.0.end + 1 → ¬ (f t.1 ≡ f last.1)) → AreFewTests f o (us ++ t ∷ [])
  few_push [] t h other apart = other
  few_push (u ∷ []) t h other apart = (h, apart [] u refl, other)
  few_push (u ∷ v ∷ us) t h other apart = (h.0, h.1, few_push (v ∷ us) t h.2 other (λ front last e. apart (u ∷ front) last (ap (λ (x : List (Range × ℕ)). u ∷ x) e)))

  few_last : (front : List (Range × ℕ)) (last t : Range × ℕ) → t.0.start ≡ last.0.start → f t.1 ≡ f last.1 → AreFewTests f o (front ++ last ∷ []) → AreFewTests f o (front ++ t ∷ [])
  few_last [] last t start same h = λ e. h (sym same ∙ e)
  few_last (u ∷ []) last t start same h = (h.0, λ touches e. h.1 (sym start ∙ touches) (sym same ∙ e), λ e. h.2 (sym same ∙ e))
  few_last (u ∷ v ∷ front) last t start same h = (h.0, h.1, few_last (v ∷ front) last t start same h.2)

  pub joined_none : AreJoined f o [] []
  joined_none = record { alike = λ c. refl; ascending = tt; few = tt; each = λ k u e. absurd (cc) }

  module _ (ts us : List (Range × ℕ)) (t : Range × ℕ) (rising : AreAscendingTests (ts ++ t ∷ [])) (h : AreJoined f o ts us) where
    some : t.0.start ≤ t.0.end
    some = has_value_at (ts ++ t ∷ []) rising (length ts) t (pushed_last ts t)

    given_before : (k : ℕ) (r : Range × ℕ) → slice_get ts k ≡ Some r → r.0.end < t.0.start
    given_before k r e = before_at (ts ++ t ∷ []) rising k (length ts) r t (slice_get_within ts k r e) (pushed_keeps ts t k r e) (pushed_last ts t)

    before : (k : ℕ) (u : Range × ℕ) → slice_get us k ≡ Some u → u.0.end < t.0.start
    before k u e = (let (j, r, at, end, to) = h.each k u e in omega (arith, given_before j r at, end))

    abbrev Ends : Range × ℕ → Type 0
    Ends u = (j : ℕ) × (r : Range × ℕ) × (slice_get (ts ++ t ∷ []) j ≡ Some r) × (r.0.end ≡ u.0.end) × (r.1 ≡ u.1)

    kept : (k : ℕ) (u : Range × ℕ) → slice_get us k ≡ Some u → Ends u
    kept k u e = (let (j, r, at, end, to) = h.each k u e in (j, r, pushed_keeps ts t j r at, end, to))

    -- where a value leads that the test covers, and where any other does
    here : (c : ℕ) → Covers t.0 c → edge_target (ts ++ t ∷ []) o c ≡ t.1
    here c in_it = pushed_target ts t o c ∙ ap (λ x. edge_target ts x c) (leads_first t [] o c in_it) ∙ none_before ts t.0.start t.1 c given_before in_it.0

    elsewhere : (c : ℕ) → ¬ Covers t.0 c → edge_target (ts ++ t ∷ []) o c ≡ edge_target ts o c
    elsewhere c out = pushed_target ts t o c ∙ ap (λ x. edge_target ts x c) (leads_later t [] o c out)

    pub joined_skip : f t.1 ≡ f o → AreJoined f o (ts ++ t ∷ []) us
    joined_skip same = record {
      alike = λ c. h.alike c ∙ alike_under f ts o (edge_target (t ∷ []) o c) c (sym (same_if_other c)) ∙ ap f (sym (pushed_target ts t o c));
      ascending = h.ascending;
      few = h.few;
      each = kept;
    }
      where
        same_if_other : (c : ℕ) → f (edge_target (t ∷ []) o c) ≡ f o
        same_if_other c = ⊎_elim (λ (i : Covers t.0 c). ap f (leads_first t [] o c i) ∙ same) (λ (n : ¬ Covers t.0 c). ap f (leads_later t [] o c n)) (covers_or t.0 c)

    pub joined_behind : (vs : List (Range × ℕ)) → ¬ (f t.1 ≡ f o) → IsBehind f us t vs → AreJoined f o (ts ++ t ∷ []) vs
    joined_behind vs other is = rw is.now (record {
      alike = λ c. ⊎_elim
          (λ (i : Covers t.0 c). ap f (pushed_target us t o c ∙ ap (λ x. edge_target us x c) (leads_first t [] o c i) ∙ none_before us t.0.start t.1 c before i.0 ∙ sym (here c i)))
          (λ (n : ¬ Covers t.0 c). ap f (pushed_target us t o c ∙ ap (λ x. edge_target us x c) (leads_later t [] o c n)) ∙ h.alike c ∙ ap f (sym (elsewhere c n)))
          (covers_or t.0 c);
      ascending = ascend_push us t h.ascending some before;
      few = few_push us t h.few other is.apart;
      each = λ k u e. each k u (pushed_cases us t k u e);
    })
      where
        each : (k : ℕ) (u : Range × ℕ) → (slice_get us k ≡ Some u) ⊎ ((k ≡ length us) × (u ≡ t)) → Ends u
        each k u (inl e) = kept k u e
        each k u (inr e) = (length ts, t, pushed_last ts t, ap (λ (x : Range × ℕ). x.0.end) (sym e.1), ap (λ (x : Range × ℕ). x.1) (sym e.1))

    module _ (front : List (Range × ℕ)) (last : Range × ℕ) (was : us ≡ front ++ last ∷ []) (touches : t.0.start ≡ last.0.end + 1) (same : f t.1 ≡ f last.1) where
      abbrev pub long : Range × ℕ
      long = (record { start = last.0.start; end = t.0.end }, t.1)

      in_front : (k : ℕ) (u : Range × ℕ) → slice_get front k ≡ Some u → slice_get us k ≡ Some u
      in_front k u e = rw was (pushed_keeps front last k u e)

      last_some : last.0.start ≤ last.0.end
      last_some = has_value_at us h.ascending (length front) last (rw was (pushed_last front last))

      ends : (c : ℕ) → ¬ Covers t.0 c → f (edge_target (long ∷ []) o c) ≡ f (edge_target (last ∷ []) o c)
      ends c out = ⊎_elim
          (λ (i : Covers last.0 c). ap f (leads_first long [] o c (i.0, omega (arith, i.1, touches, some))) ∙ same ∙ ap f (sym (leads_first last [] o c i)))
          (λ (n : ¬ Covers last.0 c). ap f (leads_later long [] o c (λ (g : Covers long.0 c). elim (cases_lt last.0.end c) [
            | inl above ↦ out (omega (arith, above, touches), g.1)
            | inr below ↦ n (g.0, below)
          ]) ∙ sym (leads_later last [] o c n)))
          (covers_or last.0 c)

      pub joined_longer : AreJoined f o (ts ++ t ∷ []) (front ++ long ∷ [])
      joined_longer = record {
        alike = λ c. ⊎_elim
            (λ (i : Covers t.0 c). ap f (pushed_target front long o c ∙ ap (λ x. edge_target front x c) (leads_first long [] o c (omega (arith, i.0, touches, last_some), i.1))
            ∙ none_before front t.0.start t.1 c (λ k u e. before k u (in_front k u e)) i.0 ∙ sym (here c i)))
            (λ (n : ¬ Covers t.0 c). ap f (pushed_target front long o c) ∙ alike_under f front (edge_target (long ∷ []) o c) (edge_target (last ∷ []) o c) c (ends c n)
            ∙ ap f (sym (pushed_target front last o c)) ∙ ap (λ (x : List (Range × ℕ)). f (edge_target x o c)) (sym was) ∙ h.alike c ∙ ap f (sym (elsewhere c n)))
            (covers_or t.0 c);
        ascending = ascend_last front last long refl (omega (arith, last_some, touches, some)) (rw (← was) h.ascending);
        few = few_last front last long refl same (rw (← was) h.few);
        each = λ k u e. each k u (pushed_cases front long k u e);
      }
        where
          each : (k : ℕ) (u : Range × ℕ) → (slice_get front k ≡ Some u) ⊎ ((k ≡ length front) × (u ≡ long)) → Ends u
          each k u (inl e) = kept k u (in_front k u e)
          each k u (inr e) = (length ts, t, pushed_last ts t, ap (λ (x : Range × ℕ). x.0.end) (sym e.1), ap (λ (x : Range × ℕ). x.1) (sym e.1))

    pub joined_added : (vs : List (Range × ℕ)) → ¬ (f t.1 ≡ f o) → IsAdded f us t vs → AreJoined f o (ts ++ t ∷ []) vs
    joined_added vs other (inl is) = rw is.now (joined_longer is.front is.last is.was is.touches is.same)
    joined_added vs other (inr is) = joined_behind vs other is

-- ---- where joined tests of a state lead
module _ (d : List Row) (p : ℕ) (f : ℕ → ℕ) (us : List (Range × ℕ)) (well : IsWellFormed d) where
  pub joined_within : (ts : List (Range × ℕ)) (n : ℕ) → IsSomeAnd (slice_get d p) (λ x. ts ≡ x.tests) → IsSomeAnd (slice_get d p) (λ x. AreJoined f x.other (take n ts) us)
      → (k : ℕ) (u : Range × ℕ) → slice_get us k ≡ Some u → u.1 < length d
  joined_within ts n is joined k u e =
      let r = row_tests d p ts is in
      let done = of_row (slice_get d p) r.0 (λ x. AreJoined f x.other (take n ts) us) r.1.0 joined in
      let (j, s, there, end, to) = done.each k u e in
      let at : slice_get r.0.tests j ≡ Some s = ap (λ (x : List (Range × ℕ)). slice_get x j) (sym r.1.1) ∙ taken_get ts n j s there in
      omega (arith, test_in d p r.0 j s well r.1.0 at, to)

  pub joined_led : IsSomeAnd (slice_get d p) (λ x. AreJoined f x.other x.tests us) → (k : ℕ) (u : Range × ℕ) → slice_get us k ≡ Some u → (u.1 < length d) × LeadsTo d p u.1
  joined_led joined k u e =
      let r = the_some (slice_get d p) (λ x. AreJoined f x.other x.tests us) joined in
      let (j, s, there, end, to) = r.1.1.each k u e in (
        omega (arith, test_in d p r.0 j s well r.1.0 there, to),
        subst (LeadsTo d p) to (led_by_test d [] p r.0 r.1.0 j s (well.ascending p r.0 r.1.0) there),
      )

-- ---- the numbers of the classes
module _ (classes states : List ℕ) where
  same_class : (p q n m : ℕ) → IsNumberOf classes states p n → IsNumberOf classes states q m → n ≡ m → slice_index classes p ≡ slice_index classes q
  same_class p q n m g h e = sym g.same ∙ ap (λ i. slice_index classes (slice_index states i)) e ∙ h.same

  pub fewest_numbers : (ts us : List (Range × ℕ)) (o n : ℕ) → LeadAlike classes states ts us → IsNumberOf classes states o n → AreFewTests (slice_index classes) o ts → AreFewestTests n us
  fewest_numbers [] [] o n a other few = tt
  fewest_numbers [] (u ∷ us) o n a other few = absurd a
  fewest_numbers (t ∷ ts) [] o n a other few = absurd a
  fewest_numbers (t ∷ []) (u ∷ []) o n a other few = λ e. few (same_class t.1 o u.1 n a.1 other e)
  fewest_numbers (t ∷ []) (u ∷ v ∷ us) o n a other few = absurd a.2
  fewest_numbers (t ∷ s ∷ ts) (u ∷ []) o n a other few = absurd a.2
  fewest_numbers (t ∷ s ∷ ts) (u ∷ v ∷ us) o n a other few = (
    λ e. few.0 (same_class t.1 o u.1 n a.1 other e),
    λ touches e. few.1
        (ap (λ (r : Range). r.start) (sym a.2.0) ∙ touches ∙ ap (λ (r : Range). r.end + 1) a.0)
        (same_class s.1 t.1 v.1 u.1 a.2.1 a.1 e),
    fewest_numbers (s ∷ ts) (v ∷ us) o n a.2 other few.2,
  )
