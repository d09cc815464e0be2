-- Values between two bounds lead to where the first bound leads.
use Rattle.std.proofs.Common.{◌≡◌, ℕ, zero, suc, inl, inr, ◌⊎◌, ◌↔◌, ◌+◌, ◌<◌, ◌≤◌, List, [], ◌∷◌, ◌++◌, length, map, take, get_or, replicate, refl, sym, ap, ◌∙◌, subst, ⊎_elim, arith}
use Rattle.std.specs.Prelude.{slice_get, Some, IsSomeAnd, Vec}
use Rattle.std.specs.Global.{Global}
use Rattle.std.specs.List.{Contains}
use Rattle.std.specs.List.Sorted.{IsNonDecreasing, IsPermutation}
use Rattle.std.proofs.lemmas.Bool.{cases_lt}
use Rattle.std.proofs.lemmas.Grind.{get_or_default_zero}
use Rattle.std.proofs.lemmas.List.{get_or-map, length-replicate, map_more, take_all}
use Rattle.std.proofs.lemmas.List.Sorted.{Contains-permutation}
use Rattle.std.proofs.lemmas.Option.{slice_get_cases, slice_get_within}
use Rattle.lalrpop_hir.specs.Range.{Range, Covers}
use Rattle.lalrpop_dfa.specs.Dfa.{Row, StoredState, IsStored, edge_target, step}
use Rattle.lalrpop_dfa.specs.Stored.{EndBefore}
use Rattle.lalrpop_dfa.proofs.EdgeTargets.{leads_first, leads_later, leads_none, place_of, step_of, tests_of, the_some}
use Rattle.lalrpop_verdicts.specs.Internal.Classes.{AreColumns, AreSplit, AreTried, HasFirsts, IsBounded, IsMore, leads_of, other_at}

-- ---- elements
pub contains_cases : {X : Type 0} (v : X) (vs : List X) (x : X) → Contains (v ∷ vs) x → (v ≡ x) ⊎ Contains vs x
contains_cases v vs x (zero, l, e) = inl e
contains_cases v vs x (suc k, l, e) = inr (k, omega arith, e)

pub contains_first : {X : Type 0} (v : X) (vs : List X) → Contains (v ∷ vs) v
contains_first v vs = (0, omega arith, refl)

pub contains_later : {X : Type 0} (v : X) (vs : List X) (x : X) → Contains vs x → Contains (v ∷ vs) x
contains_later v vs x (k, l, e) = (suc k, omega arith, e)

-- ---- the greatest element that is not greater than c
abbrev pub IsGreatest : List ℕ → ℕ → ℕ → Type 0
IsGreatest vs c b = Contains vs b × (b ≤ c) × ((x : ℕ) → Contains vs x → x ≤ c → x ≤ b)

greatest : (vs : List ℕ) (c : ℕ) → ((x : ℕ) → Contains vs x → c < x) ⊎ ((b : ℕ) × IsGreatest vs c b)
greatest [] c = inl (λ x (k, l, e). absurd (omega arith))
greatest (v ∷ vs) c = joined (cases_lt c v) (greatest vs c)
  where
    joined : (c < v) ⊎ (v ≤ c) → ((x : ℕ) → Contains vs x → c < x) ⊎ ((b : ℕ) × IsGreatest vs c b) → ((x : ℕ) → Contains (v ∷ vs) x → c < x) ⊎ ((b : ℕ) × IsGreatest (v ∷ vs) c b)
    joined (inl more) (inl all) = inl (λ x m. ⊎_elim (λ (e : v ≡ x). omega arith) (λ (k : Contains vs x). all x k) (contains_cases v vs x m))
    joined (inl more) (inr (b, (m, l, most))) =
        inr (b, (contains_later v vs b m, l, λ x k less. ⊎_elim (λ (e : v ≡ x). absurd (omega arith)) (λ (i : Contains vs x). most x i less) (contains_cases v vs x k)))
    joined (inr less) (inl all) =
        inr (v, (contains_first v vs, less, λ x k low. ⊎_elim (λ (e : v ≡ x). omega arith) (λ (i : Contains vs x). let more = all x i in absurd (omega (arith, more))) (contains_cases v vs x k)))
    joined (inr less) (inr (b, (m, l, most))) =
        ⊎_elim
        (λ (up : b < v). inr (v, (contains_first v vs, less, λ x k low. ⊎_elim (λ (e : v ≡ x). omega arith) (λ (i : Contains vs x). let at = most x i low in omega (arith, at)) (contains_cases v vs x k))))
        (λ (down : v ≤ b). inr (b, (contains_later v vs b m, l, λ x k low. ⊎_elim (λ (e : v ≡ x). omega arith) (λ (i : Contains vs x). most x i low) (contains_cases v vs x k))))
        (cases_lt b v)

pub greatest_of : (vs : List ℕ) (c : ℕ) → Contains vs 0 → (b : ℕ) × IsGreatest vs c b
greatest_of vs c m = ⊎_elim (λ (all : (x : ℕ) → Contains vs x → c < x). let more = all 0 m in absurd (omega (arith, more))) (λ (b : (b : ℕ) × IsGreatest vs c b). b) (greatest vs c)

-- ---- edges
-- values that the same tests cover lead to the same state
same_target : (ts : List (Range × ℕ)) (o b c : ℕ) → ((t : Range × ℕ) → Contains ts t → Covers t.0 c ↔ Covers t.0 b) → edge_target ts o c ≡ edge_target ts o b
same_target [] o b c h = refl
same_target (t ∷ ts) o b c h =
    let rest = same_target ts o b c (λ u m. h u (contains_later t ts u m)) in
    let apart = λ (k : ¬ Covers t.0 c). leads_later t ts o c k ∙ rest ∙ sym (leads_later t ts o b (λ j. k ((h t (contains_first t ts)).1 j))) in
    ⊎_elim (λ (l : c < t.0.start). apart (λ k. omega (arith, k.0)))
    (λ (l : t.0.start ≤ c). ⊎_elim (λ (k : t.0.end < c). apart (λ j. omega (arith, j.1)))
    (λ (k : c ≤ t.0.end). leads_first t ts o c (l, k) ∙ sym (leads_first t ts o b ((h t (contains_first t ts)).0 (l, k)))) (cases_lt t.0.end c))
    (cases_lt c t.0.start)

-- a range covers c just if it covers the last bound that is not greater
covers_bound : (vs : List ℕ) (r : Range) (b c : ℕ) → IsBounded vs r → IsGreatest (4294967296 ∷ vs) c b → Covers r c ↔ Covers r b
covers_bound vs r b c h (m, l, most) = (
  λ k. (most r.start (contains_later 4294967296 vs r.start h.start) k.0, omega (arith, k.1)),
  λ k. (omega (arith, k.0), ⊎_elim (λ (x : r.end < c). let more = most (r.end + 1) h.end (omega arith) in absurd (omega (arith, more, k.1))) (λ (x : c ≤ r.end). x) (cases_lt r.end c)),
)

-- ---- the first states of the automaton
pub record HaveBounds (d : List Row) (count : ℕ) (vs : List ℕ) : Type 0 where
  pub zero : Contains vs 0
  pub each : (p : ℕ) (r : Row) (t : Range × ℕ) → p < count → slice_get d p ≡ Some r → Contains r.tests t → IsBounded vs t.0

other_of_row : (d : List Row) (p : ℕ) (r : Row) → slice_get d p ≡ Some r → other_at d p ≡ r.other
other_of_row d p r e = rw e refl

pub tried_of : (d : List Row) (vs : List ℕ) → HaveBounds d (length d) vs → AreTried d vs
tried_of d vs h = record {
  beyond = λ p l. elim (slice_get_cases d p).1 [
    | inl x ↦ step_of d p 4294967296 x.0 x.2 ∙ leads_none x.0.tests x.0.other 4294967296 (λ t m k. let b = h.each p x.0 t l x.2 m in omega (arith, b.fits, k.1)) ∙ sym (other_of_row d p x.0 x.2)
    | inr past ↦ absurd (omega (arith, past.0))
  ];
  all = λ c. (let g = greatest_of (4294967296 ∷ vs) c (contains_later 4294967296 vs 0 h.zero) in (
    g.0,
    (
      g.1.0,
      λ p l. elim (slice_get_cases d p).1 [
        | inl x ↦ step_of d p c x.0 x.2 ∙ same_target x.0.tests x.0.other g.0 c (λ t m. covers_bound vs t.0 g.0 c (h.each p x.0 t l x.2 m) g.1) ∙ sym (step_of d p g.0 x.0 x.2)
        | inr past ↦ absurd (omega (arith, past.0))
      ],
    ),
  ));
}

-- ---- values that are added
later_more : (old new : List ℕ) → IsMore old new → IsMore (4294967296 ∷ old) (4294967296 ∷ new)
later_more old new more c m = ⊎_elim (λ (e : 4294967296 ≡ c). subst (λ x. Contains (4294967296 ∷ new) x) e (contains_first 4294967296 new)) (λ (k : Contains old c). contains_later 4294967296 new c (more c k)) (contains_cases 4294967296 old c m)

still_bounded : (old new : List ℕ) (r : Range) → IsMore old new → IsBounded old r → IsBounded new r
still_bounded old new r more h = record {
  start = more r.start h.start;
  end = later_more old new more (r.end + 1) h.end;
  fits = h.fits;
}

pub bounded_last : (values : List ℕ) (r : Range) (end : ℕ) → Contains values r.start → end ≡ r.end → end ≡ 4294967295 → IsBounded values r
bounded_last values r end m e f =
    let next : 4294967296 ≡ r.end + 1 = omega arith in
    record { start = m; end = subst (λ x. Contains (4294967296 ∷ values) x) next (contains_first 4294967296 values); fits = omega arith }

pub bounded_next : (old values : List ℕ) (r : Range) (end : ℕ) → Contains old r.start → IsMore old values → end ≡ r.end → Contains values (end + 1) → end ≤ 4294967295 → IsBounded values r
bounded_next old values r end m more e n fits =
    let next : end + 1 ≡ r.end + 1 = omega arith in
    record { start = more r.start m; end = contains_later 4294967296 values (r.end + 1) (subst (λ x. Contains values x) next n); fits = omega arith }

-- ---- the edges of a state
abbrev pub AreBounded : List (Range × ℕ) → ℕ → List ℕ → Type 0
AreBounded edges n values = (k : ℕ) (t : Range × ℕ) → k < n → slice_get edges k ≡ Some t → IsBounded values t.0

pub bounded_more : (edges : List (Range × ℕ)) (old new : List ℕ) (n : ℕ) (u : Range × ℕ) → AreBounded edges n old → IsMore old new → slice_get edges n ≡ Some u → IsBounded new u.0 → AreBounded edges (n + 1) new
bounded_more edges old new n u h more at b k t l e =
    ⊎_elim (λ (s : k < n). still_bounded old new t.0 more (h k t s e))
    (λ (s : n ≤ k).
    let i : k ≡ n = omega arith in
    let same : u ≡ t = (let g : Some u ≡ Some t = sym at ∙ ap (slice_get edges) (sym i) ∙ e in cc) in
    subst (λ (x : Range × ℕ). IsBounded new x.0) same b)
    (cases_lt k n)

pub bounded_all : (edges : List (Range × ℕ)) (values : List ℕ) (n : ℕ) → AreBounded edges n values → length edges ≤ n → (t : Range × ℕ) → Contains edges t → IsBounded values t.0
bounded_all edges values n h all t m = (let p = place_of edges t m in h p.0 t (omega (arith, slice_get_within edges p.0 t p.1)) p.1)

pub bounds_none : (d : List Row) (values : List ℕ) → Contains values 0 → HaveBounds d 0 values
bounds_none d values m = record { zero = m; each = λ p r t l. absurd (omega arith) }

pub bounds_more : (d : List Row) (n : ℕ) (old new : List ℕ) (edges : List (Range × ℕ)) → HaveBounds d n old → IsMore old new → IsSomeAnd (slice_get d n) (λ r. edges ≡ r.tests)
    → ((t : Range × ℕ) → Contains edges t → IsBounded new t.0) → HaveBounds d (n + 1) new
bounds_more d n old new edges h more tests all = record {
  zero = more 0 h.zero;
  each = λ p r t l at m. ⊎_elim (λ (s : p < n). still_bounded old new t.0 more (h.each p r t s at m))
      (λ (s : n ≤ p).
      let i : p ≡ n = omega arith in
      let here : slice_get d n ≡ Some r = ap (slice_get d) (sym i) ∙ at in
      all t (subst (λ (ts : List (Range × ℕ)). Contains ts t) (sym (tests_of d n r edges here tests)) m))
      (cases_lt p n);
}

-- ---- the table of where states lead
abbrev pub AreLeadsSoFar : List Row → List ℕ → ℕ → List (Vec ℕ Global) → Type 0
AreLeadsSoFar d values n table = (length table ≡ n) × ((p : ℕ) (v : Vec ℕ Global) → slice_get table p ≡ Some v → v.items ≡ leads_of d values p)

-- ---- where ascending values lead from a state
pub along_edges : (d : List Row) (p : ℕ) (edges : List (Range × ℕ)) (s : StoredState) (other c : ℕ) → IsSomeAnd (slice_get d p) (λ r. edges ≡ r.tests) → IsSomeAnd (slice_get d p) (λ r. IsStored r s)
    → other ≡ s.other → edge_target edges other c ≡ step d p c
along_edges d p edges s other c tests at o =
    let row = the_some (slice_get d p) (λ r. IsStored r s) at in
    let same : edges ≡ row.0.tests = tests_of d p row.0 edges row.1.0 tests in
    ap (λ ts. edge_target ts other c) same ∙ ap (λ x. edge_target row.0.tests x c) (o ∙ row.1.1.other) ∙ sym (step_of d p c row.0 row.1.0)

pub targets_more : (f : ℕ → ℕ) (values old new : List ℕ) (i x : ℕ) → i < length values → old ≡ map f (take i values) → new ≡ old ++ x ∷ [] → x ≡ f (get_or values i 0) → new ≡ map f (take (i + 1) values)
targets_more f values old new i x l h e g = e ∙ ap (λ xs. xs ++ x ∷ []) h ∙ ap (λ y. map f (take i values) ++ y ∷ []) g ∙ sym (map_more f values i 0 l)

pub targets_all : (f : ℕ → ℕ) (values xs : List ℕ) (i : ℕ) → length values ≤ i → xs ≡ map f (take i values) → xs ≡ map f values
targets_all f values xs i l h = h ∙ ap (map f) (take_all i values l)

pub passed_on : (edges : List (Range × ℕ)) (place i : ℕ) (values : List ℕ) → IsNonDecreasing values → EndBefore edges place (get_or values i 0) → (j : ℕ) → i + 1 ≤ j → j < length values → EndBefore edges place (get_or values j 0)
passed_on edges place i values up h j a b k t l e = let low = up i j 0 (omega arith) b in omega (arith, h k t l e, low)

-- ---- values that lead alike from all states
zeros : (n p : ℕ) → get_or (replicate {A = ℕ} n 0) p 0 ≡ 0
zeros zero p = refl
zeros (suc n) zero = refl
zeros (suc n) (suc p) = zeros n p

pub columns_none : (d : List Row) (values firsts : List ℕ) (n : ℕ) → n ≡ length values → firsts ≡ replicate n 0 → AreColumns d 0 values firsts
columns_none d values firsts n long e = record {
  same_length = ap length e ∙ length-replicate n 0 ∙ long;
  places = rw e (record {
    least = λ p l. omega (arith, zeros n p);
    own = λ p l. zeros n (get_or (replicate n 0) p 0) ∙ sym (zeros n p);
  });
  alike = λ k p l m. absurd (omega arith);
}

pub columns_more : (d : List Row) (n : ℕ) (values firsts keys parts fs ks : List ℕ) → AreColumns d n values firsts → keys ≡ map (step d n) values → fs ≡ firsts → ks ≡ keys → AreSplit fs ks parts → AreColumns d (n + 1) values parts
columns_more d n values firsts keys parts fs ks h targets same_fs same_ks split = record {
  same_length = s.same_length ∙ h.same_length;
  places = s.places;
  alike = λ k p l m. ⊎_elim (λ (x : p < n). before k p l x) (λ (x : n ≤ p). now k p l (omega arith)) (cases_lt p n);
}
  where
    s : AreSplit firsts keys parts
    s = subst (λ (xs : List ℕ). AreSplit xs keys parts) same_fs (subst (λ (xs : List ℕ). AreSplit fs xs parts) same_ks split)

    within : (k : ℕ) → k < length values → k < length firsts
    within k l = omega (arith, h.same_length)

    part : (k : ℕ) → k < length values → get_or parts k 0 ≤ k
    part k l = s.places.least k (omega (arith, h.same_length, s.same_length))

    key_of : (j : ℕ) → j < length values → get_or keys j 0 ≡ step d n (get_or values j 0)
    key_of j l = ap (λ xs. get_or xs j 0) targets ∙ get_or-map (step d n) values j 0 0 l

    before : (k p : ℕ) → k < length values → p < n → step d p (get_or values (get_or parts k 0) 0) ≡ step d p (get_or values k 0)
    before k p l x =
        sym (h.alike (get_or parts k 0) p (omega (arith, part k l)) x) ∙ ap (λ j. step d p (get_or values j 0)) (s.same_first k (within k l)) ∙ h.alike k p l x

    now : (k p : ℕ) → k < length values → p ≡ n → step d p (get_or values (get_or parts k 0) 0) ≡ step d p (get_or values k 0)
    now k p l x = rw x (sym (key_of (get_or parts k 0) (omega (arith, part k l))) ∙ s.same_key k (within k l) ∙ key_of k l)

pub tried_firsts : (d : List Row) (values sorted firsts kept : List ℕ) → AreTried d values → IsPermutation values sorted → AreColumns d (length d) sorted firsts → HasFirsts (length firsts) sorted firsts kept → AreTried d kept
tried_firsts d values sorted firsts kept h moved columns has = record {
  beyond = h.beyond;
  all = λ c. (let t = h.all c in
      ⊎_elim (λ (x : 4294967296 ≡ t.0). (t.0, (subst (λ (y : ℕ). Contains (4294967296 ∷ kept) y) x (contains_first 4294967296 kept), t.1.1)))
      (λ (x : Contains values t.0). first c t.0 t.1.1 (Contains-permutation values sorted t.0 moved x)) (contains_cases 4294967296 values t.0 t.1.0));
}
  where
    first : (c b : ℕ) → ((p : ℕ) → p < length d → step d p c ≡ step d p b) → Contains sorted b
        → (b2 : ℕ) × (Contains (4294967296 ∷ kept) b2 × ((p : ℕ) → p < length d → step d p c ≡ step d p b2))
    first c b same (k, l, e) =
        let here : get_or sorted k 0 ≡ b = sym (get_or_default_zero sorted k b l) ∙ e in
        let long : k < length firsts = omega (arith, columns.same_length) in
        let low : get_or firsts k 0 ≤ k = columns.places.least k long in
        let own = has (get_or firsts k 0) (omega arith) (columns.places.own k long) in (
          get_or sorted (get_or firsts k 0) 0,
          (contains_later 4294967296 kept (get_or sorted (get_or firsts k 0) 0) own, λ p m. same p m ∙ ap (step d p) (sym here) ∙ sym (columns.alike k p l m)),
        )
