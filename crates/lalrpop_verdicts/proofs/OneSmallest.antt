-- The smallest automaton is one of a kind: two of these that answer each word alike have equally many states, and at each number
-- states of one kind, with the same test edges and the same other edge.
use Rattle.std.proofs.Common.{◌≡◌, ℕ, suc, zero, ◌+◌, ◌<◌, ◌≤◌, ◌⊎◌, inl, inr, ⊎_elim, List, [], ◌∷◌, length, refl, sym, ap, ap₂, ◌∙◌, subst, arith}
use Rattle.std.specs.Prelude.{slice_get, Some}
use Rattle.std.proofs.lemmas.Bool.{cases_lt}
use Rattle.std.proofs.lemmas.Option.{slice_get_cases, slice_get_within}
use Rattle.lalrpop_hir.specs.Range.{Range}
use Rattle.lalrpop_dfa.specs.declared.Kind.{Kind}
use Rattle.lalrpop_dfa.specs.declared.Kind.TheVariants.{Accepts, Reject, Neither}
use Rattle.lalrpop_dfa.specs.Dfa.{Row, edge_target, step, AreAscendingTests}
use Rattle.lalrpop_dfa.proofs.EdgeTargets.{place_of, before_at, has_value_at, leads_first, leads_later, leads_none, step_of, step_within}
use Rattle.lalrpop_dfa.proofs.Marking.{top, top_above}
use Rattle.lalrpop_verdicts.specs.Answers.{accepted_by, accepted_at, answer_from}
use Rattle.lalrpop_verdicts.specs.Smallest.{AnswerAlike, AreFewestTests, AreNext, IsCanonical, edges_of}

-- ---- ascending tests that are few
first_some : (t : Range × ℕ) (ts : List (Range × ℕ)) → AreAscendingTests (t ∷ ts) → t.0.start ≤ t.0.end
first_some t ts a = has_value_at (t ∷ ts) a 0 t refl

rest_ascends : (t : Range × ℕ) (ts : List (Range × ℕ)) → AreAscendingTests (t ∷ ts) → AreAscendingTests ts
rest_ascends t [] a = tt
rest_ascends t (u ∷ ts) a = a.2

first_few : (o : ℕ) (t : Range × ℕ) (ts : List (Range × ℕ)) → AreFewestTests o (t ∷ ts) → ¬ (t.1 ≡ o)
first_few o t [] few = few
first_few o t (u ∷ ts) few = few.0

rest_few : (o : ℕ) (t : Range × ℕ) (ts : List (Range × ℕ)) → AreFewestTests o (t ∷ ts) → AreFewestTests o ts
rest_few o t [] few = tt
rest_few o t (u ∷ ts) few = few.2

after_first : (t : Range × ℕ) (ts : List (Range × ℕ)) (o c : ℕ) → AreAscendingTests (t ∷ ts) → c ≤ t.0.end → edge_target ts o c ≡ o
after_first t ts o c a l = leads_none ts o c (λ u m h. let (k, at) = place_of ts u m in omega (arith, before_at (t ∷ ts) a 0 (suc k) t u (omega arith) refl at, h.0))

before_first : (t : Range × ℕ) (ts : List (Range × ℕ)) (o c : ℕ) → AreAscendingTests (t ∷ ts) → c < t.0.start → edge_target (t ∷ ts) o c ≡ o
before_first t ts o c a l = leads_later t ts o c (λ h. omega (arith, l, h.0)) ∙ after_first t ts o c a (omega (arith, l, first_some t ts a))

at_first : (t : Range × ℕ) (ts : List (Range × ℕ)) (o : ℕ) → AreAscendingTests (t ∷ ts) → edge_target (t ∷ ts) o t.0.start ≡ t.1
at_first t ts o a = leads_first t ts o t.0.start (omega arith, first_some t ts a)

behind_first : (t : Range × ℕ) (ts : List (Range × ℕ)) (o c : ℕ) → t.0.end < c → edge_target (t ∷ ts) o c ≡ edge_target ts o c
behind_first t ts o c l = leads_later t ts o c (λ h. omega (arith, l, h.1))

-- the value right after a test leads elsewhere
next_elsewhere : (t : Range × ℕ) (ts : List (Range × ℕ)) (o : ℕ) → AreAscendingTests (t ∷ ts) → AreFewestTests o (t ∷ ts) → ¬ (edge_target ts o (t.0.end + 1) ≡ t.1)
next_elsewhere t [] o a few e = few (sym e)
next_elsewhere t (v ∷ ts) o a few e =
    ⊎_elim (λ (l : t.0.end + 1 < v.0.start). few.0 (sym e ∙ before_first v ts o (t.0.end + 1) a.2 l))
    (λ (l : v.0.start ≤ t.0.end + 1).
    let touches : v.0.start ≡ t.0.end + 1 = omega (arith, l, a.1) in
    few.1 touches (sym (ap (edge_target (v ∷ ts) o) (sym touches) ∙ at_first v ts o a.2) ∙ e))
    (cases_lt (t.0.end + 1) v.0.start)

above_all : (ts : List (Range × ℕ)) (o c : ℕ) → top ts ≤ c → edge_target ts o c ≡ o
above_all ts o c l = leads_none ts o c (λ t m h. let (k, at) = place_of ts t m in omega (arith, top_above ts k t at, h.1, l))

-- ---- rows that lead each value to states that match
module _ (X : ℕ → ℕ → Type 0) (right : (a b c : ℕ) → X a b → X a c → b ≡ c) (left : (a b c : ℕ) → X a c → X b c → a ≡ b) where
  -- the tests match one by one
  abbrev pub MatchTests : List (Range × ℕ) → List (Range × ℕ) → Type 0
  MatchTests [] [] = Unit {0}
  MatchTests [] (u ∷ us) = ⊥
  MatchTests (t ∷ ts) [] = ⊥
  MatchTests (t ∷ ts) (u ∷ us) = (t.0 ≡ u.0) × X t.1 u.1 × MatchTests ts us

  module _ (o n : ℕ) (others : X o n) where
    pub tests_match : (ts us : List (Range × ℕ)) → AreAscendingTests ts → AreAscendingTests us → AreFewestTests o ts → AreFewestTests n us
        → ((c : ℕ) → X (edge_target ts o c) (edge_target us n c)) → MatchTests ts us
    tests_match [] [] a b few more h = tt
    tests_match [] (u ∷ us) a b few more h =
        absurd (first_few n u us more (right o u.1 n (subst (X o) (at_first u us n b) (h u.0.start)) others))
    tests_match (t ∷ ts) [] a b few more h =
        absurd (first_few o t ts few (left t.1 o n (subst (λ q. X q n) (at_first t ts o a) (h t.0.start)) others))
    tests_match (t ∷ ts) (u ∷ us) a b few more h = (
      ap₂ (λ x y. let r : Range = record { start = x; end = y } in r) starts ends,
      firsts,
      tests_match ts us (rest_ascends t ts a) (rest_ascends u us b) (rest_few o t ts few) (rest_few n u us more) rest,
    )
      where
        not_earlier : ¬ (t.0.start < u.0.start)
        not_earlier l = first_few o t ts few (left t.1 o n (subst (λ q. X q n) (at_first t ts o a) (subst (X (edge_target (t ∷ ts) o t.0.start)) (before_first u us n t.0.start b l) (h t.0.start))) others)

        not_later : ¬ (u.0.start < t.0.start)
        not_later l = first_few n u us more (right o u.1 n (subst (X o) (at_first u us n b) (subst (λ q. X q (edge_target (u ∷ us) n u.0.start)) (before_first t ts o u.0.start a l) (h u.0.start))) others)

        starts : t.0.start ≡ u.0.start
        starts = ⊎_elim (λ (l : t.0.start < u.0.start). absurd (not_earlier l))
            (λ (l : u.0.start ≤ t.0.start). ⊎_elim (λ (m : u.0.start < t.0.start). absurd (not_later m)) (λ (m : t.0.start ≤ u.0.start). omega arith) (cases_lt u.0.start t.0.start))
            (cases_lt t.0.start u.0.start)

        firsts : X t.1 u.1
        firsts = subst (X t.1) (ap (edge_target (u ∷ us) n) starts ∙ at_first u us n b) (subst (λ q. X q (edge_target (u ∷ us) n t.0.start)) (at_first t ts o a) (h t.0.start))

        not_shorter : ¬ (t.0.end < u.0.end)
        not_shorter l =
            let c = t.0.end + 1 in
            let to_u : edge_target (u ∷ us) n c ≡ u.1 = leads_first u us n c (omega (arith, starts, first_some t ts a), omega (arith, l)) in
            let on : edge_target (t ∷ ts) o c ≡ edge_target ts o c = behind_first t ts o c (omega arith) in
            next_elsewhere t ts o a few (left (edge_target ts o c) t.1 u.1 (subst (X (edge_target ts o c)) to_u (subst (λ q. X q (edge_target (u ∷ us) n c)) on (h c))) firsts)

        not_longer : ¬ (u.0.end < t.0.end)
        not_longer l =
            let c = u.0.end + 1 in
            let to_t : edge_target (t ∷ ts) o c ≡ t.1 = leads_first t ts o c (omega (arith, starts, first_some u us b), omega (arith, l)) in
            let on : edge_target (u ∷ us) n c ≡ edge_target us n c = behind_first u us n c (omega arith) in
            next_elsewhere u us n b more (right t.1 (edge_target us n c) u.1 (subst (X t.1) on (subst (λ q. X q (edge_target (u ∷ us) n c)) to_t (h c))) firsts)

        ends : t.0.end ≡ u.0.end
        ends = ⊎_elim (λ (l : t.0.end < u.0.end). absurd (not_shorter l))
            (λ (l : u.0.end ≤ t.0.end). ⊎_elim (λ (m : u.0.end < t.0.end). absurd (not_longer m)) (λ (m : t.0.end ≤ u.0.end). omega arith) (cases_lt u.0.end t.0.end))
            (cases_lt t.0.end u.0.end)

        rest : (c : ℕ) → X (edge_target ts o c) (edge_target us n c)
        rest c = ⊎_elim
            (λ (l : t.0.end < c). subst (X (edge_target ts o c)) (behind_first u us n c (omega (arith, l, ends))) (subst (λ q. X q (edge_target (u ∷ us) n c)) (behind_first t ts o c l) (h c)))
            (λ (l : c ≤ t.0.end). subst (X (edge_target ts o c)) (sym (after_first u us n c b (omega (arith, l, ends)))) (subst (λ q. X q n) (sym (after_first t ts o c a l)) others))
            (cases_lt t.0.end c)

  -- rows of which the tests match, in automata that have met the same states before, are equal, and the same are met after them
  same_target : (a b m : ℕ) → X a b → ((i : ℕ) → i < m → X i i) → (a < m) ⊎ (a ≡ m) → (b < m) ⊎ (b ≡ m) → a ≡ b
  same_target a b m x known (inl l) there = right a a b (known a l) x
  same_target a b m x known (inr e) (inl l) = left a b b x (known b l)
  same_target a b m x known (inr e) (inr g) = e ∙ sym g

  known_more : (a b m : ℕ) → X a b → a ≡ m → b ≡ m → ((i : ℕ) → i < m → X i i) → (i : ℕ) → i < suc m → X i i
  known_more a b m x e g known i l =
      ⊎_elim (λ (k : i < m). known i k)
      (λ (k : m ≤ i). let at : m ≡ i = omega (arith, k, l) in subst (λ q. X q q) at (subst (X m) g (subst (λ q. X q b) e x)))
      (cases_lt i m)

  abbrev pub AreSame : List (Range × ℕ) → List (Range × ℕ) → ℕ → ℕ → ℕ → ℕ → Type 0
  AreSame ts us o n k l = (ts ≡ us) × (o ≡ n) × (k ≡ l) × ((i : ℕ) → i < k → X i i)

  -- one more target: what is left to show is that the rest is in order
  one_more : (A : Type 0) (a b m : ℕ) (P Q : ℕ → Type 0) → X a b → ((i : ℕ) → i < m → X i i) → ((a < m) × P m) ⊎ ((a ≡ m) × P (suc m)) → ((b < m) × Q m) ⊎ ((b ≡ m) × Q (suc m))
      → ((j : ℕ) → a ≡ b → ((i : ℕ) → i < j → X i i) → P j → Q j → A) → A
  one_more A a b m P Q x known (inl g) (inl h) then_ = then_ m (same_target a b m x known (inl g.0) (inl h.0)) known g.1 h.1
  one_more A a b m P Q x known (inl g) (inr h) then_ = absurd (let e = same_target a b m x known (inl g.0) (inr h.0) in omega (arith, e, g.0, h.0))
  one_more A a b m P Q x known (inr g) (inl h) then_ = absurd (let e = same_target a b m x known (inr g.0) (inl h.0) in omega (arith, e, g.0, h.0))
  one_more A a b m P Q x known (inr g) (inr h) then_ = then_ (suc m) (g.0 ∙ sym h.0) (known_more a b m x g.0 h.0 known) g.1 h.1

  pub order_same : (ts us : List (Range × ℕ)) (o n m k l : ℕ) → X o n → MatchTests ts us → AreNext m (edges_of ts o) k → AreNext m (edges_of us n) l → ((i : ℕ) → i < m → X i i)
      → AreSame ts us o n k l
  order_same [] [] o n m k l x match g h known =
      one_more (AreSame [] [] o n k l) o n m (λ j. j ≡ k) (λ j. j ≡ l) x known g h
      (λ j same met e f. (refl, same, sym e ∙ f, λ i less. met i (omega (arith, less, e))))
  order_same [] (u ∷ us) o n m k l x match g h known = absurd match
  order_same (t ∷ ts) [] o n m k l x match g h known = absurd match
  order_same (t ∷ ts) (u ∷ us) o n m k l x match g h known =
      one_more (AreSame (t ∷ ts) (u ∷ us) o n k l) t.1 u.1 m (λ j. AreNext j (edges_of ts o) k) (λ j. AreNext j (edges_of us n) l) match.1 known g h
      (λ j same met e f.
      let rest = order_same ts us o n j k l x match.2 e f met in
      let head : t ≡ u = ap₂ (λ (y : Range) (z : ℕ). let v : Range × ℕ = (y, z) in v) match.0 same in
      (ap₂ (λ (y : Range × ℕ) (z : List (Range × ℕ)). y ∷ z) head rest.0, rest.1, rest.2, rest.3))

-- ---- kinds
same_kind : (k l : Kind) → accepted_by k ≡ accepted_by l → (k ≡ Reject → l ≡ Reject) → (l ≡ Reject → k ≡ Reject) → k ≡ l
same_kind (Accepts i) (Accepts j) e f g = let same : i ≡ j = cc in ap Accepts same
same_kind (Accepts i) Reject e f g = cc
same_kind (Accepts i) Neither e f g = cc
same_kind Reject (Accepts j) e f g = cc
same_kind Reject Reject e f g = refl
same_kind Reject Neither e f g = sym (f refl)
same_kind Neither (Accepts j) e f g = cc
same_kind Neither Reject e f g = g refl
same_kind Neither Neither e f g = refl

module _ (d e : List Row) (one : IsCanonical d) (other : IsCanonical e) (alike : AnswerAlike d e) where
  -- the states answer alike, one in each automaton
  abbrev Across : ℕ → ℕ → Type 0
  Across p q = (p < length d) × (q < length e) × ((w : List ℕ) → answer_from d p w ≡ answer_from e q w)

  right : (a b c : ℕ) → Across a b → Across a c → b ≡ c
  right a b c x y = other.apart b c x.1 y.1 (λ w. sym (x.2 w) ∙ y.2 w)

  left : (a b c : ℕ) → Across a c → Across b c → a ≡ b
  left a b c x y = one.apart a b x.0 y.0 (λ w. x.2 w ∙ sym (y.2 w))

  abbrev Known : ℕ → Type 0
  Known n = (i : ℕ) → i < n → Across i i

  module _ (p : ℕ) (r s : Row) (at : slice_get d p ≡ Some r) (there : slice_get e p ≡ Some s) (same : one.order.met p ≡ other.order.met p) (known : Known (one.order.met p)) where
    here : Across p p
    here = known p (one.order.before p r at)

    across : (c : ℕ) → Across (edge_target r.tests r.other c) (edge_target s.tests s.other c)
    across c = subst (Across (edge_target r.tests r.other c)) (step_of e p c s there) (subst (λ q. Across q (step e p c)) (step_of d p c r at)
        (step_within d p c one.well_formed here.0, step_within e p c other.well_formed here.1, λ w. here.2 (c ∷ w)))

    others : Across r.other s.other
    others =
        let c = top r.tests + top s.tests in
        subst (Across r.other) (above_all s.tests s.other c (omega arith)) (subst (λ q. Across q (edge_target s.tests s.other c)) (above_all r.tests r.other c (omega arith)) (across c))

    row_same : AreSame Across right left r.tests s.tests r.other s.other (one.order.met (suc p)) (other.order.met (suc p))
    row_same = order_same Across right left r.tests s.tests r.other s.other (one.order.met p) (one.order.met (suc p)) (other.order.met (suc p)) others
        (tests_match Across right left r.other s.other others r.tests s.tests (one.well_formed.ascending p r at) (other.well_formed.ascending p s there) (one.edges p r at) (other.edges p s there) across)
        (one.order.each p r at) (subst (λ n. AreNext n (edges_of s.tests s.other) (other.order.met (suc p))) (sym same) (other.order.each p s there)) known

    kind_same : r.kind ≡ s.kind
    kind_same = same_kind r.kind s.kind (ap accepted_at (sym at) ∙ here.2 [] ∙ ap accepted_at there)
        (λ k. (other.rejects p s there).1 (λ w. sym (here.2 w) ∙ (one.rejects p r at).0 k w))
        (λ k. (one.rejects p r at).1 (λ w. here.2 w ∙ (other.rejects p s there).0 k w))

  row_there : (a : List Row) (p : ℕ) → p < length a → (r : Row) × (slice_get a p ≡ Some r)
  row_there a p l = elim (slice_get_cases a p).1 [
    | inl x ↦ (x.0, x.2)
    | inr past ↦ absurd (omega (arith, past.0, l))
  ]

  known_to : (p : ℕ) → p ≤ length d → p ≤ length e → (one.order.met p ≡ other.order.met p) × Known (one.order.met p)
  known_to zero l m = (
    one.order.first ∙ sym other.order.first,
    λ i k. (let start : 0 ≡ i = omega (arith, k, one.order.first) in subst (λ q. Across q q) start (one.well_formed.some, other.well_formed.some, alike)),
  )
  known_to (suc p) l m =
      let (r, at) = row_there d p (omega (arith, l)) in
      let (s, there) = row_there e p (omega (arith, m)) in
      let before = known_to p (omega (arith, l)) (omega (arith, m)) in
      let same = row_same p r s at there before.0 before.1 in
      (same.2, same.3)

  not_fewer : ¬ (length d < length e)
  not_fewer l =
      let known = known_to (length d) (omega arith) (omega (arith, l)) in
      let (s, there) = row_there e (length d) l in
      let met : length d < one.order.met (length d) = omega (arith, other.order.before (length d) s there, known.0) in
      omega (arith, (known.1 (length d) met).0)

  not_more : ¬ (length e < length d)
  not_more l =
      let known = known_to (length e) (omega (arith, l)) (omega arith) in
      let (r, at) = row_there d (length e) l in
      omega (arith, (known.1 (length e) (one.order.before (length e) r at)).1)

  -- they have the same number of states, and at each number states of one kind with the same edges
  pub one_smallest_length : length d ≡ length e
  one_smallest_length = ⊎_elim (λ (l : length d < length e). absurd (not_fewer l))
      (λ (l : length e ≤ length d). ⊎_elim (λ (m : length e < length d). absurd (not_more m)) (λ (m : length d ≤ length e). omega arith) (cases_lt (length e) (length d)))
      (cases_lt (length d) (length e))

  pub one_smallest : (p : ℕ) (r s : Row) → slice_get d p ≡ Some r → slice_get e p ≡ Some s → (r.kind ≡ s.kind) × (r.tests ≡ s.tests) × (r.other ≡ s.other)
  one_smallest p r s at there =
      let l : p < length d = slice_get_within d p r at in
      let m : p < length e = slice_get_within e p s there in
      let known = known_to p (omega (arith, l)) (omega (arith, m)) in
      let same = row_same p r s at there known.0 known.1 in
      (kind_same p r s at there known.0 known.1, same.0, same.1)
