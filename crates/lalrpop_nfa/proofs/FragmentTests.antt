-- The test edges of a fragment: their labels, and that no two of one state meet.
use Rattle.std.proofs.Common.{◌≡◌, ◌≢◌, ℕ, zero, suc, ◌<◌, ◌≤◌, ◌+◌, ◌-◌, ◌⊎◌, List, [], ◌∷◌, ◌++◌, map, ap, sym, ◌∙◌, subst, arith, inl, inr}
use Rattle.std.specs.Prelude.{Some, None, slice_get}
use Rattle.std.specs.List.{Contains}
use Rattle.std.proofs.lemmas.List.Elements.{Contains-append_cases}
use Rattle.lalrpop_hir.specs.Range.{Range}
use Rattle.lalrpop_hir.specs.Tree.{Class, unicode, bytes, Tree, empty, literal, class, look, repetition, capture, concat, alternation, Trees, none, also}
use Rattle.lalrpop_nfa.specs.declared.edge.Edge.{Edge}
use Rattle.lalrpop_hir.specs.Meet.{Meet}
use Rattle.lalrpop_nfa.specs.Path.{test}
use Rattle.lalrpop_nfa.specs.Internal.Fragment.{Construction, before, one_of, literal_expr, copies, optional_expr, optional_copies, star_expr, repeat_expr, class_construction, fragment_of, concat_expr, branches}
use Rattle.lalrpop_hir.proofs.Contained.{contains_none, contains_only, contains_first, contains_later, contains_from_map}
use Rattle.lalrpop_nfa.proofs.Compilable.{AreDisjoint, IsCompilableWithin, AreCompilableWithin, AreDisjointWithin, IsClassWithin, only}
use Rattle.lalrpop_nfa.proofs.Fragments.{Anywhere, construction_within, Joins, Joins-none, Leads, Leads-one_of, Leads-literal_expr, Leads-copies, Leads-optional_expr, Leads-optional_copies, Leads-star_expr, fragment_leads, concat_leads, fragment_within, branches_within}

-- no edge of the list has a value in common with a later one that leaves the same state
abbrev pub AllApart : List (Edge Range) → Type 0
AllApart [] = Unit {0}
AllApart (x ∷ xs) = ((y : Edge Range) → Contains xs y → x.from ≡ y.from → ¬ Meet x.label y.label) × AllApart xs

-- the labels have K, and edges of one state have no value in common
pub record AreTestsWithin (K : Range → Type 0) (es : List (Edge Range)) : Type 0 where
  pub labels : (x : Edge Range) → Contains es x → K x.label
  pub apart : AllApart es

AllApart-both : (xs ys : List (Edge Range)) → ((x y : Edge Range) → Contains xs x → Contains ys y → x.from ≢ y.from) → AllApart xs → AllApart ys → AllApart (xs ++ ys)
AllApart-both [] ys d p q = q
AllApart-both (x ∷ xs) ys d p q = (
  λ y m f. elim (Contains-append_cases xs ys y m) [ inl k ↦ p.0 y k f | inr k ↦ absurd (d x y (contains_first x xs) k f) ],
  AllApart-both xs ys (λ z y m k. d z y (contains_later x xs z m) k) p.1 q,
)

AllApart-one_of : (n target : ℕ) (rs : List Range) → AreDisjoint rs → AllApart (map (λ r. test n r target) rs)
AllApart-one_of n target [] d = tt
AllApart-one_of n target (r ∷ rs) d = (
  λ y m f. let s = contains_from_map (λ z. test n z target) rs y m in subst (λ (z : Edge Range). ¬ Meet r z.label) s.1.1 (d.0 s.0 s.1.0),
  AllApart-one_of n target rs d.1,
)

module _ (K : Range → Type 0) where
  TestsWithin-none : AreTestsWithin K []
  TestsWithin-none = record { labels = λ x m. absurd (contains_none x m); apart = tt }

  -- two lists whose edges leave different states
  TestsWithin-both : (a b c d : ℕ) (xs ys : List (Edge Range)) → b ≤ c → Joins Anywhere a b xs → Joins Anywhere c d ys → AreTestsWithin K xs → AreTestsWithin K ys → AreTestsWithin K (xs ++ ys)
  TestsWithin-both a b c d xs ys less f g p q = record {
    labels = λ x m. elim (Contains-append_cases xs ys x m) [ inl k ↦ p.labels x k | inr k ↦ q.labels x k ];
    apart = AllApart-both xs ys (λ x y m k e. let r = f x m in let o = g y k in absurd (omega (arith, r.1, o.0))) p.apart q.apart;
  }

  TestsWithin-more : (a b : ℕ) (xs : List (Edge Range)) → Joins Anywhere a b xs → AreTestsWithin K xs → AreTestsWithin K (xs ++ [])
  TestsWithin-more a b xs f p = TestsWithin-both a b b b xs [] (omega arith) f (Joins-none Anywhere b b) p TestsWithin-none

  abbrev pub HasTestsWithin : Construction → Type 0
  HasTestsWithin x = (target n : ℕ) → AreTestsWithin K (x target n).edges.tests

  TestsWithin-before : (x y : Construction) → Leads Anywhere x → Leads Anywhere y → HasTestsWithin x → HasTestsWithin y → HasTestsWithin (before x y)
  TestsWithin-before x y f g p q target n =
      let s = y target n in
      let a = x s.entry (n + s.size) in
      TestsWithin-both n (n + s.size) (n + s.size) (n + s.size + a.size) s.edges.tests a.edges.tests (omega arith)
      (construction_within y g target n).tests (construction_within x f s.entry (n + s.size)).tests (q target n) (p s.entry (n + s.size))

  TestsWithin-one_of : (rs : List Range) → AreDisjointWithin K rs → HasTestsWithin (one_of rs)
  TestsWithin-one_of rs p target n = record {
    labels = λ x m.
        let r = contains_from_map (λ z. test n z target) rs x m in
        subst K (ap (λ (z : Edge Range). z.label) r.1.1) (p.each r.0 r.1.0);
    apart = AllApart-one_of n target rs p.disjoint;
  }

  character_expr : (c : ℕ) → K (only c) → AreDisjointWithin K (only c ∷ [])
  character_expr c k = record {
    each = λ r m. subst K (contains_only (only c) r m) k;
    disjoint = (λ s m. absurd (contains_none s m), tt);
  }

  TestsWithin-literal_expr : (cs : List ℕ) → ((c : ℕ) → Contains cs c → K (only c)) → HasTestsWithin (literal_expr cs)
  TestsWithin-literal_expr [] k = λ target n. TestsWithin-none
  TestsWithin-literal_expr (c ∷ cs) k =
      TestsWithin-before (one_of (only c ∷ [])) (literal_expr cs) (Leads-one_of Anywhere (only c ∷ [])) (Leads-literal_expr Anywhere cs)
      (TestsWithin-one_of (only c ∷ []) (character_expr c (k c (contains_first c cs)))) (TestsWithin-literal_expr cs (λ d m. k d (contains_later c cs d m)))

  module _ (x : Construction) (f : Leads Anywhere x) (p : HasTestsWithin x) where
    TestsWithin-copies : (k : ℕ) → HasTestsWithin (copies x k)
    TestsWithin-copies zero = λ target n. TestsWithin-none
    TestsWithin-copies (suc k) = TestsWithin-before x (copies x k) f (Leads-copies Anywhere x f k) p (TestsWithin-copies k)

    TestsWithin-optional_expr : HasTestsWithin (optional_expr x)
    TestsWithin-optional_expr target n = TestsWithin-more n (n + (x target n).size) (x target n).edges.tests (construction_within x f target n).tests (p target n)

    TestsWithin-optional_copies : (k : ℕ) → HasTestsWithin (optional_copies x k)
    TestsWithin-optional_copies zero = λ target n. TestsWithin-none
    TestsWithin-optional_copies (suc k) = TestsWithin-before (optional_expr x) (optional_copies x k) (Leads-optional_expr Anywhere x f) (Leads-optional_copies Anywhere x f k) TestsWithin-optional_expr (TestsWithin-optional_copies k)

    TestsWithin-star_expr : HasTestsWithin (star_expr x)
    TestsWithin-star_expr target n = TestsWithin-more (n + 1) (n + 1 + (x n (n + 1)).size) (x n (n + 1)).edges.tests (construction_within x f n (n + 1)).tests (p n (n + 1))

    TestsWithin-counted : (min max : ℕ) → HasTestsWithin (repeat_expr x min (Some max))
    TestsWithin-counted min max = TestsWithin-before (copies x min) (optional_copies x (max - min)) (Leads-copies Anywhere x f min) (Leads-optional_copies Anywhere x f (max - min)) (TestsWithin-copies min) (TestsWithin-optional_copies (max - min))

    TestsWithin-open : (min : ℕ) → HasTestsWithin (repeat_expr x min None)
    TestsWithin-open zero = TestsWithin-star_expr
    TestsWithin-open (suc zero) = TestsWithin-star_expr
    TestsWithin-open (suc (suc k)) = TestsWithin-before (copies x (suc (suc k))) (star_expr x) (Leads-copies Anywhere x f (suc (suc k))) (Leads-star_expr Anywhere x f) (TestsWithin-copies (suc (suc k))) TestsWithin-star_expr

  TestsWithin-never : (x : Construction) → HasTestsWithin (repeat_expr x 0 (Some 0))
  TestsWithin-never x target n = TestsWithin-none

  TestsWithin-class : (a : Class) → IsClassWithin K a → HasTestsWithin (class_construction a)
  TestsWithin-class (unicode rs) p = TestsWithin-one_of rs p
  TestsWithin-class (bytes rs) p = TestsWithin-one_of rs p

  mutual
    pub fragment_tests : (t : Tree) → IsCompilableWithin K t → HasTestsWithin (fragment_of t)
    fragment_tests empty p = λ target n. TestsWithin-none
    fragment_tests (literal cs) p = TestsWithin-literal_expr cs p
    fragment_tests (class a) p = TestsWithin-class a p
    fragment_tests (look l) p = absurd p
    fragment_tests (repetition min None greedy t) p = TestsWithin-open (fragment_of t) (fragment_leads Anywhere t) (fragment_tests t p) min
    fragment_tests (repetition min (Some zero) greedy t) p = rw p (TestsWithin-never (fragment_of t))
    fragment_tests (repetition min (Some (suc max)) greedy t) p = TestsWithin-counted (fragment_of t) (fragment_leads Anywhere t) (fragment_tests t p.1) min (suc max)
    fragment_tests (capture name t) p = fragment_tests t p
    fragment_tests (concat ts) p = concat_tests ts p
    fragment_tests (alternation ts) p = λ target n.
        let s = branches ts target (n + 1) in
        TestsWithin-more (n + 1) (n + 1 + s.size) s.edges.tests (branches_within ts target (n + 1)).tests (branches_tests ts p target (n + 1))

    pub concat_tests : (ts : Trees) → AreCompilableWithin K ts → HasTestsWithin (concat_expr ts)
    concat_tests none p = λ target n. TestsWithin-none
    concat_tests (also t ts) p = TestsWithin-before (fragment_of t) (concat_expr ts) (fragment_leads Anywhere t) (concat_leads Anywhere ts) (fragment_tests t p.0) (concat_tests ts p.1)

    pub branches_tests : (ts : Trees) → AreCompilableWithin K ts → (target n : ℕ) → AreTestsWithin K (branches ts target n).edges.tests
    branches_tests none p = λ target n. TestsWithin-none
    branches_tests (also t ts) p = λ target n.
        let a = fragment_of t target n in
        let s = branches ts target (n + a.size) in
        TestsWithin-both n (n + a.size) (n + a.size) (n + a.size + s.size) a.edges.tests s.edges.tests (omega arith)
        (fragment_within t target n).tests (branches_within ts target (n + a.size)).tests (fragment_tests t p.0 target n) (branches_tests ts p.1 target (n + a.size))

some_is : (x e : Edge Range) → Some x ≡ Some e → x ≡ e
some_is x e h = cc

-- an element stands where the list has it
found : (es : List (Edge Range)) (i : ℕ) (e : Edge Range) → slice_get es i ≡ Some e → Contains es e
found [] i e h = cc
found (x ∷ es) zero e h = subst (Contains (x ∷ es)) (some_is x e h) (contains_first x es)
found (x ∷ es) (suc i) e h = contains_later x es e (found es i e h)

-- of two places the earlier one's edge is apart from the later one's
before_apart : (es : List (Edge Range)) → AllApart es → (i j : ℕ) (e f : Edge Range) → slice_get es i ≡ Some e → slice_get es j ≡ Some f → i < j → e.from ≡ f.from → ¬ Meet e.label f.label
before_apart [] a i j e f h k l s = cc
before_apart (x ∷ es) a zero zero e f h k l s = absurd (omega arith)
before_apart (x ∷ es) a zero (suc j) e f h k l s = let is : x ≡ e = some_is x e h in subst (λ (z : Edge Range). ¬ Meet z.label f.label) is (a.0 f (found es j f k) (ap (λ (z : Edge Range). z.from) is ∙ s))
before_apart (x ∷ es) a (suc i) zero e f h k l s = absurd (omega arith)
before_apart (x ∷ es) a (suc i) (suc j) e f h k l s = before_apart es a.1 i j e f h k (omega arith) s

pub places_apart : (es : List (Edge Range)) → AllApart es → (i j : ℕ) (e f : Edge Range) → slice_get es i ≡ Some e → slice_get es j ≡ Some f → i ≢ j → e.from ≡ f.from → ¬ Meet e.label f.label
places_apart es a i j e f h k d s = elim (sides i j d) [
  | inl l ↦ before_apart es a i j e f h k l s
  | inr l ↦ (λ (c, (x, y)). before_apart es a j i f e k h l (sym s) (c, (y, x)))
]
  where
    sides : (m n : ℕ) → m ≢ n → (m < n) ⊎ (n < m)
    sides m n u = grind arith
