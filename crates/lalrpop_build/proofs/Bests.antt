-- The kind of a set: its strongest trees, from item to item.
use Rattle.std.proofs.Common.{◌≡◌, ℕ, zero, suc, ◌+◌, ◌<◌, ◌≤◌, List, [], ◌∷◌, ◌++◌, length, map, take, get_or, refl, ap, ap₂, sym, ◌∙◌, subst, arith, ◌⊎◌, inl, inr, Bool, true, false, cond, ◌==◌, IsTrue, ◌↔◌, eqb-true, eq-eqb, append-nil}
use Rattle.std.specs.Prelude.{slice_get, slice_index, Option, Some, None, MatchOption}
use Rattle.std.specs.List.{Contains, filter}
use Rattle.std.specs.Ordering.{nat_cmp, ordering_then}
use Rattle.std.specs.declared.cmp.Ordering.TheVariants.{Less, Equal, Greater}
use Rattle.std.proofs.lemmas.Bool.{cases_order, lt-ltb, le-ltb, ne_eqb}
use Rattle.std.proofs.lemmas.Bool.Decides.{nat_tests}
use Rattle.std.specs.declared.cmp.Ordering.{Ordering}
use Rattle.std.proofs.lemmas.List.{take_more, take_all, length-take-le, get_or-take, get_or_read}
use Rattle.std.proofs.lemmas.List.Elements.{Contains-append_left, Contains-push, Contains-push_cases}
use Rattle.std.proofs.lemmas.Map.Keys.{Less-from_sorted}
use Rattle.lalrpop_nfa.specs.Graph.{Graph}
use Rattle.lalrpop_dfa.specs.Ascending.{Item, item_cmp, AreAscendingItems}
use Rattle.lalrpop_build.specs.Internal.Given.{IsItemOf, AreAutomata, AreItemsOf}
use Rattle.lalrpop_hir.specs.States.{accept_state}
use Rattle.lalrpop_build.specs.Internal.Subsets.{is_dead}
use Rattle.lalrpop_build.specs.Internal.Best.{accepts, accepts_with, IsStrong, IsBestOf, IsBest, raised}
use Rattle.std.proofs.lemmas.Option.{slice_get_within, slice_get-get_or, get_or_from_slice_get}
use Rattle.lalrpop_build.specs.Internal.Built.{IsStrongestIn, IsKindOf, IsTied}
use Rattle.lalrpop_dfa.specs.declared.Kind.TheVariants.{Accepts, Neither}
use Rattle.lalrpop_build.specs.declared.build.best.Best.{Best}
use Rattle.lalrpop_nfa.specs.declared.edge.StateKind.TheVariants.{Accept}
use Rattle.lalrpop_hir.proofs.Contained.{contains_none}
use Rattle.lalrpop_hir.proofs.Members.{Has, has_from, contains_from, has_filter, filter_has, has_map, map_has, has_cases, has_at}
use Rattle.lalrpop_build.specs.Internal.Ties.{AreAscending}
use Rattle.lalrpop_build.proofs.Targets.{compiled_at}

-- ---- one item
told : (b : Bool) (n m : ℕ) → (IsTrue b → n ≡ m) → (n ≡ m → IsTrue b) → b ≡ (n == m)
told true n m f g = sym (eq-eqb n m (f refl))
told false n m f g = elim (n == m) as (λ v. (v ≡ true → n ≡ m) → false ≡ v) [ true ↦ λ h. absurd (let t : IsTrue false = g (h refl) in cc) | false ↦ λ h. refl ] (eqb-true n m)

pub accepting_told : (ns : List Graph) (x : Item) (g : Graph) (q : ℕ) (b : Bool) → AreAutomata ns → slice_get ns x.0 ≡ Some g → q ≡ x.1 → IsTrue b ↔ (slice_get g.kinds q ≡ Some Accept) → b ≡ (x.1 == accept_state)
accepting_told ns x g q b a at same f =
    let k = compiled_at a.0 ns a.1 x.0 g at in
    told b x.1 accept_state (λ t. sym same ∙ (k.1.1.accepting q).0 (f.0 t)) (λ e. f.1 ((k.1.1.accepting q).1 (same ∙ e)))

match_on : {A B : Type 0} {P Q : ℕ → Type 0} (o : Option ℕ) → (A → B) → ((n : ℕ) → P n → Q n) → MatchOption o A P → MatchOption o B Q
match_on None f g h = f h
match_on (Some n) f g h = g n h

-- ---- one more tree, greater than those before
module _ (ps is : List ℕ) (i p : ℕ) (fresh : (j : ℕ) → Contains is j → j < i) (weight : p ≡ slice_index ps i) where
  here : Contains (is ++ i ∷ []) i
  here = Contains-push is i

  old : (j : ℕ) → Contains is j → Contains (is ++ i ∷ []) j
  old j h = Contains-append_left is (i ∷ []) j h

  below : (w : ℕ) → ((j : ℕ) → Contains is j → slice_index ps j ≤ w) → slice_index ps i ≤ w → (j : ℕ) → Contains (is ++ i ∷ []) j → slice_index ps j ≤ w
  below w f g j h = elim (Contains-push_cases is i j h) [ inl was ↦ f j was | inr e ↦ rw (← e) g ]

  -- the first
  pub best_first : is ≡ [] → IsBestOf ps (is ++ i ∷ []) (record { index = i; precedence = p; tied = None })
  best_first none =
      let only : (j : ℕ) → Contains (is ++ i ∷ []) j → j ≡ i =
      λ (j : ℕ) (h : Contains (is ++ i ∷ []) j). elim (Contains-push_cases is i j h) [ inl was ↦ absurd (has_from [] j (rw none at was)) | inr e ↦ sym e ] in
      record {
        strong = (here, λ j h. (let e : j ≡ i = only j h in rw e (omega arith)));
        weight = sym weight;
        above = λ j s. (let e : j ≡ i = only j s.0 in omega arith);
        tied = λ j s. only j s.0;
      }

  module _ (b : Best) (k : IsBestOf ps is b) where
    most : (j : ℕ) → Contains is j → slice_index ps j ≤ b.precedence
    most j h = omega (arith, k.strong.1 j h, k.weight)

    -- a stronger one
    pub best_stronger : b.precedence < p → IsBestOf ps (is ++ i ∷ []) (record { index = i; precedence = p; tied = None })
    best_stronger less =
        let only : (j : ℕ) → IsStrong ps (is ++ i ∷ []) j → j ≡ i =
        λ (j : ℕ) (s : IsStrong ps (is ++ i ∷ []) j). elim (Contains-push_cases is i j s.0) [
          | inl was ↦ absurd (omega (arith, most j was, s.1 i here, weight))
          | inr e ↦ sym e
        ] in
        record {
          strong = (here, below (slice_index ps i) (λ j h. omega (arith, most j h, weight)) (omega arith));
          weight = sym weight;
          above = λ j s. (let e : j ≡ i = only j s in omega arith);
          tied = only;
        }

    -- an equally strong one
    pub best_equal : b.precedence ≡ p → IsBestOf ps (is ++ i ∷ []) (record { index = i; precedence = p; tied = Some b.index })
    best_equal same =
        let back : (j : ℕ) → IsStrong ps (is ++ i ∷ []) j → Contains is j → IsStrong ps is j =
        λ (j : ℕ) (s : IsStrong ps (is ++ i ∷ []) j) (h : Contains is j). (h, λ l m. s.1 l (old l m)) in
        record {
          strong = (here, below (slice_index ps i) (λ j h. omega (arith, most j h, weight)) (omega arith));
          weight = sym weight;
          above = λ j s. elim (Contains-push_cases is i j s.0) [ inl was ↦ omega (arith, fresh j was) | inr e ↦ omega (arith, e) ];
          tied = (
            (old b.index k.strong.0, below (slice_index ps b.index) k.strong.1 (omega (arith, k.weight, weight))),
            fresh b.index k.strong.0,
            λ j s l. elim (Contains-push_cases is i j s.0) [ inl was ↦ k.above j (back j s was) | inr e ↦ absurd (omega (arith, e)) ],
          );
        }

    -- a weaker one
    pub best_kept : p < b.precedence → IsBestOf ps (is ++ i ∷ []) b
    best_kept less =
        let back : (j : ℕ) → IsStrong ps (is ++ i ∷ []) j → IsStrong ps is j =
        λ (j : ℕ) (s : IsStrong ps (is ++ i ∷ []) j). elim (Contains-push_cases is i j s.0) [
          | inl was ↦ (was, λ l m. s.1 l (old l m))
          | inr e ↦ (let w : slice_index ps b.index ≤ slice_index ps i = rw e (s.1 b.index (old b.index k.strong.0)) in absurd (omega (arith, w, k.weight, weight)))
        ] in
        let on : (j : ℕ) → IsStrong ps is j → IsStrong ps (is ++ i ∷ []) j =
        λ (j : ℕ) (s : IsStrong ps is j). (old j s.0, below (slice_index ps j) s.1 (omega (arith, s.1 b.index k.strong.0, k.weight, weight))) in
        record {
          strong = on b.index k.strong;
          weight = k.weight;
          above = λ j s. k.above j (back j s);
          tied = match_on b.tied (λ f j s. f j (back j s)) (λ second t. (on second t.0, t.1, λ j s l. t.2 j (back j s) l)) k.tied;
        }

-- ---- from item to item
pub best_raised : (ps is : List ℕ) (i p : ℕ) (o : Option Best) → ((j : ℕ) → Contains is j → j < i) → p ≡ slice_index ps i → IsBest ps is o → IsBestOf ps (is ++ i ∷ []) (raised o i p)
best_raised ps is i p None fresh weight k = best_first ps is i p fresh weight k
best_raised ps is i p (Some b) fresh weight k = elim (cases_order b.precedence p) [
  | inl same ↦ rw (le-ltb b.precedence p (omega arith), eq-eqb b.precedence p same) (best_equal ps is i p fresh weight b k same)
  | inr (inl less) ↦ rw (lt-ltb b.precedence p less) (best_stronger ps is i p fresh weight b k less)
  | inr (inr more) ↦ (let ne : b.precedence ≡ p → ⊥ = λ (e : b.precedence ≡ p). omega (arith, e) in
      rw (le-ltb b.precedence p (omega arith), ne_eqb b.precedence p ne) (best_kept ps is i p fresh weight b k more))
]

accepts_more : (xs : List Item) (x : Item) → accepts (xs ++ x ∷ []) ≡ accepts xs ++ cond (x.1 == accept_state) (x.0 ∷ []) []
accepts_more [] x = elim (x.1 == accept_state) as (λ b. map (λ (y : Item). y.0) (cond b (x ∷ []) []) ≡ cond b (x.0 ∷ []) []) [ true ↦ refl | false ↦ refl ]
accepts_more (y ∷ xs) x = elim (y.1 == accept_state) as (λ b. map (λ (y : Item). y.0) (cond b (y ∷ filter (λ x. x.1 == accept_state) (xs ++ x ∷ [])) (filter (λ x. x.1 == accept_state) (xs ++ x ∷ [])))
    ≡ map (λ (y : Item). y.0) (cond b (y ∷ filter (λ x. x.1 == accept_state) xs) (filter (λ x. x.1 == accept_state) xs)) ++ cond (x.1 == accept_state) (x.0 ∷ []) []) [
      | true ↦ ap (λ ys. y.0 ∷ ys) (accepts_more xs x)
      | false ↦ accepts_more xs x
    ]

-- what a set accepts
pub accepts_has : (s : List Item) (i : ℕ) → Contains s (i, accept_state) → Contains (accepts s) i
accepts_has s i h =
    contains_from (accepts s) i (has_map (λ (x : Item). x.0) (filter (λ x. x.1 == accept_state) s) (i, accept_state) (has_filter (λ (x : Item). x.1 == accept_state) s (i, accept_state) (has_from s (i, accept_state) h) refl))

pub accepts_from : (s : List Item) (i : ℕ) → Contains (accepts s) i → Contains s (i, accept_state)
accepts_from s i h =
    let (x, f) = map_has (λ (x : Item). x.0) (filter (λ x. x.1 == accept_state) s) i (has_from (accepts s) i h) in
    let k = filter_has (λ (x : Item). x.1 == accept_state) s x f.0 in
    let same : x ≡ (i, accept_state) = ap₂ (λ (a b : ℕ). let z : Item = (a, b) in z) f.1 (eqb-true x.1 accept_state k.1) in
    contains_from s (i, accept_state) (rw same at k.0)

then_less : (a b : Ordering) → ordering_then a b ≡ Less → (a ≡ Less) ⊎ (b ≡ Less)
then_less Less b e = inl refl
then_less Equal b e = inr e
then_less Greater b e = cc

nat_less : (a b : ℕ) → nat_cmp a b ≡ Less → a < b
nat_less a b e = grind (arith, nat_tests)

first_less : (a b p q : ℕ) → ordering_then (nat_cmp a b) (nat_cmp p q) ≡ Less → p ≡ q → a < b
first_less a b p q e same = elim (then_less (nat_cmp a b) (nat_cmp p q) e) [
  | inl first ↦ nat_less a b first
  | inr second ↦ absurd (omega (arith, nat_less p q second))
]

get_or_same : (items : List Item) (m : ℕ) (d y : Item) → m < length items → get_or items m y ≡ y → get_or items m d ≡ y
get_or_same items m d y l e = sym (get_or_read items m y l (sym e) d)

-- those before an item that accepts are smaller
take_less : (items : List Item) (k : ℕ) (x : Item) (j : ℕ) → AreAscendingItems items → k < length items → x ≡ get_or items k x → x.1 ≡ accept_state → Contains (accepts (take k items)) j → j < x.0
take_less items k x j sorted l is final h =
    let (m, n, e) = accepts_from (take k items) j h in
    let small : m < k = omega (arith, length-take-le k items (omega arith), n) in
    let first : get_or items m x ≡ (j, accept_state) = get_or_same items m x (j, accept_state) (omega arith) (sym (get_or-take k items m (j, accept_state) small) ∙ e) in
    let less : item_cmp (get_or items m x) (get_or items k x) ≡ Less = Less-from_sorted item_cmp items m k x sorted small l in
    let told : item_cmp (j, accept_state) x ≡ Less = (rw (first, ← is) at less) in
    first_less j x.0 accept_state x.1 told (sym final)

pub best_taken : (ps : List ℕ) (items : List Item) (k p : ℕ) (x : Item) (o : Option Best) → AreAscendingItems items → k < length items → x ≡ get_or items k x → (x.1 == accept_state) ≡ true → p ≡ slice_index ps x.0
    → IsBest ps (accepts (take k items)) o → IsBest ps (accepts (take (k + 1) items)) (Some (raised o x.0 p))
best_taken ps items k p x o sorted l is final weight h =
    let more : take (k + 1) items ≡ take k items ++ x ∷ [] = take_more items k x l ∙ ap (λ y. take k items ++ y ∷ []) (sym is) in
    let all : accepts (take (k + 1) items) ≡ accepts (take k items) ++ x.0 ∷ [] = ap accepts more ∙ (accepts_more (take k items) x ∙ (rw final)) in
    subst (λ ys. IsBestOf ps ys (raised o x.0 p)) (sym all) (best_raised ps (accepts (take k items)) x.0 p o (λ j m. take_less items k x j sorted l is (eqb-true x.1 accept_state final) m) weight h)

pub best_passed : (ps : List ℕ) (items : List Item) (k : ℕ) (x : Item) (o : Option Best) → k < length items → x ≡ get_or items k x → (x.1 == accept_state) ≡ false → IsBest ps (accepts (take k items)) o → IsBest ps (accepts (take (k + 1) items)) o
best_passed ps items k x o l is final h =
    let more : take (k + 1) items ≡ take k items ++ x ∷ [] = take_more items k x l ∙ ap (λ y. take k items ++ y ∷ []) (sym is) in
    let all : accepts (take (k + 1) items) ≡ accepts (take k items) = ap accepts more ∙ (accepts_more (take k items) x ∙ (rw final (append-nil (accepts (take k items))))) in
    subst (λ ys. IsBest ps ys o) (sym all) h

-- ---- the kind
strongest_from : (ps : List ℕ) (s : List Item) (i : ℕ) → IsStrong ps (accepts s) i → IsStrongestIn ps s i
strongest_from ps s i h = (accepts_from s i h.0, λ j k. h.1 j (accepts_has s j k))

strong_from : (ps : List ℕ) (s : List Item) (i : ℕ) → IsStrongestIn ps s i → IsStrong ps (accepts s) i
strong_from ps s i h = (accepts_has s i h.0, λ j k. h.1 j (accepts_from s j k))

pub accepts_one : (ps : List ℕ) (s : List Item) (b : Best) → IsBestOf ps (accepts s) b → b.tied ≡ None → IsKindOf ps s (Accepts b.index)
accepts_one ps s b k none =
    let only : (j : ℕ) → IsStrong ps (accepts s) j → j ≡ b.index = (rw none at k.tied) in
    (strongest_from ps s b.index k.strong, λ j h. only j (strong_from ps s j h))

pub accepts_two : (ps : List ℕ) (s : List Item) (b : Best) (second : ℕ) → IsBestOf ps (accepts s) b → b.tied ≡ Some second → IsTied ps s b.index second
accepts_two ps s b second k some =
    let t : IsStrong ps (accepts s) second × (second < b.index) × ((j : ℕ) → IsStrong ps (accepts s) j → j < b.index → j ≤ second) = (rw some at k.tied) in
    record {
      greatest = strongest_from ps s b.index k.strong;
      second = strongest_from ps s second t.0;
      less = t.1;
      others = λ j h l. t.2 j (strong_from ps s j h) l;
      above = λ j h. k.above j (strong_from ps s j h);
    }

pub accepts_none : (ps : List ℕ) (s : List Item) → accepts s ≡ [] → is_dead s ≡ false → IsKindOf ps s Neither
accepts_none ps s none live = (live, λ i h. contains_none i (rw none at (accepts_has s i h)))

-- ---- what a loop over the items reads
pub read_member : (items s : List Item) (k : ℕ) (x : Item) → items ≡ s → k < length items → x ≡ get_or items k x → Contains s x
read_member items s k x same l is = (k, rw same at l, sym (rw same at is))

pub read_item : (ns : List Graph) (items s : List Item) (k : ℕ) (x : Item) → AreItemsOf ns s → items ≡ s → k < length items → x ≡ get_or items k x → IsItemOf ns x
read_item ns items s k x inside same l is = inside x (read_member items s k x same l is)

pub item_place : (ns : List Graph) (x : Item) → IsItemOf ns x → x.0 < length ns
item_place ns x h = slice_get_within ns x.0 h.0 h.1.0

pub weight_at : {P : Type 0} (f : P → ℕ) (ps : List P) (k : ℕ) (d : P) → k < length ps → f (get_or ps k d) ≡ slice_index (map f ps) k
weight_at f [] k d l = absurd (omega arith)
weight_at f (q ∷ ps) zero d l = refl
weight_at f (q ∷ ps) (suc k) d l = weight_at f ps k d (omega arith)

-- ---- the trees of one precedence
filter_push : (f : ℕ → Bool) (xs : List ℕ) (i : ℕ) → filter f (xs ++ i ∷ []) ≡ filter f xs ++ cond (f i) (i ∷ []) []
filter_push f [] i = refl
filter_push f (x ∷ xs) i = elim (f x) as (λ b. cond b (x ∷ filter f (xs ++ i ∷ [])) (filter f (xs ++ i ∷ [])) ≡ cond b (x ∷ filter f xs) (filter f xs) ++ cond (f i) (i ∷ []) []) [
  | true ↦ ap (λ ys. x ∷ ys) (filter_push f xs i)
  | false ↦ filter_push f xs i
]

module _ (ps : List ℕ) (items : List Item) (k p : ℕ) (x : Item) (l : k < length items) (here : x ≡ get_or items k x) where
  next_items : take (k + 1) items ≡ take k items ++ x ∷ []
  next_items = take_more items k x l ∙ ap (λ y. take k items ++ y ∷ []) (sym here)

  pub with_passed : (x.1 == accept_state) ≡ false → accepts_with ps (take (k + 1) items) p ≡ accepts_with ps (take k items) p
  with_passed other = ap (filter (λ i. slice_index ps i == p)) (ap accepts next_items ∙ (accepts_more (take k items) x ∙ (rw other (append-nil (accepts (take k items))))))

  with_accepted : (x.1 == accept_state) ≡ true → accepts (take (k + 1) items) ≡ accepts (take k items) ++ x.0 ∷ []
  with_accepted final = ap accepts next_items ∙ (accepts_more (take k items) x ∙ (rw final))

  pub with_weaker : (x.1 == accept_state) ≡ true → (slice_index ps x.0 == p) ≡ false → accepts_with ps (take (k + 1) items) p ≡ accepts_with ps (take k items) p
  with_weaker final weak = ap (filter (λ i. slice_index ps i == p)) (with_accepted final) ∙ (filter_push (λ i. slice_index ps i == p) (accepts (take k items)) x.0 ∙ (rw weak (append-nil (accepts_with ps (take k items) p))))

  pub with_taken : (x.1 == accept_state) ≡ true → (slice_index ps x.0 == p) ≡ true → accepts_with ps (take (k + 1) items) p ≡ accepts_with ps (take k items) p ++ x.0 ∷ []
  with_taken final is = ap (filter (λ i. slice_index ps i == p)) (with_accepted final) ∙ (filter_push (λ i. slice_index ps i == p) (accepts (take k items)) x.0 ∙ (rw is))

-- those with the best's precedence are the strongest
pub with_best : (ps : List ℕ) (s : List Item) (b : Best) → IsBestOf ps (accepts s) b → (i : ℕ) → Contains (accepts_with ps s b.precedence) i ↔ IsStrongestIn ps s i
with_best ps s b h i = (
  λ m. (let (there, e) = filter_has (λ j. slice_index ps j == b.precedence) (accepts s) i (has_from (accepts_with ps s b.precedence) i m) in
      let same : slice_index ps i ≡ slice_index ps b.index = eqb-true (slice_index ps i) b.precedence e ∙ sym h.weight in
      strongest_from ps s i (contains_from (accepts s) i there, λ j k. rw same (h.strong.1 j k))),
  λ t. (let strong = strong_from ps s i t in
      let low : slice_index ps i ≤ slice_index ps b.index = h.strong.1 i strong.0 in
      let high : slice_index ps b.index ≤ slice_index ps i = strong.1 b.index h.strong.0 in
      let same : slice_index ps i ≡ b.precedence = omega (arith, h.weight) in
      contains_from (accepts_with ps s b.precedence) i (has_filter (λ j. slice_index ps j == b.precedence) (accepts s) i (has_from (accepts s) i strong.0) (eq-eqb (slice_index ps i) b.precedence same))),
)

pub with_none : (ps : List ℕ) (s : List Item) → accepts s ≡ [] → (i : ℕ) → Contains [] i ↔ IsStrongestIn ps s i
with_none ps s none i = (λ m. absurd (contains_none i m), λ t. absurd (contains_none i (rw none at (accepts_has s i t.0))))

-- ---- they ascend
-- each is less than all later ones
abbrev pub AreRising : List ℕ → Type 0
AreRising [] = Unit {0}
AreRising (i ∷ is) = ((j : ℕ) → Has is j → i < j) × AreRising is

rising_push : (is : List ℕ) (i : ℕ) → AreRising is → ((j : ℕ) → Has is j → j < i) → AreRising (is ++ i ∷ [])
rising_push [] i r f = (λ j h. absurd h, tt)
rising_push (k ∷ is) i r f = (
  λ j h. elim (has_cases is (i ∷ []) j h) [
    | inl a ↦ r.0 j a
    | inr a ↦ elim a [ inl e ↦ omega (arith, e, f k (inl refl)) | inr b ↦ absurd b ]
  ],
  rising_push is i r.1 (λ j h. f j (inr h)),
)

rising_filter : (f : ℕ → Bool) (is : List ℕ) → AreRising is → AreRising (filter f is)
rising_filter f [] r = tt
rising_filter f (i ∷ is) r = elim (f i) as (λ b. AreRising (cond b (i ∷ filter f is) (filter f is))) [
  | true ↦ (λ j h. r.0 j (filter_has f is j h).0, rising_filter f is r.1)
  | false ↦ rising_filter f is r.1
]

rising_places : (is : List ℕ) → AreRising is → AreAscending is
rising_places [] r p q i j l a b = absurd (cc)
rising_places (k ∷ is) r zero q i j l a b = absurd (omega arith)
rising_places (k ∷ is) r (suc p) zero i j l a b = let e : Some k ≡ Some j = b in let f : k ≡ j = cc in omega (arith, f, r.0 i (has_at is p i a))
rising_places (k ∷ is) r (suc p) (suc q) i j l a b = rising_places is r.1 p q i j (omega arith) a b

accepts_rise : (items : List Item) → AreAscendingItems items → (k : ℕ) → k ≤ length items → AreRising (accepts (take k items))
accepts_rise items sorted zero l = tt
accepts_rise items sorted (suc k) l =
    let x : Item = get_or items k (0, 0) in
    let small : k < length items = omega arith in
    let at : slice_get items k ≡ Some x = slice_get-get_or items k (0, 0) small in
    let here : x ≡ get_or items k x = sym (get_or_from_slice_get items k x x at) in
    let next : k + 1 ≡ suc k = omega arith in
    let before = accepts_rise items sorted k (omega arith) in
    subst (λ (n : ℕ). AreRising (accepts (take n items))) next
    (subst (λ (ys : List Item). AreRising (accepts ys)) (sym (take_more items k x small ∙ ap (λ y. take k items ++ y ∷ []) (sym here)))
    (subst AreRising (sym (accepts_more (take k items) x)) (by_kind x k small here before (x.1 == accept_state) refl)))
  where
    by_kind : (x : Item) (k : ℕ) → k < length items → x ≡ get_or items k x → AreRising (accepts (take k items)) → (b : Bool) → (x.1 == accept_state) ≡ b → AreRising (accepts (take k items) ++ cond b (x.0 ∷ []) [])
    by_kind x k small here before true e = rising_push (accepts (take k items)) x.0 before (λ j h. take_less items k x j sorted small here (eqb-true x.1 accept_state e) (contains_from (accepts (take k items)) j h))
    by_kind x k small here before false e = rw (append-nil (accepts (take k items))) before

-- those of one precedence ascend
pub with_ascends : (ps : List ℕ) (s : List Item) (p : ℕ) → AreAscendingItems s → AreAscending (accepts_with ps s p)
with_ascends ps s p sorted =
    let all : AreRising (accepts s) = subst (λ (ys : List Item). AreRising (accepts ys)) (take_all (length s) s (omega arith)) (accepts_rise s sorted (length s) (omega arith)) in
    rising_places (accepts_with ps s p) (rising_filter (λ i. slice_index ps i == p) (accepts s) all)
