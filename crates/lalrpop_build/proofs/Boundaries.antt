-- Boundaries: numbers that ascend, and the values at which the blocks of a partition begin and are over.
use Rattle.std.proofs.Common.{◌≡◌, ℕ, zero, suc, ◌+◌, ◌-◌, ◌<◌, ◌≤◌, inl, inr, ◌↔◌, List, [], ◌∷◌, ◌++◌, length, take, get_or, refl, sym, ap, ◌∙◌, arith, Bool, true, false, not, nat_eq, eq-eqb, Bor, length-take}
use Rattle.std.specs.Prelude.{slice_get, Some, None, Option, Result, Ok, Err, IfOk}
use Rattle.std.specs.List.{Contains}
use Rattle.std.specs.Option.{option_eq, option_copied}
use Rattle.std.proofs.lemmas.Option.{slice_get_within, slice_get-get_or, get_or_from_slice_get}
use Rattle.std.proofs.lemmas.List.{take_more, get_or-take}
use Rattle.std.proofs.lemmas.List.Elements.{Contains-push, Contains-push_cases, Contains-append_left}
use Rattle.std.proofs.lemmas.Bool.{cases_lt}
use Rattle.lalrpop_hir.specs.Range.{Range, Covers}
use Rattle.lalrpop_nfa.specs.Partition.{AreAscending, IsPartition}
use Rattle.lalrpop_nfa.proofs.BlockCover.{block_of_covered}
use Rattle.lalrpop_nfa.proofs.PartitionLaws.{block_in_or_out}
use Rattle.lalrpop_hir.proofs.Pushed.{pushed_cases}
use Rattle.lalrpop_build.specs.declared.alphabet.groups.Labels.{Labels}
use Rattle.lalrpop_build.specs.Internal.Alphabet.{IsEndOf}
use Rattle.lalrpop_build.specs.Internal.Grouped.{HasLabel, AreBoundaries}
use Rattle.lalrpop_build.specs.Internal.Boundaries.{AreRising, HoldOne, HasAlso, AreEndsOf}

-- the element at a place is an element
element_at : {X : Type 0} (xs : List X) (k : ℕ) (x : X) → slice_get xs k ≡ Some x → Contains xs x
element_at xs k x h = (k, slice_get_within xs k x h, get_or_from_slice_get xs k x x h)

-- ---- one more boundary
-- one more that is above all of them
pub rising_more : (vs : List ℕ) (w : ℕ) → AreRising vs → ((v : ℕ) → Contains vs v → v < w) → AreRising (vs ++ w ∷ [])
rising_more vs w a above j k u v p q l = elim (pushed_cases vs w k v q) [
  | inl old ↦ elim (pushed_cases vs w j u p) [
    | inl first ↦ a j k u v first old l
    | inr first ↦ absurd (omega (arith, slice_get_within vs k v old, first.0))
  ]
  | inr new ↦ elim (pushed_cases vs w j u p) [
    | inl first ↦ (let m : u < w = above u (element_at vs j u first) in omega (arith, new.1))
    | inr first ↦ absurd (omega (arith, new.0, first.0))
  ]
]

-- all are below a number that is not below them and is not the last one
pub above_all : (vs : List ℕ) (w : ℕ) → AreRising vs → ((v : ℕ) → Contains vs v → v ≤ w) → ¬ (slice_get vs (length vs - 1) ≡ Some w) → (v : ℕ) → Contains vs v → v < w
above_all vs w a within other v (k, l, e) =
    let d : ℕ = get_or vs (length vs - 1) 0 in
    let last : slice_get vs (length vs - 1) ≡ Some d = slice_get-get_or vs (length vs - 1) 0 (omega arith) in
    let below : d ≤ w = within d (element_at vs (length vs - 1) d last) in
    let at : slice_get vs k ≡ Some v = slice_get-get_or vs k v l ∙ ap (λ x. Some x) e in
    elim (cases_lt d w) [
      | inl less ↦ elim (cases_lt k (length vs - 1)) [
        | inl before ↦ (let m : v < d = a k (length vs - 1) v d at last before in omega arith)
        | inr here ↦
            (let same : k ≡ length vs - 1 = omega arith in
            let e2 : Some v ≡ Some d = sym at ∙ ap (λ i. slice_get vs i) same ∙ last in
            let e3 : v ≡ d = cc in omega arith)
      ]
      | inr not_less ↦ (let is : d ≡ w = omega arith in absurd (other (last ∙ ap (λ x. Some x) is)))
    ]

-- what the code finds to differ from the last one is not the last one
pub not_last : (o : Option (Bor ℕ)) (b : Bor ℕ) (w : ℕ) (t : Bool) → t ≡ not (option_eq (λ x y. nat_eq x.now y.now) o (Some b)) → t ≡ true → b.now ≡ w → option_copied o ≡ Some w → ⊥
not_last None b w t e f is h = cc
not_last (Some x) b w t e f is h =
    let same : x.now ≡ w = cc in
    let yes : nat_eq x.now b.now ≡ true = eq-eqb x.now b.now (same ∙ sym is) in
    let no : t ≡ false = rw yes at e in
    cc

-- ---- the ends of blocks
later_hold_one : (x : Range) (xs : List Range) → HoldOne (x ∷ xs) → HoldOne xs
later_hold_one x xs n z (k, l, e) = n z (suc k, omega (arith, l), e)

-- each block ends before the later ones begin
ascends_by_place : (xs : List Range) (j i : ℕ) (d f : Range) → AreAscending xs → HoldOne xs → j < i → i < length xs → (get_or xs j d).end < (get_or xs i f).start
ascends_by_place [] j i d f a n l m = absurd (omega arith)
ascends_by_place (x ∷ []) j i d f a n l m = absurd (omega arith)
ascends_by_place (x ∷ y ∷ ys) j zero d f a n l m = absurd (omega arith)
ascends_by_place (x ∷ y ∷ ys) zero (suc zero) d f a n l m = a.0
ascends_by_place (x ∷ y ∷ ys) zero (suc (suc i)) d f a n l m =
    let later : y.end < (get_or ys i f).start = ascends_by_place (y ∷ ys) zero (suc i) d f a.1 (later_hold_one x (y ∷ ys) n) (omega arith) (omega arith) in
    omega (arith, a.0, n y (1, omega arith, refl))
ascends_by_place (x ∷ y ∷ ys) (suc j) (suc i) d f a n l m = ascends_by_place (y ∷ ys) j i d f a.1 (later_hold_one x (y ∷ ys) n) (omega arith) (omega arith)

-- one more block
module _ (xs : List Range) (i : ℕ) (x : Range) (boundaries : List ℕ) (a : AreAscending xs) (n : HoldOne xs) (l : i < length xs) (is : x ≡ get_or xs i x) (ends : AreEndsOf (take i xs) boundaries) where
  pub holds_one : x.start ≤ x.end
  holds_one = n x (i, l, sym is)

  pub start_not_below : (v : ℕ) → Contains boundaries v → v ≤ x.start
  start_not_below v h =
      let (y, ((j, m, e), (some, place))) = (ends v).0 h in
      let k : j < i = omega (arith, m, length-take i xs) in
      let at : get_or xs j y ≡ y = sym (get_or-take i xs j y k) ∙ e in
      let before : y.end < x.start = rw (← at, is) (ascends_by_place xs j i y x a n k l) in
      elim place [ inl s ↦ omega (arith, s, some) | inr t ↦ omega (arith, t) ]

  module _ (boundaries2 : List ℕ) (started : HasAlso boundaries x.start boundaries2) where
    pub end_not_below : (v : ℕ) → Contains boundaries2 v → v ≤ x.end + 1
    end_not_below v h = elim ((started v).0 h) [
      | inl old ↦ omega (arith, start_not_below v old, holds_one)
      | inr s ↦ omega (arith, s, holds_one)
    ]

    module _ (boundaries3 : List ℕ) (ended : HasAlso boundaries2 (x.end + 1) boundaries3) where
      pub still_within : ((v : ℕ) → Contains boundaries v → v ≤ 4294967296) → x.end < 4294967296 → (v : ℕ) → Contains boundaries3 v → v ≤ 4294967296
      still_within within fits v h = elim ((ended v).0 h) [
        | inl old ↦ elim ((started v).0 old) [ inl older ↦ within v older | inr s ↦ omega (arith, s, holds_one) ]
        | inr t ↦ omega (arith, t)
      ]

      pub ends_more : AreEndsOf (take (i + 1) xs) boundaries3
      ends_more v = (to, from)
        where
          more : take (i + 1) xs ≡ take i xs ++ x ∷ []
          more = take_more xs i x l ∙ ap (λ y. take i xs ++ y ∷ []) (sym is)

          new : Contains (take (i + 1) xs) x
          new = rw more (Contains-push (take i xs) x)

          to : Contains boundaries3 v → (y : Range) × (Contains (take (i + 1) xs) y × IsEndOf y v)
          to h = elim ((ended v).0 h) [
            | inl old ↦ elim ((started v).0 old) [
              | inl older ↦ (let (y, (at, end)) = (ends v).0 older in (y, (rw more (Contains-append_left (take i xs) (x ∷ []) y at), end)))
              | inr s ↦ (x, (new, (holds_one, inl s)))
            ]
            | inr t ↦ (x, (new, (holds_one, inr t)))
          ]

          from : ((y : Range) × (Contains (take (i + 1) xs) y × IsEndOf y v)) → Contains boundaries3 v
          from (y, (at, end)) = elim (Contains-push_cases (take i xs) x y (rw more at at)) [
            | inl old ↦ (ended v).1 (inl ((started v).1 (inl ((ends v).1 (y, (old, end))))))
            | inr e ↦ elim end.1 [
              | inl s ↦ (ended v).1 (inl ((started v).1 (inr (rw e s))))
              | inr t ↦ (ended v).1 (inr (rw e t))
            ]
          ]

-- ---- a label is a run of blocks: one begins with it, and one is over with it
module _ (rs xs : List Range) (h : IsPartition (Contains rs) xs) (r : Range) (m : Contains rs r) (some : r.start ≤ r.end) where
  block_at : (c : ℕ) → Covers r c → (x : Range) × (Contains xs x × Covers x c × ((d : ℕ) → Covers x d → Covers r d))
  block_at c k =
      let (x, (a, l)) = block_of_covered (Contains rs) rs (λ s. ((λ z. z), (λ z. z))) xs h c (r, (m, k)) in
      elim (block_in_or_out (Contains rs) xs h x r a m) [
        | inl inside ↦ (x, (a, l, inside))
        | inr outside ↦ absurd (outside c l k)
      ]

  pub ends_of_blocks : (v : ℕ) → IsEndOf r v → (x : Range) × (Contains xs x × IsEndOf x v)
  ends_of_blocks v (one, inl s) =
      let (x, (a, l, inside)) = block_at r.start (omega arith, some) in
      let here : x.start ≤ x.end = omega (arith, l.0, l.1) in
      let low : r.start ≤ x.start = (inside x.start (omega arith, here)).0 in
      (x, (a, (here, inl (omega (arith, l.0, s)))))
  ends_of_blocks v (one, inr t) =
      let (x, (a, l, inside)) = block_at r.end (some, omega arith) in
      let here : x.start ≤ x.end = omega (arith, l.0, l.1) in
      let high : x.end ≤ r.end = (inside x.end (here, omega arith)).1 in
      (x, (a, (here, inr (omega (arith, l.1, t)))))

module _ (lists : List Labels) (labels blocks : List Range) where
  are_boundaries : (boundaries : List ℕ) → ((r : Range) → Contains labels r ↔ ((n : ℕ) × HasLabel lists n r)) → IsPartition (Contains labels) blocks → AreRising boundaries → ((v : ℕ) → Contains boundaries v → v ≤ 4294967296) → AreEndsOf blocks boundaries → AreBoundaries lists boundaries
  are_boundaries boundaries same partition rising within ends = record {
    rising = rising;
    within = within;
    all = λ n v r here end. (ends v).1 (ends_of_blocks labels blocks partition r ((same r).1 (n, here)) end.0 v end);
  }

  -- the ends of the blocks of all labels
  pub boundaries_are : {X E : Type 0} (result : Result X E) (items : X → List ℕ) → ((r : Range) → Contains labels r ↔ ((n : ℕ) × HasLabel lists n r)) → IsPartition (Contains labels) blocks
      → IfOk result (λ x. AreRising (items x)) → IfOk result (λ x. (v : ℕ) → Contains (items x) v → v ≤ 4294967296) → IfOk result (λ x. AreEndsOf blocks (items x)) → IfOk result (λ x. AreBoundaries lists (items x))
  boundaries_are (Ok x) items same partition rising within ends = are_boundaries (items x) same partition rising within ends
  boundaries_are (Err e) items same partition rising within ends = tt
