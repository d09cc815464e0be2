-- A sweep over the starts and the ends of ranges, each in ascending order.
use Rattle.std.proofs.Common.{◌≡◌, ℕ, ◌+◌, ◌-◌, ◌*◌, ◌<◌, ◌≤◌, ◌⊎◌, inl, inr, ⊎_elim, List, [], ◌∷◌, ◌++◌, length, map, refl, sym, ap, ◌∙◌, arith, true, false, Bool, cond, ◌&&◌, get_or, leb, zero, suc, count_by, slice_index_or}
use Rattle.std.specs.List.{Contains, filter}
use Rattle.std.specs.List.Sorted.{IsPermutation, IsNonDecreasing}
use Rattle.std.proofs.lemmas.List.{length_push, get_or_default, length-map}
use Rattle.std.proofs.lemmas.List.Elements.{Contains-get_or}
use Rattle.std.proofs.lemmas.List.Sorted.{IsPermutation-sym, Contains-permutation, sum_by-IsPermutation, length_permutation}
use Rattle.std.proofs.lemmas.List.Sums.{sum_by-cons, length-filter}
use Rattle.std.proofs.lemmas.Bool.{cases_lt, cases_Bool, le-leb, lt-leb, leb-true, leb-false, and_from, and_parts}
use Rattle.std.proofs.lemmas.Bool.Decides.{nat_tests}
use Rattle.lalrpop_hir.specs.Range.{Range, Covers}
use Rattle.lalrpop_nfa.specs.Partition.{IsCovered, has_value, IsPartition}
use Rattle.lalrpop_nfa.specs.Internal.Sweep.{starts_of, ends_of}
use Rattle.lalrpop_nfa.proofs.Cells.{IsBoundary, BlocksBelow, parts_none, parts_kept, parts_passed, zero_is_boundary}
use Rattle.lalrpop_nfa.proofs.Partition.{IsPartition-from_parts}

-- the numbers of the first list, in ascending order
pub record IsSortOf (xs ys : List ℕ) : Type 0 where
  pub permutation : IsPermutation xs ys
  pub ascending : IsNonDecreasing ys

-- the first n numbers, with d added to each, are at most v, and the others at least w
pub record Split (d : ℕ) (xs : List ℕ) (n v w : ℕ) : Type 0 where
  pub within : n ≤ length xs
  pub below : (k : ℕ) → k < n → get_or xs k 0 + d ≤ v
  pub above : (k : ℕ) → n ≤ k → k < length xs → w ≤ get_or xs k 0 + d

abbrev tick : Bool → ℕ
tick b = cond b 1 0

-- the number of entries that, with d added, are at most v
abbrev up_to : ℕ → ℕ → List ℕ → ℕ
up_to d v xs = count_by (λ x. leb (x + d) v) xs

abbrev contains : ℕ → Range → Bool
contains v r = leb r.start v && leb v r.end

count_cons : {X : Type 0} (p : X → Bool) (x : X) (xs : List X) → count_by p (x ∷ xs) ≡ tick (p x) + count_by p xs
count_cons p x xs = sum_by-cons (λ y. cond (p y) 1 0) x xs

split_count : (d : ℕ) (xs : List ℕ) (n v w : ℕ) → Split d xs n v w → v < w → up_to d v xs ≡ n
split_count d [] n v w h l = let e : n ≤ 0 = h.within in omega arith
split_count d (x ∷ xs) zero v w h l =
    let first : w ≤ x + d = h.above 0 (omega arith) (omega arith) in
    let rest : up_to d v xs ≡ 0 = split_count d xs 0 v w (record { within = omega arith; below = λ k a. absurd (omega arith); above = λ k a b. h.above (suc k) (omega arith) (omega arith) }) l in
    let e : up_to d v (x ∷ xs) ≡ tick (leb (x + d) v) + up_to d v xs = count_cons (λ (y : ℕ). leb (y + d) v) x xs in
    let f : tick (leb (x + d) v) ≡ 0 = ap tick (lt-leb (x + d) v (omega arith)) in
    omega arith
split_count d (x ∷ xs) (suc n) v w h l =
    let first : x + d ≤ v = h.below 0 (omega arith) in
    let whole : suc n ≤ suc (length xs) = h.within in
    let rest : up_to d v xs ≡ n =
    split_count d xs n v w (record { within = omega arith; below = λ k a. h.below (suc k) (omega arith); above = λ k a b. h.above (suc k) (omega arith) (omega arith) }) l in
    let e : up_to d v (x ∷ xs) ≡ tick (leb (x + d) v) + up_to d v xs = count_cons (λ (y : ℕ). leb (y + d) v) x xs in
    let f : tick (leb (x + d) v) ≡ 1 = ap tick (le-leb (x + d) v first) in
    omega arith

one_open : (s e v : ℕ) → s ≤ e → tick (leb (s + 0) v) ≡ tick (leb (e + 1) v) + tick (leb s v && leb v e)
one_open s e v l = grind (arith, nat_tests)

none_open : (s e v : ℕ) → e < s → tick (leb s v && leb v e) ≡ 0
none_open s e v l = grind (arith, nat_tests)

-- what holds of both lists if the head is nonempty, and if it is empty
count_step : (r : Range) (rs : List Range) (v : ℕ) → up_to 0 v (starts_of rs) ≡ up_to 1 v (ends_of rs) + count_by (contains v) rs → (b : Bool) → has_value r ≡ b
    → up_to 0 v (map (λ x. x.start) (cond b (r ∷ filter has_value rs) (filter has_value rs))) ≡ up_to 1 v (map (λ x. x.end) (cond b (r ∷ filter has_value rs) (filter has_value rs))) + count_by (contains v) (r ∷ rs)
count_step r rs v rest true e =
    let a : up_to 0 v (r.start ∷ starts_of rs) ≡ tick (leb (r.start + 0) v) + up_to 0 v (starts_of rs) = count_cons (λ (y : ℕ). leb (y + 0) v) r.start (starts_of rs) in
    let b : up_to 1 v (r.end ∷ ends_of rs) ≡ tick (leb (r.end + 1) v) + up_to 1 v (ends_of rs) = count_cons (λ (y : ℕ). leb (y + 1) v) r.end (ends_of rs) in
    let d : count_by (contains v) (r ∷ rs) ≡ tick (contains v r) + count_by (contains v) rs = count_cons (contains v) r rs in
    omega (arith, a, b, d, rest, one_open r.start r.end v (leb-true r.start r.end e))
count_step r rs v rest false e =
    let d : count_by (contains v) (r ∷ rs) ≡ tick (contains v r) + count_by (contains v) rs = count_cons (contains v) r rs in
    omega (arith, d, rest, none_open r.start r.end v (leb-false r.start r.end e))

-- the ranges that have begun are those that are over and those that contain v
open_count : (rs : List Range) (v : ℕ) → up_to 0 v (starts_of rs) ≡ up_to 1 v (ends_of rs) + count_by (contains v) rs
open_count [] v = refl
open_count (r ∷ rs) v = count_step r rs v (open_count rs v) (has_value r) refl

contains_iff : (r : Range) (v : ℕ) → (Covers r v → contains v r ≡ true) × (contains v r ≡ true → Covers r v)
contains_iff r v = (
  λ (a, b). and_from (leb r.start v) (leb v r.end) (le-leb r.start v a) (le-leb v r.end b),
  λ h. let e : (leb r.start v ≡ true) × (leb v r.end ≡ true) = and_parts (leb r.start v) (leb v r.end) h in (leb-true r.start v e.0, leb-true v r.end e.1),
)

covered_count : (rs : List Range) (v : ℕ) (r : Range) (k : ℕ) → k < length rs → slice_index_or rs k r ≡ r → Covers r v → 0 < count_by (contains v) rs
covered_count [] v r k l e a = absurd (omega arith)
covered_count (x ∷ rs) v r zero l e a =
    let d : count_by (contains v) (x ∷ rs) ≡ tick (contains v x) + count_by (contains v) rs = count_cons (contains v) x rs in
    let yes : contains v x ≡ true = rw e ((contains_iff r v).0 a) in
    let f : tick (contains v x) ≡ 1 = ap tick yes in
    omega arith
covered_count (x ∷ rs) v r (suc k) l e a =
    let d : count_by (contains v) (x ∷ rs) ≡ tick (contains v x) + count_by (contains v) rs = count_cons (contains v) x rs in
    let rest : 0 < count_by (contains v) rs = covered_count rs v r k (omega arith) e a in
    omega arith

counted_covered : (rs : List Range) (v : ℕ) → 0 < count_by (contains v) rs → IsCovered (Contains rs) v
counted_covered [] v h = absurd (omega arith)
counted_covered (x ∷ rs) v h =
    let d : count_by (contains v) (x ∷ rs) ≡ tick (contains v x) + count_by (contains v) rs = count_cons (contains v) x rs in
    ⊎_elim
    (λ (e : contains v x ≡ true). (x, ((0, omega arith, refl), (contains_iff x v).1 e)))
    (λ (e : contains v x ≡ false).
    let f : tick (contains v x) ≡ 0 = ap tick e in
    let (r, ((k, l, g), a)) = counted_covered rs v (omega arith) in
    (r, ((suc k, omega arith, g), a)))
    (cases_Bool (contains v x))

-- a nonempty range gives its number
listed_here : (f : Range → ℕ) (x : Range) (rs : List Range) (r : Range) (b : Bool) → has_value x ≡ b → x ≡ r → r.start ≤ r.end → Contains (map f (cond b (x ∷ filter has_value rs) (filter has_value rs))) (f r)
listed_here f x rs r true h e a = (0, omega arith, ap f e)
listed_here f x rs r false h e a =
    let s : x.start ≡ r.start = ap (λ (y : Range). y.start) e in
    let t : x.end ≡ r.end = ap (λ (y : Range). y.end) e in
    absurd (omega (arith, leb-false x.start x.end h))

listed_there : (f : Range → ℕ) (x : Range) (rs : List Range) (c : ℕ) (b : Bool) → Contains (map f (filter has_value rs)) c → Contains (map f (cond b (x ∷ filter has_value rs) (filter has_value rs))) c
listed_there f x rs c true (k, l, e) = (suc k, omega arith, e)
listed_there f x rs c false h = h

listed : (f : Range → ℕ) (rs : List Range) (r : Range) (k : ℕ) → k < length rs → slice_index_or rs k r ≡ r → r.start ≤ r.end → Contains (map f (filter has_value rs)) (f r)
listed f [] r k l e a = absurd (omega arith)
listed f (x ∷ rs) r zero l e a = listed_here f x rs r (has_value x) refl e a
listed f (x ∷ rs) r (suc k) l e a = listed_there f x rs (f r) (has_value x) (listed f rs r k (omega arith) e a)

-- and each number comes from a nonempty range
abbrev ComesFrom : (Range → ℕ) → List Range → ℕ → Type 0
ComesFrom f rs c = (r : Range) × (Contains rs r × (r.start ≤ r.end) × (c ≡ f r))

comes_later : (f : Range → ℕ) (x : Range) (rs : List Range) (c : ℕ) → ComesFrom f rs c → ComesFrom f (x ∷ rs) c
comes_later f x rs c (r, ((k, l, e), a, b)) = (r, ((suc k, omega arith, e), a, b))

comes_step : (f : Range → ℕ) (x : Range) (rs : List Range) (c : ℕ) (b : Bool) → has_value x ≡ b → (Contains (map f (filter has_value rs)) c → ComesFrom f rs c)
    → Contains (map f (cond b (x ∷ filter has_value rs) (filter has_value rs))) c → ComesFrom f (x ∷ rs) c
comes_step f x rs c true h rest (zero, l, e) = (x, ((0, omega arith, refl), leb-true x.start x.end h, sym e))
comes_step f x rs c true h rest (suc k, l, e) = comes_later f x rs c (rest (k, omega arith, e))
comes_step f x rs c false h rest k = comes_later f x rs c (rest k)

comes_from : (f : Range → ℕ) (rs : List Range) (c : ℕ) → Contains (map f (filter has_value rs)) c → ComesFrom f rs c
comes_from f [] c (k, l, e) = absurd (omega arith)
comes_from f (x ∷ rs) c h = comes_step f x rs c (has_value x) refl (comes_from f rs c) h

-- no number of a list in order lies between v and w, where it is split
apart : (d : ℕ) (xs ys : List ℕ) (n v w y : ℕ) → IsSortOf xs ys → Split d ys n v w → Contains xs y → v < y + d → y + d < w → ⊥
apart d xs ys n v w y s t h a b =
    let (m, l, e) = Contains-permutation xs ys y s.permutation h in
    let g : get_or ys m 0 ≡ y = get_or_default ys m 0 y l ∙ e in
    ⊎_elim (λ (x : m < n). omega (arith, t.below m x)) (λ (x : n ≤ m). omega (arith, t.above m x l)) (cases_lt m n)

-- what one step pushes, if anything
abbrev pub Turn : List Range → List Range → ℕ → ℕ → ℕ → ℕ → Type 0
Turn blocks parts2 i j from next = ((from < next) × (j < i) × (parts2 ≡ blocks ++ record { start = from; end = next - 1 } ∷ [])) ⊎ ((from < next → i ≤ j) × (parts2 ≡ blocks))

turn_count : (blocks parts2 : List Range) (i j from next : ℕ) → Turn blocks parts2 i j from next → length blocks ≤ (i + j) - 1 → length parts2 ≤ i + j
turn_count blocks parts2 i j from next (inl (a, b, e)) h = rw e (omega (arith, h, b, length_push blocks (record { start = from; end = next - 1 })))
turn_count blocks parts2 i j from next (inr (a, e)) h = rw e (omega (arith, h))

-- one step: i of the starts and j of the ends are at `from` or below, and the others at `next` or above
module _ (rs : List Range) (starts ends : List ℕ) (ss : IsSortOf (starts_of rs) starts) (es : IsSortOf (ends_of rs) ends) (i j from next : ℕ) (s : Split 0 starts i from next) (t : Split 1 ends j from next) where
  -- more ranges have begun than are over exactly if some range contains `from`
  open_is_covered : from < next → (j < i → IsCovered (Contains rs) from) × (IsCovered (Contains rs) from → j < i)
  open_is_covered l =
      let a : up_to 0 from starts ≡ i = split_count 0 starts i from next s l in
      let b : up_to 1 from ends ≡ j = split_count 1 ends j from next t l in
      let p : up_to 0 from starts ≡ up_to 0 from (starts_of rs) = sum_by-IsPermutation (λ (x : ℕ). tick (leb (x + 0) from)) (starts_of rs) starts ss.permutation in
      let q : up_to 1 from ends ≡ up_to 1 from (ends_of rs) = sum_by-IsPermutation (λ (x : ℕ). tick (leb (x + 1) from)) (ends_of rs) ends es.permutation in
      let o : up_to 0 from (starts_of rs) ≡ up_to 1 from (ends_of rs) + count_by (contains from) rs = open_count rs from in (
        λ m. counted_covered rs from (omega arith),
        λ (r, ((k, kl, e), c)). let m : 0 < count_by (contains from) rs = covered_count rs from r k kl e c in omega arith,
      )

  no_boundary_between : (c : ℕ) → from < c → c < next → ¬ IsBoundary (Contains rs) c
  no_boundary_between c a b (r, ((k, l, e), some, inl is)) =
      apart 0 (starts_of rs) starts i from next r.start ss s (listed (λ (x : Range). x.start) rs r k l e some) (omega arith) (omega arith)
  no_boundary_between c a b (r, ((k, l, e), some, inr is)) =
      apart 1 (ends_of rs) ends j from next r.end es t (listed (λ (x : Range). x.end) rs r k l e some) (omega arith) (omega arith)

  swept : (blocks parts2 : List Range) → BlocksBelow (Contains rs) blocks from → (IsBoundary (Contains rs) from) ⊎ (from ≡ 0) → from ≤ next → Turn blocks parts2 i j from next → BlocksBelow (Contains rs) parts2 next
  swept blocks parts2 h boundary l (inl (a, b, e)) =
      let covered : IsCovered (Contains rs) from = (open_is_covered a).0 b in
      let is : IsBoundary (Contains rs) from = ⊎_elim (λ (x : IsBoundary (Contains rs) from). x) (λ (z : from ≡ 0). zero_is_boundary (Contains rs) from z covered) boundary in
      rw e (parts_kept (Contains rs) blocks from next h a is no_boundary_between covered)
  swept blocks parts2 h boundary l (inr (none, e)) =
      rw e (⊎_elim
      (λ (a : from < next). parts_passed (Contains rs) blocks from next h no_boundary_between (λ c. omega (arith, (open_is_covered a).1 c, none a)) l)
      (λ (a : next ≤ from). let same : next ≡ from = omega arith in rw same h)
      (cases_lt from next))

-- past the last end the blocks are all blocks
swept_all : (rs : List Range) (ends : List ℕ) (blocks : List Range) (from : ℕ) → IsSortOf (ends_of rs) ends → ((k : ℕ) → k < length ends → get_or ends k 0 + 1 ≤ from) → BlocksBelow (Contains rs) blocks from
    → IsPartition (Contains rs) blocks
swept_all rs ends blocks from es past h = IsPartition-from_parts (Contains rs) blocks from h no_boundary_after
  where
    over : (r : Range) → Contains rs r → r.start ≤ r.end → r.end + 1 ≤ from
    over r (k, l, e) some =
        let (m, ml, f) = Contains-permutation (ends_of rs) ends r.end es.permutation (listed (λ (x : Range). x.end) rs r k l e some) in
        let g : get_or ends m 0 ≡ r.end = get_or_default ends m 0 r.end ml ∙ f in
        omega (arith, past m ml)

    no_boundary_after : (c : ℕ) → from < c → ¬ IsBoundary (Contains rs) c
    no_boundary_after c a (r, (k, some, inl is)) = omega (arith, over r k some)
    no_boundary_after c a (r, (k, some, inr is)) = omega (arith, over r k some)

-- the next number is taken up
split_taken : (d : ℕ) (xs : List ℕ) (n from next : ℕ) → IsNonDecreasing xs → Split d xs n from from → n < length xs → next ≡ get_or xs n 0 + d → Split d xs (n + 1) next next
split_taken d xs n from next up h l e = record {
  within = omega arith;
  below = λ k a. omega (arith, up k n 0 (omega arith) l);
  above = λ k a b. omega (arith, up n k 0 (omega arith) b);
}

-- the next number is at the next boundary or above
split_left : (d : ℕ) (xs : List ℕ) (n from next : ℕ) → IsNonDecreasing xs → Split d xs n from from → (n < length xs → next ≤ get_or xs n 0 + d) → Split d xs n from next
split_left d xs n from next up h least = record {
  within = h.within;
  below = h.below;
  above = λ k a b. omega (arith, up n k 0 a b, least (omega arith));
}

split_kept : (d : ℕ) (xs : List ℕ) (n from next : ℕ) → Split d xs n from next → from ≤ next → Split d xs n next next
split_kept d xs n from next h l = record {
  within = h.within;
  below = λ k a. omega (arith, h.below k a);
  above = h.above;
}

split_none : (d : ℕ) (xs : List ℕ) → Split d xs 0 0 0
split_none d xs = record { within = omega arith; below = λ k a. absurd (omega arith); above = λ k a b. omega arith }

-- a start, and the value after an end, are boundaries
start_is_boundary : (rs : List Range) (starts : List ℕ) (i : ℕ) → IsSortOf (starts_of rs) starts → i < length starts → IsBoundary (Contains rs) (get_or starts i 0)
start_is_boundary rs starts i s l =
    let (r, (k, some, e)) = comes_from (λ (x : Range). x.start) rs (get_or starts i 0) (Contains-permutation starts (starts_of rs) (get_or starts i 0) (IsPermutation-sym (starts_of rs) starts s.permutation) (Contains-get_or starts i 0 l)) in
    (r, (k, some, inl e))

end_is_boundary : (rs : List Range) (ends : List ℕ) (i : ℕ) → IsSortOf (ends_of rs) ends → i < length ends → IsBoundary (Contains rs) (get_or ends i 0 + 1)
end_is_boundary rs ends i s l =
    let (r, (k, some, e)) = comes_from (λ (x : Range). x.end) rs (get_or ends i 0) (Contains-permutation ends (ends_of rs) (get_or ends i 0) (IsPermutation-sym (ends_of rs) ends s.permutation) (Contains-get_or ends i 0 l)) in
    (r, (k, some, inr (ap (λ (x : ℕ). x + 1) e)))

-- there are as many starts, and as many ends, as nonempty ranges
sort_length : (f : Range → ℕ) (rs : List Range) (ys : List ℕ) → IsSortOf (map f (filter has_value rs)) ys → length ys ≡ count_by has_value rs
sort_length f rs ys s = length_permutation (map f (filter has_value rs)) ys s.permutation ∙ length-map (filter has_value rs) f ∙ length-filter has_value rs

-- the sweep so far: i starts and j ends are taken up, and the blocks of the values below `from` are made
pub record Swept (rs : List Range) (starts ends : List ℕ) (blocks : List Range) (i j from : ℕ) : Type 0 where
  pub starts_sorted : IsSortOf (starts_of rs) starts
  pub ends_sorted : IsSortOf (ends_of rs) ends
  pub blocks_below : BlocksBelow (Contains rs) blocks from
  pub boundary : (IsBoundary (Contains rs) from) ⊎ (from ≡ 0)
  pub count : length blocks ≤ (i + j) - 1
  pub starts_split : Split 0 starts i from from
  pub ends_split : Split 1 ends j from from

pub swept_none : (rs : List Range) (starts ends : List ℕ) → IsSortOf (starts_of rs) starts → IsSortOf (ends_of rs) ends → Swept rs starts ends [] 0 0 0
swept_none rs starts ends ss es = record {
  starts_sorted = ss;
  ends_sorted = es;
  blocks_below = parts_none (Contains rs);
  boundary = inr refl;
  count = omega arith;
  starts_split = split_none 0 starts;
  ends_split = split_none 1 ends;
}

module _ (rs : List Range) (starts ends : List ℕ) (blocks parts2 : List Range) (i j from next : ℕ) (h : Swept rs starts ends blocks i j from) (turn : Turn blocks parts2 i j from next) where
  -- the next start is taken up
  pub swept_start : i < length starts → next ≡ get_or starts i 0 → next ≤ get_or ends j 0 + 1 → Swept rs starts ends parts2 (i + 1) j next
  swept_start l e least =
      let up : from ≤ next = omega (arith, h.starts_split.above i (omega arith) l) in
      let s : Split 0 starts i from next = split_left 0 starts i from next h.starts_sorted.ascending h.starts_split (λ x. omega arith) in
      let t : Split 1 ends j from next = split_left 1 ends j from next h.ends_sorted.ascending h.ends_split (λ x. least) in
      record {
        starts_sorted = h.starts_sorted;
        ends_sorted = h.ends_sorted;
        blocks_below = swept rs starts ends h.starts_sorted h.ends_sorted i j from next s t blocks parts2 h.blocks_below h.boundary up turn;
        boundary = inl (rw e (start_is_boundary rs starts i h.starts_sorted l));
        count = omega (arith, turn_count blocks parts2 i j from next turn h.count);
        starts_split = split_taken 0 starts i from next h.starts_sorted.ascending h.starts_split l (omega arith);
        ends_split = split_kept 1 ends j from next t up;
      }

  -- the next end is taken up
  pub swept_end : j < length ends → next ≡ get_or ends j 0 + 1 → (i < length starts → next ≤ get_or starts i 0) → Swept rs starts ends parts2 i (j + 1) next
  swept_end l e least =
      let up : from ≤ next = omega (arith, h.ends_split.above j (omega arith) l) in
      let s : Split 0 starts i from next = split_left 0 starts i from next h.starts_sorted.ascending h.starts_split (λ x. omega (arith, least x)) in
      let t : Split 1 ends j from next = split_left 1 ends j from next h.ends_sorted.ascending h.ends_split (λ x. omega arith) in
      record {
        starts_sorted = h.starts_sorted;
        ends_sorted = h.ends_sorted;
        blocks_below = swept rs starts ends h.starts_sorted h.ends_sorted i j from next s t blocks parts2 h.blocks_below h.boundary up turn;
        boundary = inl (rw e (end_is_boundary rs ends j h.ends_sorted l));
        count = omega (arith, turn_count blocks parts2 i j from next turn h.count);
        starts_split = split_kept 0 starts i from next s up;
        ends_split = split_taken 1 ends j from next h.ends_sorted.ascending h.ends_split l e;
      }

-- all is taken up: the list is the partition, of fewer blocks than the starts and the ends together
pub swept_blocks : (rs : List Range) (starts ends : List ℕ) (blocks : List Range) (i j from : ℕ) → Swept rs starts ends blocks i j from → length ends ≤ j → IsPartition (Contains rs) blocks
swept_blocks rs starts ends blocks i j from h l = swept_all rs ends blocks from h.ends_sorted (λ k a. h.ends_split.below k (omega arith)) h.blocks_below

pub swept_count : (rs : List Range) (starts ends : List ℕ) (blocks : List Range) (i j from : ℕ) → Swept rs starts ends blocks i j from → length blocks ≤ 2 * count_by has_value rs - 1
swept_count rs starts ends blocks i j from h =
    omega (arith, h.count, h.starts_split.within, h.ends_split.within, sort_length (λ (x : Range). x.start) rs starts h.starts_sorted, sort_length (λ (x : Range). x.end) rs ends h.ends_sorted)

-- the starts and ends taken up are at most two for each nonempty range
pub swept_spent : (rs : List Range) (starts ends : List ℕ) (blocks : List Range) (i j from : ℕ) → Swept rs starts ends blocks i j from → i + j ≤ 2 * count_by has_value rs
swept_spent rs starts ends blocks i j from h =
    omega (arith, h.starts_split.within, h.ends_split.within, sort_length (λ (x : Range). x.start) rs starts h.starts_sorted, sort_length (λ (x : Range). x.end) rs ends h.ends_sorted)

-- and one less if an end is left
pub swept_spent_before : (rs : List Range) (starts ends : List ℕ) (blocks : List Range) (i j from : ℕ) → Swept rs starts ends blocks i j from → j < length ends → i + j + 1 ≤ 2 * count_by has_value rs
swept_spent_before rs starts ends blocks i j from h l =
    omega (arith, l, h.starts_split.within, sort_length (λ (x : Range). x.start) rs starts h.starts_sorted, sort_length (λ (x : Range). x.end) rs ends h.ends_sorted)
