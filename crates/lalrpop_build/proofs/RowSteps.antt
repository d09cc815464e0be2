-- The steps of a numbering along the blocks of one set, and the rows that it keeps.
use Rattle.std.proofs.Common.{◌≡◌, ℕ, zero, suc, ◌+◌, ◌<◌, ◌≤◌, ◌⊎◌, inl, inr, List, [], ◌∷◌, ◌++◌, length, refl, ap, sym, ◌∙◌, arith, true, Some, add-one}
use Rattle.std.specs.List.{Contains, slice_get}
use Rattle.std.proofs.lemmas.Bool.{cases_lt}
use Rattle.std.proofs.lemmas.List.{length_push, get_or_append_left, get_or_push}
use Rattle.std.proofs.lemmas.Option.{slice_get_within, slice_get_cases}
use Rattle.lalrpop_hir.specs.Range.{Range, Covers}
use Rattle.lalrpop_hir.specs.Tree.{Tree}
use Rattle.lalrpop_nfa.specs.Graph.{Graph}
use Rattle.lalrpop_nfa.specs.Partition.{AreAscending, IsPartition}
use Rattle.lalrpop_nfa.proofs.PartitionUnique.{ascends_later}
use Rattle.lalrpop_nfa.specs.Automata.{AreCompiled}
use Rattle.lalrpop_dfa.specs.Ascending.{Item}
use Rattle.lalrpop_build.specs.Items.{IsLeaving}
use Rattle.lalrpop_build.specs.Internal.Subsets.{move, is_dead}
use Rattle.lalrpop_build.specs.Internal.BreadthFirst.{Automaton, IsBreadthFirst, Added, nth}
use Rattle.lalrpop_build.specs.Internal.Built.{subset_automaton}
use Rattle.lalrpop_build.specs.Internal.Expansion.{past}
use Rattle.lalrpop_hir.proofs.Members.{Has, has_from, contains_from, has_at, at_has, has_cases}
use Rattle.lalrpop_build.proofs.Steps.{breadth_first_gap, breadth_first_added, breadth_first_spread, breadth_first_next}
use Rattle.lalrpop_build.proofs.Dead.{uncovered_dead, covered_small}
use Rattle.lalrpop_build.proofs.LeavingBlocks.{outside_blocks, inside_block}

-- sets with a number keep it
pub added_keeps : {S : Type 0} (m : Automaton S) (sets : List S) (origins : List (ℕ × ℕ)) (n v : ℕ) (t : S) (j : ℕ) (sets2 : List S) (origins2 : List (ℕ × ℕ))
    → Added m sets origins n v t j sets2 origins2 → (k : ℕ) → k < length sets → (k < length sets2) × (nth m sets2 k ≡ nth m sets k)
added_keeps m sets origins n v t j sets2 origins2 (inl (l, e, a, b)) k kl = rw a (kl, refl)
added_keeps m sets origins n v t j sets2 origins2 (inr (none, e, a, b)) k kl =
    rw a (omega (arith, length_push sets t), get_or_append_left sets (t ∷ []) m.start k kl)

-- the number that is returned is that of the set
pub added_is : {S : Type 0} (m : Automaton S) (sets : List S) (origins : List (ℕ × ℕ)) (n v : ℕ) (t : S) (j : ℕ) (sets2 : List S) (origins2 : List (ℕ × ℕ))
    → Added m sets origins n v t j sets2 origins2 → (j < length sets2) × (nth m sets2 j ≡ t)
added_is m sets origins n v t j sets2 origins2 (inl (l, e, a, b)) = rw a (l, e)
added_is m sets origins n v t j sets2 origins2 (inr (none, e, a, b)) =
    rw (a, e) (omega (arith, length_push sets t), get_or_push sets t m.start (length sets) refl)

abbrev pub NotEmpty : List Range → Type 0
NotEmpty xs = (x : Range) → Has xs x → x.start ≤ x.end

head_below : (ys : List Range) (x : Range) (k : ℕ) (b : Range) → AreAscending (x ∷ ys) → NotEmpty ys → slice_get ys k ≡ Some b → x.end < b.start
head_below [] x k b a f e = cc
head_below (y ∷ ys) x zero b a f e = let same : y ≡ b = cc in rw same at a.0
head_below (y ∷ ys) x (suc k) b a f e =
    let l : y.end < b.start = head_below ys y k b a.1 (λ z h. f z (inr h)) e in
    omega (arith, a.0, f y (inl refl))

pub ascending_at : (xs : List Range) (i k : ℕ) (a b : Range) → AreAscending xs → NotEmpty xs → i < k → slice_get xs i ≡ Some a → slice_get xs k ≡ Some b → a.end < b.start
ascending_at [] i k a b up f l d e = cc
ascending_at (x ∷ xs) i zero a b up f l d e = absurd (omega arith)
ascending_at (x ∷ xs) zero (suc k) a b up f l d e = let same : x ≡ a = cc in rw (← same) (head_below xs x k b up (λ z h. f z (inr h)) e)
ascending_at (x ∷ xs) (suc i) (suc k) a b up f l d e = ascending_at xs i k a b (ascends_later x xs up) (λ z h. f z (inr h)) (omega arith) d e

module _ (ts : List Tree) (ns : List Graph) (h : AreCompiled ts ns) (s : List Item) (xs : List Range) (partition : IsPartition (IsLeaving ns s) xs) where
  not_empty : NotEmpty xs
  not_empty x m = (partition.are_blocks x (contains_from xs x m)).uniform.holds_one

  -- a value in no run leads to a dead set
  pub outside_dead : (c : ℕ) → ((x : Range) → Contains xs x → Covers x c → ⊥) → is_dead (move ns s c) ≡ true
  outside_dead c none = uncovered_dead ts ns h s c (outside_blocks ns s xs partition c none)

  -- runs end below the values that no label covers
  pub run_small : (x : Range) → Contains xs x → x.end ≤ 1114111
  run_small x m = (let b = (partition.are_blocks x m).uniform in covered_small ts ns h s x.end (b.covered x.end (b.holds_one, omega arith)))

  -- the j-th run ends before the place after the first k, where j is below k
  end_past : (k j : ℕ) (x : Range) → k ≤ length xs → j < k → slice_get xs j ≡ Some x → x.end < past xs k
  end_past zero j x l a e = absurd (omega arith)
  end_past (suc k) j x l a e = elim (slice_get_cases xs k).1 [
    | inl y ↦ rw y.2 (go y.0 y.2 (cases_lt j k))
    | inr none ↦ absurd (omega (arith, none.0))
  ]
    where
      go : (y : Range) → slice_get xs k ≡ Some y → (j < k) ⊎ (k ≤ j) → x.end < y.end + 1
      go y f (inl less) =
          let b : x.end < y.start = ascending_at xs j k x y partition.ascending not_empty less e f in
          let full : y.start ≤ y.end = not_empty y (has_at xs k y f) in
          omega arith
      go y f (inr more) =
          let i : j ≡ k = omega arith in
          let same : Some x ≡ Some y = sym e ∙ ap (λ (n : ℕ). slice_get xs n) i ∙ f in
          let t : x ≡ y = cc in
          rw t (omega arith)

  -- values between the place and the next run are in no run
  between : (k c : ℕ) (r : Range) → slice_get xs k ≡ Some r → past xs k ≤ c → c < r.start → is_dead (move ns s c) ≡ true
  between k c r at a b = outside_dead c out
    where
      l : k < length xs
      l = slice_get_within xs k r at

      full : r.start ≤ r.end
      full = not_empty r (has_at xs k r at)

      go : (x : Range) (j : ℕ) → slice_get xs j ≡ Some x → Covers x c → (j < k) ⊎ (k ≤ j) → (k < j) ⊎ (j ≤ k) → ⊥
      go x j e n (inl less) d = (let u : x.end < past xs k = end_past k j x (omega (arith, l)) less e in omega (arith, n.1))
      go x j e n (inr more) (inl above) = (let u : r.end < x.start = ascending_at xs k j r x partition.ascending not_empty above at e in omega (arith, n.0, full))
      go x j e n (inr more) (inr under) =
          let i : j ≡ k = omega arith in
          let same : Some x ≡ Some r = sym e ∙ ap (λ (n : ℕ). slice_get xs n) i ∙ at in
          let t : x.start ≡ r.start = ap (λ (z : Range). z.start) (let u : x ≡ r = cc in u) in
          omega (arith, n.0)

      out : (x : Range) → Contains xs x → Covers x c → ⊥
      out x m n = (let j = at_has xs x (has_from xs x m) in go x j.0 j.1 n (cases_lt j.0 k) (cases_lt k j.0))

  -- values from the place after all runs on are in no run
  beyond : (c : ℕ) → past xs (length xs) ≤ c → is_dead (move ns s c) ≡ true
  beyond c a = outside_dead c (λ x m n.
      let j = at_has xs x (has_from xs x m) in
      let u : x.end < past xs (length xs) = end_past (length xs) j.0 x (omega arith) (slice_get_within xs j.0 x j.1) j.1 in
      omega (arith, n.1))

  past_low : (k : ℕ) (r : Range) → slice_get xs k ≡ Some r → past xs k ≤ r.start
  past_low zero r at = omega arith
  past_low (suc k) r at = elim (slice_get_cases xs k).1 [
    | inl y ↦ rw y.2 (let u : y.0.end < r.start = ascending_at xs k (suc k) y.0 r partition.ascending not_empty (omega arith) y.2 at in omega arith)
    | inr none ↦ absurd (omega (arith, none.0, slice_get_within xs (suc k) r at))
  ]

  past_top : (k : ℕ) → k ≤ length xs → past xs k ≤ 4294967295
  past_top zero l = omega arith
  past_top (suc k) l = elim (slice_get_cases xs k).1 [
    | inl y ↦ rw y.2 (let u : y.0.end ≤ 1114111 = run_small y.0 (contains_from xs y.0 (has_at xs k y.0 y.2)) in omega arith)
    | inr none ↦ absurd (omega (arith, none.0))
  ]

  -- the next run: the set that its first value leads to is added
  pub taken_range : (sets : List (List Item)) (origins : List (ℕ × ℕ)) (n k j : ℕ) (r : Range) (sets2 : List (List Item)) (origins2 : List (ℕ × ℕ))
      → IsBreadthFirst (subset_automaton ns) sets origins n (past xs k) → n < length sets → nth (subset_automaton ns) sets n ≡ s → slice_get xs k ≡ Some r
      → Added (subset_automaton ns) sets origins n r.start (move ns s r.start) j sets2 origins2
      → IsBreadthFirst (subset_automaton ns) sets2 origins2 n (past xs (k + 1))
  taken_range sets origins n k j r sets2 origins2 num l is at added =
      let m : Automaton (List Item) = subset_automaton ns in
      let keeps = added_keeps m sets origins n r.start (move ns s r.start) j sets2 origins2 added n l in
      let is2 : nth m sets2 n ≡ s = keeps.1 ∙ is in
      let member : Has xs r = has_at xs k r at in
      let full : r.start ≤ r.end = not_empty r member in
      let gap : IsBreadthFirst m sets origins n r.start =
      breadth_first_gap m sets origins n (past xs k) r.start num (past_low k r at) (λ c a b. rw is (between k c r at a b)) in
      let add : IsBreadthFirst m sets2 origins2 n (r.start + 1) =
      breadth_first_added m sets origins n r.start (move ns s r.start) j sets2 origins2 gap l (ap (λ (u : List Item). move ns u r.start) (sym is)) added in
      let spread : IsBreadthFirst m sets2 origins2 n (r.end + 1) =
      breadth_first_spread m sets2 origins2 n r.start (r.end + 1) add keeps.0 (omega arith)
      (λ c a b. rw is2 (inside_block ns s xs partition r c r.start (contains_from xs r member) (omega arith, omega arith) (omega arith, full))) in
      rw (add-one k, at) spread

  -- after all runs: the set that all other values lead to is added
  pub taken_other : (sets : List (List Item)) (origins : List (ℕ × ℕ)) (n j : ℕ) (sets2 : List (List Item)) (origins2 : List (ℕ × ℕ))
      → IsBreadthFirst (subset_automaton ns) sets origins n (past xs (length xs)) → n < length sets → nth (subset_automaton ns) sets n ≡ s
      → Added (subset_automaton ns) sets origins n 4294967295 (move ns s 4294967295) j sets2 origins2
      → IsBreadthFirst (subset_automaton ns) sets2 origins2 (n + 1) 0
  taken_other sets origins n j sets2 origins2 num l is added =
      let m : Automaton (List Item) = subset_automaton ns in
      let keeps = added_keeps m sets origins n 4294967295 (move ns s 4294967295) j sets2 origins2 added n l in
      let is2 : nth m sets2 n ≡ s = keeps.1 ∙ is in
      let top : past xs (length xs) ≤ 4294967295 = past_top (length xs) (omega arith) in
      let gap : IsBreadthFirst m sets origins n 4294967295 =
      breadth_first_gap m sets origins n (past xs (length xs)) 4294967295 num top (λ c a b. rw is (beyond c a)) in
      let add : IsBreadthFirst m sets2 origins2 n (4294967295 + 1) =
      breadth_first_added m sets origins n 4294967295 (move ns s 4294967295) j sets2 origins2 gap l (ap (λ (u : List Item). move ns u 4294967295) (sym is)) added in
      breadth_first_next m sets2 origins2 n (4294967295 + 1) add (λ c a. rw is2 (beyond c (omega arith)))

  -- where the tests made so far lead
  abbrev pub TestsLead : List (List Item) → List (Range × ℕ) → Type 0
  TestsLead sets tests = (t : Range × ℕ) (c : ℕ) → Contains tests t → Covers t.0 c → (t.1 < length sets) × (nth (subset_automaton ns) sets t.1 ≡ move ns s c)

  -- one more test, to the number of the set that its first value leads to
  pub tests_lead_more : (sets : List (List Item)) (origins : List (ℕ × ℕ)) (n j : ℕ) (r : Range) (sets2 : List (List Item)) (origins2 : List (ℕ × ℕ)) (tests : List (Range × ℕ))
      → Added (subset_automaton ns) sets origins n r.start (move ns s r.start) j sets2 origins2 → Contains xs r → TestsLead sets tests → TestsLead sets2 (tests ++ (r, j) ∷ [])
  tests_lead_more sets origins n j r sets2 origins2 tests added member before t c m k = elim (has_cases tests ((r, j) ∷ []) t (has_from (tests ++ (r, j) ∷ []) t m)) [
    | inl old ↦ (let b = before t c (contains_from tests t old) k in
        let keeps = added_keeps (subset_automaton ns) sets origins n r.start (move ns s r.start) j sets2 origins2 added t.1 b.0 in
        (keeps.0, keeps.1 ∙ b.1))
    | inr (inl new) ↦ (let is = added_is (subset_automaton ns) sets origins n r.start (move ns s r.start) j sets2 origins2 added in
        let full : r.start ≤ r.end = not_empty r (has_from xs r member) in
        let here : Covers r c = rw (ap (λ (u : Range × ℕ). u.0) new) k in
        let e : j ≡ t.1 = ap (λ (u : Range × ℕ). u.1) new in
        rw (← e) (is.0, is.1 ∙ inside_block ns s xs partition r r.start c member (omega arith, full) here))
    | inr (inr none) ↦ absurd none
  ]

  -- they still lead there when another set is added
  pub tests_lead_kept : (sets : List (List Item)) (origins : List (ℕ × ℕ)) (n v j : ℕ) (u : List Item) (sets2 : List (List Item)) (origins2 : List (ℕ × ℕ)) (tests : List (Range × ℕ))
      → Added (subset_automaton ns) sets origins n v u j sets2 origins2 → TestsLead sets tests → TestsLead sets2 tests
  tests_lead_kept sets origins n v j u sets2 origins2 tests added before t c m k =
      let b = before t c m k in
      let keeps = added_keeps (subset_automaton ns) sets origins n v u j sets2 origins2 added t.1 b.0 in
      (keeps.0, keeps.1 ∙ b.1)
