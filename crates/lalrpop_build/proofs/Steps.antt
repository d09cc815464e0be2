-- The steps of a breadth-first numbering keep it.
use Rattle.std.proofs.Common.{◌≡◌, ℕ, ◌+◌, ◌<◌, ◌≤◌, ◌⊎◌, inl, inr, ⊎_elim, List, [], ◌∷◌, ◌++◌, length, refl, sym, ap, subst, ◌∙◌, arith, true, get_or}
use Rattle.std.proofs.lemmas.List.{length_push, get_or_append_left, get_or_push}
use Rattle.std.proofs.lemmas.Bool.{cases_lt}
use Rattle.lalrpop_build.specs.Internal.BreadthFirst.{Automaton, nth, from_of, value_of, Before, NotAfter, Covered, IsBreadthFirst, Added}

pub below_push : {A : Type 0} (xs : List A) (y : A) (k : ℕ) → k < length (xs ++ y ∷ []) → (k < length xs) ⊎ (k ≡ length xs)
below_push xs y k l =
    let e : length (xs ++ y ∷ []) ≡ length xs + 1 = length_push xs y in
    ⊎_elim (λ (a : k < length xs). inl a) (λ (a : length xs ≤ k). inr (omega arith)) (cases_lt k (length xs))

-- a place that is after (n, a) is after (n, b)
before_more : (o x n a b : ℕ) → a ≤ b → Before o x n a → Before o x n b
before_more o x n a b l (inl h) = inl h
before_more o x n a b l (inr h) = inr (h.0, omega (arith, h.1))

-- values from a up to b lead to dead sets
pub breadth_first_gap : {S : Type 0} (m : Automaton S) (sets : List S) (origins : List (ℕ × ℕ)) (n a b : ℕ)
    → IsBreadthFirst m sets origins n a → a ≤ b
    → ((c : ℕ) → a ≤ c → c < b → m.dead (m.move (nth m sets n) c) ≡ true)
    → IsBreadthFirst m sets origins n b
breadth_first_gap {S} m sets origins n a b h l gap = record {
  same_length = h.same_length;
  some = h.some;
  first = h.first;
  distinct = h.distinct;
  earlier = h.earlier;
  reached = h.reached;
  ascending = h.ascending;
  behind = λ k p q. before_more (from_of origins k) (value_of origins k) n a b l (h.behind k p q);
  covered = go;
}
  where
    go : (i c : ℕ) → i < length sets → Before i c n b → Covered m sets origins i c
    go i c il (inl less) = h.covered i c il (inl less)
    go i c il (inr same) =
        ⊎_elim
        (λ (x : c < a). h.covered i c il (inr (same.0, x)))
        (λ (x : a ≤ c). inl (rw same.0 (gap c x same.1)))
        (cases_lt c a)

-- values from s + 1 up to b lead where s leads
pub breadth_first_spread : {S : Type 0} (m : Automaton S) (sets : List S) (origins : List (ℕ × ℕ)) (n s b : ℕ)
    → IsBreadthFirst m sets origins n (s + 1) → n < length sets → s < b
    → ((c : ℕ) → s < c → c < b → m.move (nth m sets n) c ≡ m.move (nth m sets n) s)
    → IsBreadthFirst m sets origins n b
breadth_first_spread {S} m sets origins n s b h nl l same_move = record {
  same_length = h.same_length;
  some = h.some;
  first = h.first;
  distinct = h.distinct;
  earlier = h.earlier;
  reached = h.reached;
  ascending = h.ascending;
  behind = λ k p q. before_more (from_of origins k) (value_of origins k) n (s + 1) b (omega arith) (h.behind k p q);
  covered = go;
}
  where
    wider : (c : ℕ) → s < c → c < b → Covered m sets origins n s → Covered m sets origins n c
    wider c a d (inl dead) = inl (rw (same_move c a d) dead)
    wider c a d (inr (j, jl, js, inl e)) = inr (j, jl, js ∙ sym (same_move c a d), inl e)
    wider c a d (inr (j, jl, js, inr (inl e))) = inr (j, jl, js ∙ sym (same_move c a d), inr (inl e))
    wider c a d (inr (j, jl, js, inr (inr e))) = inr (j, jl, js ∙ sym (same_move c a d), inr (inr (e.0, omega (arith, e.1))))

    go : (i c : ℕ) → i < length sets → Before i c n b → Covered m sets origins i c
    go i c il (inl less) = h.covered i c il (inl less)
    go i c il (inr same) =
        ⊎_elim
        (λ (x : s < c). subst (λ (k : ℕ). Covered m sets origins k c) (sym same.0) (wider c x same.1 (h.covered n s nl (inr (refl, omega arith)))))
        (λ (x : c ≤ s). h.covered i c il (inr (same.0, omega arith)))
        (cases_lt s c)

-- values from a on lead to dead sets: number n is done
pub breadth_first_next : {S : Type 0} (m : Automaton S) (sets : List S) (origins : List (ℕ × ℕ)) (n a : ℕ)
    → IsBreadthFirst m sets origins n a
    → ((c : ℕ) → a ≤ c → m.dead (m.move (nth m sets n) c) ≡ true)
    → IsBreadthFirst m sets origins (n + 1) 0
breadth_first_next {S} m sets origins n a h rest = record {
  same_length = h.same_length;
  some = h.some;
  first = h.first;
  distinct = h.distinct;
  earlier = h.earlier;
  reached = h.reached;
  ascending = h.ascending;
  behind = λ k p q.
      ⊎_elim
      (λ (x : from_of origins k < n). inl (omega arith))
      (λ (x : (from_of origins k ≡ n) × (value_of origins k < a)). inl (omega (arith, x.0)))
      (h.behind k p q);
  covered = go;
}
  where
    at_n : (i c : ℕ) → i < length sets → i ≡ n → Covered m sets origins i c
    at_n i c il e =
        ⊎_elim
        (λ (x : c < a). h.covered i c il (inr (e, x)))
        (λ (x : a ≤ c). inl (rw e (rest c x)))
        (cases_lt c a)

    go : (i c : ℕ) → i < length sets → Before i c (n + 1) 0 → Covered m sets origins i c
    go i c il (inl less) =
        ⊎_elim
        (λ (x : i < n). h.covered i c il (inl x))
        (λ (x : n ≤ i). at_n i c il (omega arith))
        (cases_lt i n)
    go i c il (inr same) = absurd (omega (arith, same.1))

before_not_after : (o x p y : ℕ) → Before o x p y → NotAfter o x p y
before_not_after o x p y (inl h) = inl h
before_not_after o x p y (inr h) = inr (h.0, omega (arith, h.1))

-- the set that value s leads to has a number
pub breadth_first_found : {S : Type 0} (m : Automaton S) (sets : List S) (origins : List (ℕ × ℕ)) (n s j : ℕ)
    → IsBreadthFirst m sets origins n s → n < length sets → j < length sets → nth m sets j ≡ m.move (nth m sets n) s
    → IsBreadthFirst m sets origins n (s + 1)
breadth_first_found {S} m sets origins n s j h nl jl js = record {
  same_length = h.same_length;
  some = h.some;
  first = h.first;
  distinct = h.distinct;
  earlier = h.earlier;
  reached = h.reached;
  ascending = h.ascending;
  behind = λ k p q. before_more (from_of origins k) (value_of origins k) n s (s + 1) (omega arith) (h.behind k p q);
  covered = go;
}
  where
    place : (j ≡ 0) ⊎ NotAfter (from_of origins j) (value_of origins j) n s
    place =
        ⊎_elim
        (λ (x : 0 < j). inr (before_not_after (from_of origins j) (value_of origins j) n s (h.behind j x jl)))
        (λ (x : j ≤ 0). inl (omega arith))
        (cases_lt 0 j)

    here : Covered m sets origins n s
    here = inr (j, jl, js, place)

    go : (i c : ℕ) → i < length sets → Before i c n (s + 1) → Covered m sets origins i c
    go i c il (inl less) = h.covered i c il (inl less)
    go i c il (inr same) =
        ⊎_elim
        (λ (x : c < s). h.covered i c il (inr (same.0, x)))
        (λ (x : s ≤ c).
        let e : c ≡ s = omega (arith, same.1) in
        subst (λ (k : ℕ). Covered m sets origins k c) (sym same.0) (subst (λ (k : ℕ). Covered m sets origins n k) (sym e) here))
        (cases_lt c s)

module _ {S : Type 0} (m : Automaton S) (sets : List S) (origins : List (ℕ × ℕ)) (n s : ℕ) (t : S)
    (h : IsBreadthFirst m sets origins n s) (nl : n < length sets)
    (new : (k : ℕ) → k < length sets → nth m sets k ≡ t → ⊥)
    (is : t ≡ m.move (nth m sets n) s) where
  old_set : (k : ℕ) → k < length sets → nth m (sets ++ t ∷ []) k ≡ nth m sets k
  old_set k l = get_or_append_left sets (t ∷ []) m.start k l

  new_set : nth m (sets ++ t ∷ []) (length sets) ≡ t
  new_set = get_or_push sets t m.start (length sets) refl

  old_origin : (k : ℕ) → k < length sets → get_or (origins ++ (n, s) ∷ []) k (0, 0) ≡ get_or origins k (0, 0)
  old_origin k l = get_or_append_left origins ((n, s) ∷ []) (0, 0) k (omega (arith, h.same_length))

  new_origin : get_or (origins ++ (n, s) ∷ []) (length sets) (0, 0) ≡ (n, s)
  new_origin = get_or_push origins (n, s) (0, 0) (length sets) h.same_length

  old_from : (k : ℕ) → k < length sets → from_of (origins ++ (n, s) ∷ []) k ≡ from_of origins k
  old_from k l = ap (λ (p : ℕ × ℕ). p.0) (old_origin k l)

  old_value : (k : ℕ) → k < length sets → value_of (origins ++ (n, s) ∷ []) k ≡ value_of origins k
  old_value k l = ap (λ (p : ℕ × ℕ). p.1) (old_origin k l)

  new_from : from_of (origins ++ (n, s) ∷ []) (length sets) ≡ n
  new_from = ap (λ (p : ℕ × ℕ). p.0) new_origin

  new_value : value_of (origins ++ (n, s) ∷ []) (length sets) ≡ s
  new_value = ap (λ (p : ℕ × ℕ). p.1) new_origin

  old_or_new : (P : ℕ → Type 0) → ((k : ℕ) → k < length sets → P k) → P (length sets) → (k : ℕ) → k < length (sets ++ t ∷ []) → P k
  old_or_new P old new k l =
      ⊎_elim (λ (a : k < length sets). old k a) (λ (e : k ≡ length sets). rw e new) (below_push sets t k l)

  -- it gets the next number
  pub breadth_first_pushed : IsBreadthFirst m (sets ++ t ∷ []) (origins ++ (n, s) ∷ []) n (s + 1)
  breadth_first_pushed = record {
    same_length = length_push origins (n, s) ∙ (omega (arith, h.same_length, length_push sets t));
    some = omega (arith, h.some, length_push sets t);
    first = old_set 0 h.some ∙ h.first;
    distinct = λ i j a b e. apart i j a b e;
    earlier = λ k a l. at_k k l a;
    reached = λ k a l. reached_k k l a;
    ascending = λ j k a b l. ascending_k k l j a b;
    behind = λ k a l. behind_k k l a;
    covered = λ i c l b. covered_i i l c b;
  }
    where
      apart : (i j : ℕ) → i < length (sets ++ t ∷ []) → j < length (sets ++ t ∷ []) → nth m (sets ++ t ∷ []) i ≡ nth m (sets ++ t ∷ []) j → i ≡ j
      apart i j a b e =
          ⊎_elim
          (λ (il : i < length sets).
          ⊎_elim
          (λ (jl : j < length sets). h.distinct i j il jl (sym (old_set i il) ∙ e ∙ old_set j jl))
          (λ (je : j ≡ length sets). absurd (new i il (sym (old_set i il) ∙ (rw je at e) ∙ new_set)))
          (below_push sets t j b))
          (λ (ie : i ≡ length sets).
          ⊎_elim
          (λ (jl : j < length sets). absurd (new j jl (sym (old_set j jl) ∙ sym e ∙ (rw ie new_set))))
          (λ (je : j ≡ length sets). ie ∙ sym je)
          (below_push sets t j b))
          (below_push sets t i a)

      at_k : (k : ℕ) → k < length (sets ++ t ∷ []) → 0 < k → from_of (origins ++ (n, s) ∷ []) k < k
      at_k = old_or_new (λ (k : ℕ). 0 < k → from_of (origins ++ (n, s) ∷ []) k < k)
          (λ k l a. rw (old_from k l) (h.earlier k a l))
          (λ a. rw new_from nl)

      reached_k : (k : ℕ) → k < length (sets ++ t ∷ []) → 0 < k
          → m.move (nth m (sets ++ t ∷ []) (from_of (origins ++ (n, s) ∷ []) k)) (value_of (origins ++ (n, s) ∷ []) k) ≡ nth m (sets ++ t ∷ []) k
      reached_k = old_or_new (λ (k : ℕ). 0 < k
          → m.move (nth m (sets ++ t ∷ []) (from_of (origins ++ (n, s) ∷ []) k)) (value_of (origins ++ (n, s) ∷ []) k) ≡ nth m (sets ++ t ∷ []) k)
          (λ k l a.
          let e : from_of origins k < k = h.earlier k a l in
          rw (old_from k l, old_value k l, old_set k l, old_set (from_of origins k) (omega arith)) (h.reached k a l))
          (λ a. rw (new_from, new_value, new_set, old_set n nl) (sym is))

      behind_k : (k : ℕ) → k < length (sets ++ t ∷ []) → 0 < k → Before (from_of (origins ++ (n, s) ∷ []) k) (value_of (origins ++ (n, s) ∷ []) k) n (s + 1)
      behind_k = old_or_new (λ (k : ℕ). 0 < k → Before (from_of (origins ++ (n, s) ∷ []) k) (value_of (origins ++ (n, s) ∷ []) k) n (s + 1))
          (λ k l a. rw (old_from k l, old_value k l) (before_more (from_of origins k) (value_of origins k) n s (s + 1) (omega arith) (h.behind k a l)))
          (λ a. rw (new_from, new_value) (inr (refl, omega arith)))

      ascending_k : (k : ℕ) → k < length (sets ++ t ∷ []) → (j : ℕ) → 0 < j → j < k
          → Before (from_of (origins ++ (n, s) ∷ []) j) (value_of (origins ++ (n, s) ∷ []) j) (from_of (origins ++ (n, s) ∷ []) k) (value_of (origins ++ (n, s) ∷ []) k)
      ascending_k = old_or_new (λ (k : ℕ). (j : ℕ) → 0 < j → j < k
          → Before (from_of (origins ++ (n, s) ∷ []) j) (value_of (origins ++ (n, s) ∷ []) j) (from_of (origins ++ (n, s) ∷ []) k) (value_of (origins ++ (n, s) ∷ []) k))
          (λ k l j a b.
          let jl : j < length sets = omega arith in
          rw (old_from k l, old_value k l, old_from j jl, old_value j jl) (h.ascending j k a b l))
          (λ j a b. rw (new_from, new_value, old_from j b, old_value j b) (h.behind j a b))

      moved : (i c : ℕ) → i < length sets → Covered m sets origins i c → Covered m (sets ++ t ∷ []) (origins ++ (n, s) ∷ []) i c
      moved i c il (inl dead) = inl (rw (old_set i il) dead)
      moved i c il (inr (j, jl, js, place)) =
          inr (j, omega (arith, length_push sets t), old_set j jl ∙ js ∙ (rw (old_set i il)), (rw (old_from j jl, old_value j jl) place))

      here : Covered m (sets ++ t ∷ []) (origins ++ (n, s) ∷ []) n s
      here = inr (length sets, omega (arith, length_push sets t), (new_set ∙ is ∙ (rw (old_set n nl))), inr (rw (new_from, new_value) (inr (refl, omega arith))))

      covered_i : (i : ℕ) → i < length (sets ++ t ∷ []) → (c : ℕ) → Before i c n (s + 1) → Covered m (sets ++ t ∷ []) (origins ++ (n, s) ∷ []) i c
      covered_i i l c (inl less) = moved i c (omega arith) (h.covered i c (omega arith) (inl less))
      covered_i i l c (inr same) =
          ⊎_elim
          (λ (x : c < s). moved i c (omega (arith, same.0)) (h.covered i c (omega (arith, same.0)) (inr (same.0, x))))
          (λ (x : s ≤ c).
          let e : c ≡ s = omega (arith, same.1) in
          subst (λ (k : ℕ). Covered m (sets ++ t ∷ []) (origins ++ (n, s) ∷ []) k c) (sym same.0)
          (subst (λ (k : ℕ). Covered m (sets ++ t ∷ []) (origins ++ (n, s) ∷ []) n k) (sym e) here))
          (cases_lt c s)

-- adding the set that value s leads to
pub breadth_first_added : {S : Type 0} (m : Automaton S) (sets : List S) (origins : List (ℕ × ℕ)) (n s : ℕ) (t : S) (j : ℕ) (sets2 : List S) (origins2 : List (ℕ × ℕ))
    → IsBreadthFirst m sets origins n s → n < length sets → t ≡ m.move (nth m sets n) s
    → Added m sets origins n s t j sets2 origins2
    → IsBreadthFirst m sets2 origins2 n (s + 1)
breadth_first_added m sets origins n s t j sets2 origins2 h nl is (inl (jl, js, e, o)) =
    rw (e, o) (breadth_first_found m sets origins n s j h nl jl (js ∙ is))
breadth_first_added m sets origins n s t j sets2 origins2 h nl is (inr (new, je, e, o)) =
    rw (e, o) (breadth_first_pushed m sets origins n s t h nl new is)
