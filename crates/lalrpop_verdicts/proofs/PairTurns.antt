-- Turns of a walk over pairs of states: each stretch of values keeps it breadth first.
use Rattle.std.proofs.Common.{◌≡◌, ℕ, zero, suc, ◌+◌, ◌*◌, ◌<◌, ◌≤◌, ◌⊎◌, inl, inr, ⊎_elim, List, [], ◌∷◌, ◌++◌, length, map, get_or, refl, sym, ap, subst, ◌∙◌, arith, Bool, true, false, cond, eqb, ne_eqb, eqb-true}
use Rattle.std.specs.Prelude.{slice_get, Option, Some, None, MatchOption, IfSome, IfNone}
use Rattle.std.specs.List.{list_any}
use Rattle.std.proofs.Math.Nat.{mul-le-mul_left}
use Rattle.std.proofs.lemmas.Bool.{cases_lt, cases_order}
use Rattle.std.proofs.lemmas.List.{length-map, get_or-map, map-append, get_or_append_left, length_push}
use Rattle.std.proofs.lemmas.Option.{slice_get_within, slice_get-get_or}
use Rattle.std.proofs.lemmas.Map.Steps.{length-le_from_distinct_below}
use Rattle.std.proofs.lemmas.Map.Keys.{IsDistinct-from_apart}
use Rattle.std.proofs.lemmas.Map.Views.{Contains-from_any}
use Rattle.lalrpop_dfa.specs.Dfa.{Row, step, IsWellFormed}
use Rattle.lalrpop_build.specs.Internal.BreadthFirst.{Automaton, nth, from_of, value_of, Before, Covered, IsBreadthFirst}
use Rattle.lalrpop_build.proofs.Steps.{breadth_first_gap, breadth_first_next, breadth_first_found, breadth_first_pushed}
use Rattle.lalrpop_verdicts.specs.declared.pairs.Pair.{Pair}
use Rattle.lalrpop_verdicts.specs.declared.pairs.Follow.{Follow}
use Rattle.lalrpop_verdicts.specs.Internal.Pairs.{HasStates, ArePairs, Place, outset, at, lost, is_lost, left_at, right_at, ends_at, is_character, lead, walk, number_of, place_of, origin_of, places, origins, IsTaken, IsTurn, IsAdded, IsNextCharacter, IsLastCharacter}
use Rattle.lalrpop_verdicts.proofs.PairWalks.{place_at, places_length, pair_within, states_within, apart, all_found}

-- ---- values that lead alike, or nowhere
before_more : (o x n a b : ℕ) → a ≤ b → Before o x n a → Before o x n b
before_more o x n a b l (inl h) = inl h
before_more o x n a b l (inr h) = inr (h.0, omega (arith, h.1))

-- values from s + 1 up to b lead where s leads, or to dead sets
breadth_first_along : {S : Type 0} (m : Automaton S) (sets : List S) (origins : List (ℕ × ℕ)) (n s b : ℕ)
    → IsBreadthFirst m sets origins n (s + 1) → n < length sets → s < b
    → ((c : ℕ) → s < c → c < b → (m.dead (m.move (nth m sets n) c) ≡ true) ⊎ (m.move (nth m sets n) c ≡ m.move (nth m sets n) s))
    → IsBreadthFirst m sets origins n b
breadth_first_along {S} m sets origins n s b h nl l same_move = record {
  same_length = h.same_length;
  some = h.some;
  first = h.first;
  distinct = h.distinct;
  earlier = h.earlier;
  reached = h.reached;
  ascending = h.ascending;
  behind = λ k p q. before_more (from_of origins k) (value_of origins k) n (s + 1) b (omega arith) (h.behind k p q);
  covered = go;
}
  where
    wider : (c : ℕ) → s < c → m.move (nth m sets n) c ≡ m.move (nth m sets n) s → Covered m sets origins n s → Covered m sets origins n c
    wider c a same (inl dead) = inl (rw same dead)
    wider c a same (inr (j, jl, js, inl e)) = inr (j, jl, js ∙ sym same, inl e)
    wider c a same (inr (j, jl, js, inr (inl e))) = inr (j, jl, js ∙ sym same, inr (inl e))
    wider c a same (inr (j, jl, js, inr (inr e))) = inr (j, jl, js ∙ sym same, inr (inr (e.0, omega (arith, e.1))))

    there : (c : ℕ) → s < c → c < b → Covered m sets origins n c
    there c x y =
        ⊎_elim
        (λ (dead : m.dead (m.move (nth m sets n) c) ≡ true). inl dead)
        (λ (same : m.move (nth m sets n) c ≡ m.move (nth m sets n) s). wider c x same (h.covered n s nl (inr (refl, omega arith))))
        (same_move c x y)

    go : (i c : ℕ) → i < length sets → Before i c n b → Covered m sets origins i c
    go i c il (inl less) = h.covered i c il (inl less)
    go i c il (inr same) =
        ⊎_elim
        (λ (x : s < c). subst (λ (k : ℕ). Covered m sets origins k c) (sym same.0) (there c x same.1))
        (λ (x : c ≤ s). h.covered i c il (inr (same.0, omega arith)))
        (cases_lt s c)

-- all numbers are done
all_taken : {S : Type 0} (m : Automaton S) (sets : List S) (origins : List (ℕ × ℕ)) (n : ℕ) → IsBreadthFirst m sets origins n 0 → length sets ≤ n → IsBreadthFirst m sets origins (length sets) 0
all_taken m sets origins n h l = record {
  same_length = h.same_length;
  some = h.some;
  first = h.first;
  distinct = h.distinct;
  earlier = h.earlier;
  reached = h.reached;
  ascending = h.ascending;
  behind = λ k p q. let e : from_of origins k < k = h.earlier k p q in inl (omega arith);
  covered = λ i c il b. h.covered i c il (inl (omega arith));
}

-- ---- where a value leads from a place
lost_if : (b e : Bool) (s : Place) → e ≡ true → is_lost (cond b (cond e lost s) lost) ≡ true
lost_if true e s h = rw h refl
lost_if false e s h = refl

module _ (follow : Follow) (l r : List Row) where
  move_is : (s : Place) (p q c : ℕ) → is_lost s ≡ false → left_at s ≡ p → right_at s ≡ q → (walk follow l r).move s c ≡ lead follow l r p q c
  move_is s p q c alive left right = rw (alive, left, right) refl

  lead_none : (p q c : ℕ) → is_character c ≡ false → lead follow l r p q c ≡ lost
  lead_none p q c h = rw h refl

  lead_end : (p q c : ℕ) → ends_at follow l (step l p c) ≡ true → is_lost (lead follow l r p q c) ≡ true
  lead_end p q c h = lost_if (is_character c) (ends_at follow l (step l p c)) (at (step l p c) (step r q c)) h

  lead_at : (p q c p2 q2 : ℕ) → is_character c ≡ true → ends_at follow l p2 ≡ false → step l p c ≡ p2 → step r q c ≡ q2 → lead follow l r p q c ≡ at p2 q2
  lead_at p q c p2 q2 is on left right = rw (is, left, on, right) refl

-- ---- a turn
module _ (follow : Follow) (l r : List Row) (pairs : List Pair) (n p q v : ℕ) (t : IsTurn follow l r pairs n p q v) where
  moves : (c : ℕ) → (walk follow l r).move (nth (walk follow l r) (places pairs) n) c ≡ lead follow l r p q c
  moves c = move_is follow l r (nth (walk follow l r) (places pairs) n) p q c t.alive t.left t.right

  later : (w : ℕ) → IsTaken follow l r pairs n w → IsTurn follow l r pairs n p q w
  later w h = record {
    taken = h;
    within = t.within;
    alive = t.alive;
    left = t.left;
    right = t.right;
  }

  -- the values of the stretch lead to a state at which the walk ends
  pub turn_skip : (p2 last : ℕ) → v ≤ last → ((c : ℕ) → v ≤ c → c ≤ last → step l p c ≡ p2) → ends_at follow l p2 ≡ true → IsTurn follow l r pairs n p q (last + 1)
  turn_skip p2 last some left ends =
      later (last + 1) (breadth_first_gap (walk follow l r) (places pairs) (origins pairs) n v (last + 1) t.taken (omega arith)
      (λ c a b. let e : step l p c ≡ p2 = left c a (omega arith) in rw (moves c) (lead_end follow l r p q c (rw e ends))))

  -- no character lies between
  pub turn_to : (w : ℕ) → v ≤ w → ((c : ℕ) → v ≤ c → c < w → is_character c ≡ false) → IsTurn follow l r pairs n p q w
  turn_to w some none =
      later w (breadth_first_gap (walk follow l r) (places pairs) (origins pairs) n v w t.taken some
      (λ c a b. let e : lead follow l r p q c ≡ lost = lead_none follow l r p q c (none c a b) in rw (moves c, e) refl))

  -- no character is left
  pub turn_done : ((c : ℕ) → v ≤ c → is_character c ≡ false) → IsTaken follow l r pairs (n + 1) 0
  turn_done none =
      breadth_first_next (walk follow l r) (places pairs) (origins pairs) n v t.taken
      (λ c a. let e : lead follow l r p q c ≡ lost = lead_none follow l r p q c (none c a) in rw (moves c, e) refl)

  -- the values of the stretch lead to a pair
  module _ (x : Pair) (from : number_of x.from ≡ n) (value : x.value ≡ v) (character : is_character v ≡ true) (on : ends_at follow l x.left ≡ false)
      (last : ℕ) (some : v ≤ last) (left : (c : ℕ) → v ≤ c → c ≤ last → step l p c ≡ x.left) (right : (c : ℕ) → v ≤ c → c ≤ last → step r q c ≡ x.right) where
    here : (walk follow l r).move (nth (walk follow l r) (places pairs) n) v ≡ at x.left x.right
    here = moves v ∙ lead_at follow l r p q v x.left x.right character on (left v (omega arith) some) (right v (omega arith) some)

    alike : (b : Bool) (c : ℕ) → is_character c ≡ b → v < c → c < last + 1
        → (is_lost ((walk follow l r).move (nth (walk follow l r) (places pairs) n) c) ≡ true)
        ⊎ ((walk follow l r).move (nth (walk follow l r) (places pairs) n) c ≡ (walk follow l r).move (nth (walk follow l r) (places pairs) n) v)
    alike true c is a b = inr (moves c ∙ lead_at follow l r p q c x.left x.right is on (left c (omega arith) (omega arith)) (right c (omega arith) (omega arith)) ∙ sym here)
    alike false c is a b = inl (let e : lead follow l r p q c ≡ lost = lead_none follow l r p q c is in rw (moves c, e) refl)

    turn_found : HasStates pairs x.left x.right → IsTurn follow l r pairs n p q (last + 1)
    turn_found (k, y, is) =
        let e : nth (walk follow l r) (places pairs) (suc k) ≡ at x.left x.right = place_at pairs k y outset is.0 ∙ rw (is.1, is.2) refl in
        let next = breadth_first_found (walk follow l r) (places pairs) (origins pairs) n v (suc k) t.taken t.within (omega (arith, slice_get_within pairs k y is.0, places_length pairs)) (e ∙ sym here) in
        later (last + 1) (breadth_first_along (walk follow l r) (places pairs) (origins pairs) n v (last + 1) next t.within (omega arith) (λ c a b. alike (is_character c) c refl a b))

    fresh : (HasStates pairs x.left x.right → ⊥) → (k : ℕ) → k < length (places pairs) → nth (walk follow l r) (places pairs) k ≡ at x.left x.right → ⊥
    fresh none zero kl e = let z : outset ≡ at x.left x.right = e in cc
    fresh none (suc k) kl e =
        let y = pair_within pairs k (omega (arith, places_length pairs)) in
        let same : at y.0.left y.0.right ≡ at x.left x.right = sym (place_at pairs k y.0 outset y.1) ∙ e in
        none (k, y.0, (y.1, ap left_at same, ap right_at same))

    more_places : places (pairs ++ x ∷ []) ≡ places pairs ++ at x.left x.right ∷ []
    more_places = ap (λ (s : List Place). outset ∷ s) (map-append place_of pairs (x ∷ []))

    more_origins : origins (pairs ++ x ∷ []) ≡ origins pairs ++ (n, v) ∷ []
    more_origins =
        let o : (number_of x.from, x.value) ≡ (n, v) = ap (λ (i : ℕ). let o : ℕ × ℕ = (i, x.value) in o) from ∙ ap (λ (i : ℕ). let o : ℕ × ℕ = (n, i) in o) value in
        ap (λ (s : List (ℕ × ℕ)). (0, 0) ∷ s) (map-append origin_of pairs (x ∷ [])) ∙ ap (λ (o : ℕ × ℕ). origins pairs ++ o ∷ []) o

    same_place : nth (walk follow l r) (places pairs ++ at x.left x.right ∷ []) n ≡ nth (walk follow l r) (places pairs) n
    same_place = get_or_append_left (places pairs) (at x.left x.right ∷ []) outset n t.within

    turn_pushed : (HasStates pairs x.left x.right → ⊥) → IsTurn follow l r (pairs ++ x ∷ []) n p q (last + 1)
    turn_pushed none =
        let pushed = breadth_first_pushed (walk follow l r) (places pairs) (origins pairs) n v (at x.left x.right) t.taken t.within (fresh none) (sym here) in
        let longer : n < length (places pairs ++ at x.left x.right ∷ []) = omega (arith, t.within, length_push (places pairs) (at x.left x.right)) in
        let along = breadth_first_along (walk follow l r) (places pairs ++ at x.left x.right ∷ []) (origins pairs ++ (n, v) ∷ []) n v (last + 1) pushed longer (omega arith)
        (λ c a b. rw same_place (alike (is_character c) c refl a b)) in
        let stays : nth (walk follow l r) (places (pairs ++ x ∷ [])) n ≡ nth (walk follow l r) (places pairs) n = ap (λ (ps : List Place). nth (walk follow l r) ps n) more_places ∙ same_place in
        record {
          taken = rw (more_places, more_origins) along;
          within = subst (λ (ps : List Place). n < length ps) (sym more_places) longer;
          alive = ap is_lost stays ∙ t.alive;
          left = ap left_at stays ∙ t.left;
          right = ap right_at stays ∙ t.right;
        }

    pub turn_add : (pairs2 : List Pair) → IsAdded pairs x pairs2 → IsTurn follow l r pairs2 n p q (last + 1)
    turn_add pairs2 (inl old) = rw old.1 (turn_found old.0)
    turn_add pairs2 (inr new) = rw new.1 (turn_pushed new.0)

-- ---- after a stretch
module _ (follow : Follow) (l r : List Row) (pairs : List Pair) (n p q last : ℕ) (t : IsTurn follow l r pairs n p q (last + 1)) where
  pub turn_next : (o : Option ℕ) → MatchOption o (IsLastCharacter last) (IsNextCharacter last) → IfSome o (IsTurn follow l r pairs n p q)
  turn_next None h = tt
  turn_next (Some w) h = let b : last < w = h.beyond in turn_to follow l r pairs n p q (last + 1) t w (omega arith) (λ c a b. h.none_between c (omega arith) b)

  pub turn_over : (o : Option ℕ) → MatchOption o (IsLastCharacter last) (IsNextCharacter last) → IfNone o (IsTaken follow l r pairs (n + 1) 0)
  turn_over None h = turn_done follow l r pairs n p q (last + 1) t (λ c a. h c (omega arith))
  turn_over (Some w) h = tt

pub next_is : (value last : ℕ) (o : Option ℕ) → value ≤ last → MatchOption o (IsLastCharacter last) (IsNextCharacter last) → IfSome o (λ n. (value < n) × (is_character n ≡ true))
next_is value last None l h = tt
next_is value last (Some n) l h = let b : last < n = h.beyond in (omega arith, h.character)

-- ---- the beginning and the end
pub first_turn : (follow : Follow) (l r : List Row) → IsTurn follow l r [] 0 0 0 0
first_turn follow l r = record {
  taken = record {
    same_length = refl;
    some = one;
    first = refl;
    distinct = λ i j a b e. omega (arith, size);
    earlier = λ k a b. absurd (omega (arith, size));
    reached = λ k a b. absurd (omega (arith, size));
    ascending = λ j k a b c. absurd (omega (arith, size));
    behind = λ k a b. absurd (omega (arith, size));
    covered = λ i c a b. absurd (nothing i c b);
  };
  within = one;
  alive = refl;
  left = refl;
  right = refl;
}
  where
    size : length (places []) ≡ 1
    size = refl

    one : 0 < length (places [])
    one = omega (arith, size)

    nothing : (i c : ℕ) → Before i c 0 0 → ⊥
    nothing i c (inl h) = omega arith
    nothing i c (inr h) = omega (arith, h.1)

-- the next pair's turn
pub pair_turn : (follow : Follow) (l r : List Row) (pairs : List Pair) (k : ℕ) (x : Pair) → IsTaken follow l r pairs (k + 1) 0 → slice_get pairs k ≡ Some x
    → IsTurn follow l r pairs (suc k) x.left x.right 0
pair_turn follow l r pairs k x h e =
    let e1 : k + 1 ≡ suc k = omega arith in
    let place = place_at pairs k x outset e in
    record {
      taken = subst (λ (i : ℕ). IsTaken follow l r pairs i 0) e1 h;
      within = omega (arith, slice_get_within pairs k x e, places_length pairs);
      alive = ap is_lost place;
      left = ap left_at place;
      right = ap right_at place;
    }

pub walk_done : (follow : Follow) (l r : List Row) (pairs : List Pair) (k : ℕ) → IsTaken follow l r pairs (k + 1) 0 → length pairs ≤ k → ArePairs follow l r pairs
walk_done follow l r pairs k h past = all_found follow l r pairs (all_taken (walk follow l r) (places pairs) (origins pairs) (k + 1) h (omega (arith, places_length pairs)))

-- ---- how many pairs there can be
abbrev code : ℕ → ℕ → ℕ → ℕ
code n a b = n * a + b

code_less : (n a b c d : ℕ) → b < n → a < c → code n a b < code n c d
code_less n a b c d bl l =
    let e : n * suc a ≤ n * c = mul-le-mul_left n (omega arith) in
    let f : n * suc a ≡ n * a + n = grind arith in
    omega arith

code_same : (n a b c d : ℕ) → b < n → d < n → code n a b ≡ code n c d → (a ≡ c) × (b ≡ d)
code_same n a b c d bl dl e =
    ⊎_elim
    (λ (same : a ≡ c). (same, let f : n * a ≡ n * c = ap (λ (i : ℕ). n * i) same in omega arith))
    (⊎_elim
    (λ (less : a < c). absurd (omega (arith, code_less n a b c d bl less)))
    (λ (more : c < a). absurd (omega (arith, code_less n c d a b dl more))))
    (cases_order a c)

pub few_pairs : (follow : Follow) (l r : List Row) (pairs : List Pair) (n v : ℕ) → IsTaken follow l r pairs n v → IsWellFormed l → IsWellFormed r → length pairs ≤ length r * length l
few_pairs follow l r pairs n v h wl wr =
    let long : length (map g pairs) ≡ length pairs = length-map pairs g in
    let most : length (map g pairs) ≤ length r * length l = length-le_from_distinct_below (map g pairs) (length r * length l) (IsDistinct-from_apart eqb (map g pairs) different) below in
    omega arith
  where
    g : Pair → ℕ
    g x = code (length r) x.left x.right

    at_k : (k e : ℕ) (x : Pair) → slice_get pairs k ≡ Some x → get_or (map g pairs) k e ≡ code (length r) x.left x.right
    at_k k e x f =
        let kl : k < length pairs = slice_get_within pairs k x f in
        let same : Some (get_or pairs k x) ≡ Some x = sym (slice_get-get_or pairs k x kl) ∙ f in
        let s : get_or pairs k x ≡ x = cc in
        get_or-map g pairs k x e kl ∙ ap g s

    different : (i j e : ℕ) → i < j → j < length (map g pairs) → eqb (get_or (map g pairs) i e) (get_or (map g pairs) j e) ≡ false
    different i j e a jl =
        let long : length (map g pairs) ≡ length pairs = length-map pairs g in
        let x = pair_within pairs i (omega arith) in
        let y = pair_within pairs j (omega arith) in
        let xl = states_within follow l r pairs n v h wl wr i x.0 x.1 in
        let yl = states_within follow l r pairs n v h wl wr j y.0 y.1 in
        ne_eqb (get_or (map g pairs) i e) (get_or (map g pairs) j e) (λ same.
        let s = code_same (length r) x.0.left x.0.right y.0.left y.0.right xl.1 yl.1 (sym (at_k i e x.0 x.1) ∙ same ∙ at_k j e y.0 y.1) in
        let z : i ≡ j = apart follow l r pairs n v h i j x.0 y.0 x.1 y.1 s.0 s.1 in
        omega arith)

    below : (c : ℕ) → list_any (eqb c) (map g pairs) ≡ true → c < length r * length l
    below c is =
        let (i, il, e) = Contains-from_any {eq = eqb} eqb-true c (map g pairs) is in
        let long : length (map g pairs) ≡ length pairs = length-map pairs g in
        let x = pair_within pairs i (omega arith) in
        let xl = states_within follow l r pairs n v h wl wr i x.0 x.1 in
        let same : c ≡ code (length r) x.0.left x.0.right = sym e ∙ at_k i c x.0 x.1 in
        let up : length r * suc x.0.left ≤ length r * length l = mul-le-mul_left (length r) (omega (arith, xl.0)) in
        let f : length r * suc x.0.left ≡ length r * x.0.left + length r = grind arith in
        omega (arith, xl.1)
