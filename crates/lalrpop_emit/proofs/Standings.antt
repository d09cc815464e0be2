-- What the rows stand for, one after another.
use Rattle.std.proofs.Common.{◌≡◌, ℕ, suc, ◌<◌, ◌+◌, ◌-◌, ◌*◌, ◌/◌, ◌∙◌, inl, inr, List, [], ◌∷◌, ◌++◌, length, map, get_or, refl, sym, ap, subst, arith, append_assoc}
use Rattle.std.specs.List.{range_with_len}
use Rattle.std.proofs.lemmas.Bool.{cases_lt}
use Rattle.std.proofs.lemmas.List.{get_or_append_left, get_or-append_right, length-append}
use Rattle.std.specs.Prelude.{Some}
use Rattle.std.proofs.lemmas.Option.{slice_get-get_or}
use Rattle.std.proofs.lemmas.List.FromFn.{get_or-map-range_with_len, length-map-range_with_len, map-range_with_len_more}
use Rattle.std.proofs.Math.Nat.{mul-div_left}
use Rattle.lalrpop_dense.specs.DenseTable.{TableNumbers}
use Rattle.lalrpop_emit.specs.Ahead.{Standing, Begin, Lost, Ended, In, Again, by_column, rule_at, rule_number}
use Rattle.lalrpop_emit.specs.Internal.Standings.{IsAmong, live_row, place_in, standing_at, standing_cells, standings_of}
use Rattle.lalrpop_emit.specs.declared.regular_ahead.Shape.{Shape}

module _ (s : Shape) where
  abbrev ins : List Standing
  ins = map (λ k. In (live_row s k)) (range_with_len 0 s.live)

  abbrev agains : List Standing
  agains = map (λ k. Again (live_row s k)) (range_with_len 0 s.live)

  abbrev at : ℕ → Standing
  at = standing_at s

  ins_length : length ins ≡ s.live
  ins_length = length-map-range_with_len (λ k. In (live_row s k)) 0 s.live

  agains_length : length agains ≡ s.live
  agains_length = length-map-range_with_len (λ k. Again (live_row s k)) 0 s.live

  pub all_standings : length (standings_of s) ≡ 2 * s.live + 3
  all_standings = omega (arith, length-append ins (Begin ∷ Ended ∷ agains), ins_length, agains_length)

  later : (k : ℕ) → at (k + 1) ≡ get_or (ins ++ (Begin ∷ Ended ∷ agains)) k Lost
  later k = let one : k + 1 ≡ suc k = omega arith in ap at one

  -- those behind the live rows
  behind : (k : ℕ) → at (k + s.live + 1) ≡ get_or (Begin ∷ Ended ∷ agains) k Lost
  behind k =
      let rest : k + s.live - s.live ≡ k = omega arith in
      later (k + s.live) ∙ get_or-append_right ins (Begin ∷ Ended ∷ agains) s.live (k + s.live) Lost ins_length (omega arith)
      ∙ ap (λ (n : ℕ). get_or (Begin ∷ Ended ∷ agains) n Lost) rest

  pub at_in : (k : ℕ) → k < s.live → at (k + 1) ≡ In (live_row s k)
  at_in k l =
      later k ∙ get_or_append_left ins (Begin ∷ Ended ∷ agains) Lost k (omega (arith, ins_length, l))
      ∙ get_or-map-range_with_len (λ k. In (live_row s k)) 0 s.live k k Lost l (omega arith)

  pub at_begin : at (s.live + 1) ≡ Begin
  at_begin = let place : s.live + 1 ≡ 0 + s.live + 1 = omega arith in ap at place ∙ behind 0

  pub at_ended : at (s.live + 2) ≡ Ended
  at_ended = let place : s.live + 2 ≡ 1 + s.live + 1 = omega arith in ap at place ∙ behind 1

  pub at_again : (k : ℕ) → k < s.live → at (k + s.live + 3) ≡ Again (live_row s k)
  at_again k l =
      let place : k + s.live + 3 ≡ suc (suc k) + s.live + 1 = omega arith in
      ap at place ∙ behind (suc (suc k)) ∙ get_or-map-range_with_len (λ k. Again (live_row s k)) 0 s.live k k Lost l (omega arith)

  -- each place is one of these
  pub data Place (k : ℕ) : Type 0 where
    lost : k ≡ 0 → Place k
    inside : (j : ℕ) → j < s.live → k ≡ j + 1 → Place k
    begin : k ≡ s.live + 1 → Place k
    ended : k ≡ s.live + 2 → Place k
    again : (j : ℕ) → j < s.live → k ≡ j + s.live + 3 → Place k

  pub place_cases : (k : ℕ) → k < 2 * s.live + 3 → Place k
  place_cases k l = elim (cases_lt k 1) [
    | inl zero ↦ lost (omega (arith, zero))
    | inr some ↦ elim (cases_lt k (s.live + 1)) [
      | inl less ↦ inside (k - 1) (omega (arith, less, some)) (omega (arith, some))
      | inr past ↦ elim (cases_lt k (s.live + 2)) [
        | inl first ↦ begin (omega (arith, first, past))
        | inr beyond ↦ elim (cases_lt k (s.live + 3)) [
          | inl end ↦ ended (omega (arith, end, beyond))
          | inr more ↦ again (k - s.live - 3) (omega (arith, more, l)) (omega (arith, more))
        ]
      ]
    ]
  ]

  live_number : (k : ℕ) → 0 < s.stride → live_row s k / s.stride ≡ s.dead + k
  live_number k some = mul-div_left (s.dead + k) some

  -- a standing stands at its place
  pub at_place : (x : Standing) → 0 < s.stride → IsAmong s x → (place_in s x < 2 * s.live + 3) × (at (place_in s x) ≡ x)
  at_place Lost some h = (omega arith, refl)
  at_place Begin some h = (omega arith, at_begin)
  at_place Ended some h = (omega arith, at_ended)
  at_place (In row) some (k, l, is) =
      let number : row / s.stride - s.dead ≡ k = omega (arith, ap (λ (n : ℕ). n / s.stride) is, live_number k some) in
      (omega (arith, number, l), ap (λ (n : ℕ). at (n + 1)) number ∙ at_in k l ∙ ap In (sym is))
  at_place (Again row) some (k, l, is) =
      let number : row / s.stride - s.dead ≡ k = omega (arith, ap (λ (n : ℕ). n / s.stride) is, live_number k some) in
      (omega (arith, number, l), ap (λ (n : ℕ). at (n + s.live + 3)) number ∙ at_again k l ∙ ap Again (sym is))

  pub among_at : (k : ℕ) → k < 2 * s.live + 3 → IsAmong s (at k)
  among_at k l = elim (place_cases k l) [
    | lost is ↦ subst (λ (n : ℕ). IsAmong s (at n)) (sym is) tt
    | inside j small is ↦ subst (λ (n : ℕ). IsAmong s (at n)) (sym is) (subst (IsAmong s) (sym (at_in j small)) (j, small, refl))
    | begin is ↦ subst (λ (n : ℕ). IsAmong s (at n)) (sym is) (subst (IsAmong s) (sym at_begin) tt)
    | ended is ↦ subst (λ (n : ℕ). IsAmong s (at n)) (sym is) (subst (IsAmong s) (sym at_ended) tt)
    | again j small is ↦ subst (λ (n : ℕ). IsAmong s (at n)) (sym is) (subst (IsAmong s) (sym (at_again j small)) (j, small, refl))
  ]

-- one more of a list that a function makes
pub one_more_of : {X : Type 0} (f : ℕ → X) (old now new : List X) (x : X) (n : ℕ) → now ≡ old ++ map f (range_with_len 0 n) → x ≡ f n → new ≡ now ++ x ∷ [] → new ≡ old ++ map f (range_with_len 0 (n + 1))
one_more_of f old now new x n before last is =
    is ∙ ap (λ xs. xs ++ x ∷ []) before ∙ append_assoc old (map f (range_with_len 0 n)) (x ∷ [])
    ∙ ap (λ xs. old ++ xs) (ap (λ y. map f (range_with_len 0 n) ++ y ∷ []) last ∙ sym (map-range_with_len_more f 0 n n (omega arith)))

-- what is read of the list
pub read_at : (s : Shape) (xs : List Standing) (k : ℕ) → xs ≡ standings_of s → k < length xs → (k < 2 * s.live + 3) × (get_or xs k Begin ≡ standing_at s k)
read_at s xs k is l =
    let same : Some (get_or xs k Begin) ≡ Some (get_or xs k Lost) = sym (slice_get-get_or xs k Begin l) ∙ slice_get-get_or xs k Lost l in
    let first : get_or xs k Begin ≡ get_or xs k Lost = cc in
    (omega (arith, l, ap length is, all_standings s), first ∙ ap (λ ys. get_or ys k Lost) is)

pub cells_length : (t : TableNumbers) (s : Shape) (width : ℕ) (x : Standing) → length (standing_cells t s width x) ≡ width + 1
cells_length t s width x =
    omega (
      arith,
      length-append (map (λ column. place_in s (by_column t width x column) * (width + 1)) (range_with_len 0 width)) (rule_number (rule_at t x) ∷ []),
      length-map-range_with_len (λ column. place_in s (by_column t width x column) * (width + 1)) 0 width,
    )
