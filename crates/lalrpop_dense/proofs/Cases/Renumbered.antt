-- Cases of specs/Renumbered.antt.
use Rattle.std.proofs.Common.{◌≡◌, ℕ, zero, suc, ◌<◌, ◌≤◌, List, [], ◌∷◌, length, codes, refl, sym, ap, subst, ◌∙◌, arith}
use Rattle.std.specs.Prelude.{Some, None, Ok, Err, ◌↔◌, slice_index}
use Rattle.lalrpop_hir.specs.Tree.{Tree, literal, capture}
use Rattle.lalrpop_hir.specs.Language.{Matches}
use Rattle.lalrpop_hir.specs.Winners.{TreeMatches}
use Rattle.lalrpop_dense.specs.Renumbered.{AreRenumbered, AreAlike, renumbered}
use Rattle.lalrpop_hir.specs.declared.token.Token.{Token}

abbrev a : Tree
a = literal (codes "a")

abbrev b : Tree
b = literal (codes "b")

-- 0 for 1, and 1 for 0
abbrev turned : ℕ → ℕ
turned zero = 1
turned (suc n) = 0

-- a group matches what is in it, and 7 and 9 are in the order of 0 and 1
group_and_other_precedences : AreAlike (a ∷ b ∷ []) (0 ∷ 1 ∷ []) (a ∷ capture None b ∷ []) (7 ∷ 9 ∷ [])
group_and_other_precedences = record {
  there = λ i l. (l, refl);
  back = λ i l. (l, refl);
  words = λ i w l. words i w;
  order = λ i j l m. order i j l m;
}
  where
    words : (i : ℕ) (w : List ℕ) → TreeMatches (a ∷ b ∷ []) w i ↔ TreeMatches (a ∷ capture None b ∷ []) w i
    words zero w = (λ m. m, λ m. m)
    words (suc zero) w = (λ m. (capture None b, (refl, of_second b m.0 w m.1.0 m.1.1)), λ m. (b, (refl, of_group m.0 w m.1.0 m.1.1)))
      where
        of_second : (s t : Tree) (w : List ℕ) → Some s ≡ Some t → Matches t w → Matches s w
        of_second s t w e m = let f : t ≡ s = cc in subst (λ (x : Tree). Matches x w) f m

        of_group : (t : Tree) (w : List ℕ) → Some (capture None b) ≡ Some t → Matches t w → Matches b w
        of_group t w e m = let f : t ≡ capture None b = cc in subst (λ (x : Tree). Matches x w) f m
    words (suc (suc i)) w = (λ m. m, λ m. m)

    order : (i j : ℕ) → i < 2 → j < 2 → (slice_index (0 ∷ 1 ∷ []) i ≤ slice_index (0 ∷ 1 ∷ []) j) ↔ (slice_index (7 ∷ 9 ∷ []) i ≤ slice_index (7 ∷ 9 ∷ []) j)
    order zero zero l m = (λ h. omega arith, λ h. omega arith)
    order zero (suc zero) l m = (λ h. omega arith, λ h. omega arith)
    order (suc zero) zero l m = (λ h. omega arith, λ h. omega arith)
    order (suc zero) (suc zero) l m = (λ h. omega arith, λ h. omega arith)
    order (suc (suc i)) j l m = absurd (omega arith)
    order i (suc (suc j)) l m = absurd (omega arith)

-- the two turned round
turned_round : AreRenumbered turned turned (a ∷ b ∷ []) (0 ∷ 1 ∷ []) (b ∷ a ∷ []) (1 ∷ 0 ∷ [])
turned_round = record {
  there = λ i l. inside i l;
  back = λ i l. inside i l;
  words = λ i w l. words i w l;
  order = λ i j l m. order i j l m;
}
  where
    inside : (i : ℕ) → i < 2 → (turned i < 2) × (turned (turned i) ≡ i)
    inside zero l = (omega arith, refl)
    inside (suc zero) l = (omega arith, refl)
    inside (suc (suc i)) l = absurd (omega arith)

    words : (i : ℕ) (w : List ℕ) → i < 2 → TreeMatches (a ∷ b ∷ []) w i ↔ TreeMatches (b ∷ a ∷ []) w (turned i)
    words zero w l = (λ m. m, λ m. m)
    words (suc zero) w l = (λ m. m, λ m. m)
    words (suc (suc i)) w l = absurd (omega arith)

    order : (i j : ℕ) → i < 2 → j < 2 → (slice_index (0 ∷ 1 ∷ []) i ≤ slice_index (0 ∷ 1 ∷ []) j) ↔ (slice_index (1 ∷ 0 ∷ []) (turned i) ≤ slice_index (1 ∷ 0 ∷ []) (turned j))
    order zero zero l m = (λ h. h, λ h. h)
    order zero (suc zero) l m = (λ h. h, λ h. h)
    order (suc zero) zero l m = (λ h. h, λ h. h)
    order (suc zero) (suc zero) l m = (λ h. h, λ h. h)
    order (suc (suc i)) j l m = absurd (omega arith)
    order i (suc (suc j)) l m = absurd (omega arith)

-- ---- what isn't alike

other_words : ¬ AreAlike (a ∷ []) (0 ∷ []) (b ∷ []) (0 ∷ [])
other_words alike = of_other ((alike.words 0 (codes "a") (omega arith)).0 (a, (refl, refl)))
  where
    not_b : (t : Tree) → Some b ≡ Some t → Matches t (codes "a") → ⊥
    not_b t e m =
        let f : t ≡ b = cc in
        let same : codes "a" ≡ codes "b" = subst (λ (x : Tree). Matches x (codes "a")) f m in
        let n : 97 ≡ 98 = ap (λ (v : List ℕ). slice_index v 0) same in
        omega (arith, n)

    of_other : TreeMatches (b ∷ []) (codes "a") 0 → ⊥
    of_other m = not_b m.0 m.1.0 m.1.1

other_order : (ts us : List Tree) → length ts ≡ 2 → ¬ AreAlike ts (0 ∷ 1 ∷ []) us (1 ∷ 0 ∷ [])
other_order ts us two alike =
    let less : 1 ≤ 0 = (alike.order 0 1 (omega arith) (omega arith)).0 (omega arith) in
    omega (arith, less)

-- two equal precedences aren't two of which one is greater
tie_for_an_order : (ts us : List Tree) → length ts ≡ 2 → ¬ AreAlike ts (0 ∷ 0 ∷ []) us (0 ∷ 1 ∷ [])
tie_for_an_order ts us two alike =
    let less : 1 ≤ 0 = (alike.order 1 0 (omega arith) (omega arith)).0 (omega arith) in
    omega (arith, less)

one_tree_less : (t : Tree) (ps qs : List ℕ) → ¬ AreAlike (t ∷ []) ps [] qs
one_tree_less t ps qs alike = let l : 0 < 0 = (alike.there 0 (omega arith)).0 in omega (arith, l)

-- both trees of the one list under one number
two_for_one : (f g : ℕ → ℕ) (ts us : List Tree) (ps qs : List ℕ) → length ts ≡ 2 → f 0 ≡ f 1 → ¬ AreRenumbered f g ts ps us qs
two_for_one f g ts us ps qs two e same =
    let here : 0 ≡ 1 = sym (same.there 0 (omega arith)).1 ∙ ap g e ∙ (same.there 1 (omega arith)).1 in
    omega (arith, here)

-- ---- a token under its new number

new_number : (token : Token) → token.index ≡ 0 → renumbered turned (Ok token) ≡ Ok (record token { index = 1 })
new_number token first = ap (λ (i : ℕ). Ok (record token { index = turned i })) first

fault_stays : renumbered turned (Err (record { at = 3 })) ≡ Err (record { at = 3 })
fault_stays = refl
