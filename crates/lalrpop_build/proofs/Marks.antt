-- Items of one pattern, as marks at their states.
use Rattle.std.proofs.Common.{◌≡◌, ℕ, zero, suc, ◌+◌, ◌<◌, ◌≤◌, ◌⊎◌, inl, inr, List, [], ◌∷◌, ◌++◌, length, get_or, drop, refl, ap, ap₂, sym, ◌∙◌, subst, arith, Bool, true, false, cond, not, ◌==◌, eqb-true, append_assoc, append-nil, drop-cons, add-one}
use Rattle.std.specs.List.{Contains}
use Rattle.std.specs.declared.cmp.Ordering.TheVariants.{Less}
use Rattle.std.proofs.Math.ListN.{set, replicate, drop_of_length-le}
use Rattle.std.proofs.lemmas.Bool.{cases_Bool, cases_lt}
use Rattle.std.proofs.lemmas.Bool.Decides.{nat_tests}
use Rattle.std.proofs.lemmas.List.{get_or-set_same, get_or-set_other, get_or-replicate, get_or_past, get_or_default, length-replicate}
use Rattle.lalrpop_dfa.specs.Ascending.{Item, item_cmp, AreAscendingItems}
use Rattle.lalrpop_build.specs.Internal.Worklist.{IsAdded, marked_from, marked}
use Rattle.lalrpop_hir.proofs.Members.{Has, has_from, contains_from}
use Rattle.lalrpop_hir.proofs.SortedLists.{sorted_nil, sorted_cons}
use Rattle.lalrpop_build.proofs.Sets.{less_state, nothing}

one_more : (i q : ℕ) (rest : List Item) (x : Item) (b : Bool) → Has (cond b ((i, q) ∷ rest) rest) x → (((i, q) ≡ x) × (b ≡ true)) ⊎ Has rest x
one_more i q rest x true (inl e) = inl (e, refl)
one_more i q rest x true (inr h) = inr h
one_more i q rest x false h = inr h

in_rest : (i q : ℕ) (rest : List Item) (x : Item) (b : Bool) → Has rest x → Has (cond b ((i, q) ∷ rest) rest) x
in_rest i q rest x true h = inr h
in_rest i q rest x false h = h

-- what is read from a mark
pub read_mark : (marks : List Bool) (k : ℕ) (b : Bool) → b ≡ get_or marks k b → k < length marks → b ≡ get_or marks k false
read_mark marks k b read l = read ∙ get_or_default marks k b false l

-- the item of pattern i at the state q
abbrev at : ℕ → ℕ → Item
at i q = (i, q)

module _ (i : ℕ) where
  from_parts : (marks : List Bool) (q : ℕ) (x : Item) → Has (marked_from i q marks) x → (k : ℕ) × (x ≡ (i, q + k)) × (get_or marks k false ≡ true)
  from_parts [] q x h = absurd h
  from_parts (b ∷ marks) q x h = elim (one_more i q (marked_from i (suc q) marks) x b h) [
    | inl here ↦ (0, sym here.0 ∙ ap (at i) (let e : q ≡ q + 0 = omega arith in e), here.1)
    | inr there ↦ (let r = from_parts marks (suc q) x there in (suc r.0, r.1 ∙ ap (at i) (let f : suc q + r.0 ≡ q + suc r.0 = omega arith in f), r.2))
  ]

  from_has : (marks : List Bool) (q k : ℕ) → get_or marks k false ≡ true → Has (marked_from i q marks) (i, q + k)
  from_has [] q k e = cc
  from_has (b ∷ marks) q zero e = let same : b ≡ true = e in rw same (inl (ap (at i) (let f : q ≡ q + 0 = omega arith in f)))
  from_has (b ∷ marks) q (suc k) e =
      let f : suc q + k ≡ q + suc k = omega arith in
      in_rest i q (marked_from i (suc q) marks) (i, q + suc k) b (subst (λ n. Has (marked_from i (suc q) marks) (i, n)) f (from_has marks (suc q) k e))

  from_below : (marks : List Bool) (q : ℕ) (y : Item) → Has (marked_from i (suc q) marks) y → item_cmp (i, q) y ≡ Less
  from_below marks q y h = let r = from_parts marks (suc q) y h in less_state (i, q) y (sym (ap (λ (z : Item). z.0) r.1)) (let f : y.1 ≡ suc q + r.0 = ap (λ (z : Item). z.1) r.1 in omega (arith, f))

  ascends_by : (marks : List Bool) (q : ℕ) (b : Bool) → AreAscendingItems (marked_from i (suc q) marks) → AreAscendingItems (cond b ((i, q) ∷ marked_from i (suc q) marks) (marked_from i (suc q) marks))
  ascends_by marks q true s = sorted_cons item_cmp (i, q) (marked_from i (suc q) marks) (from_below marks q) s
  ascends_by marks q false s = s

  from_ascends : (marks : List Bool) (q : ℕ) → AreAscendingItems (marked_from i q marks)
  from_ascends [] q = sorted_nil item_cmp
  from_ascends (b ∷ marks) q = ascends_by marks q b (from_ascends marks (suc q))

  -- with one more mark, unless there was one
  longer_here : (q : ℕ) (rest : List Item) (b : Bool) → length ((i, q) ∷ rest) ≡ length (cond b ((i, q) ∷ rest) rest) + cond (not b) 1 0
  longer_here q rest true = omega arith
  longer_here q rest false = omega arith

  longer_by : (q n : ℕ) (xs ys : List Item) (b : Bool) → length xs ≡ length ys + n → length (cond b ((i, q) ∷ xs) xs) ≡ length (cond b ((i, q) ∷ ys) ys) + n
  longer_by q n xs ys true e = omega (arith, e)
  longer_by q n xs ys false e = e

  from_more : (marks : List Bool) (q k : ℕ) → k < length marks → length (marked_from i q (set marks k true)) ≡ length (marked_from i q marks) + cond (not (get_or marks k false)) 1 0
  from_more [] q k l = absurd (omega arith)
  from_more (b ∷ marks) q zero l = longer_here q (marked_from i (suc q) marks) b
  from_more (b ∷ marks) q (suc k) l = longer_by q (cond (not (get_or marks k false)) 1 0) (marked_from i (suc q) (set marks k true)) (marked_from i (suc q) marks) b (from_more marks (suc q) k (omega arith))

  pub marked_parts : (marks : List Bool) (x : Item) → Has (marked i marks) x → (x.0 ≡ i) × (get_or marks x.1 false ≡ true)
  unfolding marked
  marked_parts marks x h =
      let r = from_parts marks 0 x h in
      let state : x.1 ≡ r.0 = (let f : x.1 ≡ 0 + r.0 = ap (λ (z : Item). z.1) r.1 in omega (arith, f)) in
      (ap (λ (z : Item). z.0) r.1, ap (λ n. get_or marks n false) state ∙ r.2)

  pub marked_has : (marks : List Bool) (x : Item) → x.0 ≡ i → get_or marks x.1 false ≡ true → Has (marked i marks) x
  unfolding marked
  marked_has marks x e h =
      let f : 0 + x.1 ≡ x.1 = omega arith in
      subst (λ z. Has (marked_from i 0 marks) z) (ap (at i) f ∙ ap (λ j. at j x.1) (sym e)) (from_has marks 0 x.1 h)

  pub marked_ascends : (marks : List Bool) → AreAscendingItems (marked i marks)
  unfolding marked
  marked_ascends marks = from_ascends marks 0

  marked_more : (marks : List Bool) (k : ℕ) → k < length marks → length (marked i (set marks k true)) ≡ length (marked i marks) + cond (not (get_or marks k false)) 1 0
  unfolding marked
  marked_more marks k l = from_more marks 0 k l

  pub none_marked : (marks : List Bool) (n : ℕ) → marks ≡ replicate n false → marked i marks ≡ []
  none_marked marks n e = nothing (marked i marks) (λ x h. unmarked x.1 (marked_parts marks x h).1)
    where
      unmarked : (k : ℕ) → get_or marks k false ≡ true → ⊥
      unmarked k h = elim (cases_lt k n) [
        | inl l ↦ (let f : get_or marks k false ≡ false = ap (λ ms. get_or ms k false) e ∙ get_or-replicate n k false false l in let clash : true ≡ false = sym h ∙ f in cc)
        | inr l ↦ (let f : get_or marks k false ≡ false = get_or_past marks k false (omega (arith, ap length e, length-replicate n false)) in let clash : true ≡ false = sym h ∙ f in cc)
      ]

  -- ---- one item is marked
  module _ (marks : List Bool) (item : Item) (of : item.0 ≡ i) where
    was_marked : (b : Bool) → get_or marks item.1 false ≡ b → not b ≡ false → Contains (marked i marks) item
    was_marked true is e = contains_from (marked i marks) item (marked_has marks item of is)
    was_marked false is e = cc

    same_or_kept : (k : ℕ) → (k ≡ item.1) ⊎ (get_or (set marks item.1 true) k false ≡ get_or marks k false)
    same_or_kept k = elim (cases_Bool (k == item.1)) [
      | inl t ↦ inl (eqb-true k item.1 t)
      | inr f ↦ inr (get_or-set_other marks item.1 k true false (λ e. grind (arith, nat_tests)))
    ]

    pub mark_added : item.1 < length marks → IsAdded (marked i marks) item (not (get_or marks item.1 false)) (marked i (set marks item.1 true))
    mark_added l =
        let marks2 : List Bool = set marks item.1 true in
        let here : get_or marks2 item.1 false ≡ true = get_or-set_same marks item.1 true false l in
        record {
          ordered = marked_ascends marks2;
          kept = λ x h. (let r = marked_parts marks x (has_from (marked i marks) x h) in
              contains_from (marked i marks2) x (marked_has marks2 x r.0 (elim (same_or_kept x.1) [ inl e ↦ ap (λ k. get_or marks2 k false) e ∙ here | inr s ↦ s ∙ r.1 ])));
          added = contains_from (marked i marks2) item (marked_has marks2 item of here);
          come = λ x h. (let r = marked_parts marks2 x (has_from (marked i marks2) x h) in
              elim (same_or_kept x.1) [
                | inl e ↦ inr (ap₂ at (of ∙ sym r.0) (sym e))
                | inr s ↦ inl (contains_from (marked i marks) x (marked_has marks x r.0 (sym s ∙ r.1)))
              ]);
          there = was_marked (get_or marks item.1 false) refl;
          len = marked_more marks item.1 l;
        }

  -- ---- the marks in a row
  pub marks_start : (marks : List Bool) (old : List Item) → old ++ marked_from i 0 (drop 0 marks) ≡ old ++ marked i marks
  unfolding marked
  marks_start marks old = refl

  pub marks_next : (marks : List Bool) (k : ℕ) (found found2 all : List Item) → k < length marks → found ++ marked_from i k (drop k marks) ≡ all → found2 ≡ found ++ cond (get_or marks k false) ((i, k) ∷ []) []
      → found2 ++ marked_from i (k + 1) (drop (k + 1) marks) ≡ all
  marks_next marks k found found2 all l h is =
      let rest : List Item = marked_from i (k + 1) (drop (k + 1) marks) in
      let cut : drop k marks ≡ get_or marks k false ∷ drop (k + 1) marks = drop-cons marks k false l ∙ ap (λ n. get_or marks k false ∷ drop n marks) (sym (add-one k)) in
      let next : marked_from i k (drop k marks) ≡ cond (get_or marks k false) ((i, k) ∷ rest) rest =
      ap (marked_from i k) cut ∙ ap (λ n. cond (get_or marks k false) ((i, k) ∷ marked_from i n (drop (k + 1) marks)) (marked_from i n (drop (k + 1) marks))) (sym (add-one k)) in
      ap (λ ys. ys ++ rest) is ∙ (append_assoc found (cond (get_or marks k false) ((i, k) ∷ []) []) rest ∙ (ap (λ ys. found ++ ys) (both (get_or marks k false) rest ∙ sym next) ∙ h))
    where
      both : (b : Bool) (rest : List Item) → cond b ((i, k) ∷ []) [] ++ rest ≡ cond b ((i, k) ∷ rest) rest
      both true rest = refl
      both false rest = refl

  pub marks_end : (marks : List Bool) (k : ℕ) (found all : List Item) → length marks ≤ k → found ++ marked_from i k (drop k marks) ≡ all → found ≡ all
  marks_end marks k found all l h =
      let none : drop k marks ≡ [] = drop_of_length-le marks l in
      sym (append-nil found) ∙ (ap (λ ms. found ++ marked_from i k ms) (sym none) ∙ h)
