-- Two lists of ranges merged by their starts.
use Rattle.std.proofs.Common.{◌≡◌, ℕ, zero, suc, ◌<◌, ◌≤◌, ◌⊎◌, ◌↔◌, inl, inr, List, [], ◌∷◌, ◌++◌, ◌-◌, length, get_or, take, drop, length-drop, refl, sym, ap, subst, ◌∙◌, arith}
use Rattle.std.specs.List.Sorted.{IsNonDecreasingBy}
use Rattle.std.proofs.lemmas.Bool.{cases_lt}
use Rattle.std.proofs.lemmas.List.{drop_all, take_all, append-nil}
use Rattle.lalrpop_hir.specs.Range.{Range, Covered}
use Rattle.lalrpop_hir.specs.Runs.{next_scalar, AreApart, IsCanonical}
use Rattle.lalrpop_hir.proofs.Canons.{scalar_steps}
use Rattle.lalrpop_hir.proofs.Joining.{Ascend}

-- x and what `on` makes of a list, with the ranges of the list that start before x in front
abbrev pub put : Range → (List Range → List Range) → List Range → List Range
put x on [] = x ∷ on []
put x on (y ∷ ys) =
    elim (cases_lt y.start x.start) as (λ _. List Range) [ inl h ↦ y ∷ put x on ys | inr h ↦ x ∷ on (y ∷ ys) ]

-- the ranges of both lists by their starts
abbrev pub merge : List Range → List Range → List Range
merge [] ys = ys
merge (x ∷ xs) ys = put x (merge xs) ys

put-behind : (x : Range) (on : List Range → List Range) (y : Range) (ys : List Range) → y.start < x.start → put x on (y ∷ ys) ≡ y ∷ put x on ys
put-behind x on y ys h =
    elim (cases_lt y.start x.start) as (λ o. elim o as (λ _. List Range) [ inl h ↦ y ∷ put x on ys | inr h ↦ x ∷ on (y ∷ ys) ] ≡ y ∷ put x on ys)
    [ inl _ ↦ refl | inr g ↦ absurd (omega arith) ]

put-beside : (x : Range) (on : List Range → List Range) (y : Range) (ys : List Range) → x.start ≤ y.start → put x on (y ∷ ys) ≡ x ∷ on (y ∷ ys)
put-beside x on y ys h =
    elim (cases_lt y.start x.start) as (λ o. elim o as (λ _. List Range) [ inl h ↦ y ∷ put x on ys | inr h ↦ x ∷ on (y ∷ ys) ] ≡ x ∷ on (y ∷ ys))
    [ inl g ↦ absurd (omega arith) | inr _ ↦ refl ]

by_place : (P : List Range → Type 0) (x : Range) (on : List Range → List Range) (y : Range) (ys : List Range) → (y.start < x.start → P (y ∷ put x on ys)) → (x.start ≤ y.start → P (x ∷ on (y ∷ ys))) → P (put x on (y ∷ ys))
by_place P x on y ys f g =
    elim (cases_lt y.start x.start)
    [ inl h ↦ subst P (sym (put-behind x on y ys h)) (f h) | inr h ↦ subst P (sym (put-beside x on y ys h)) (g h) ]

put-ascend : (k : ℕ) (x : Range) (on : List Range → List Range) (ys : List Range) → ((zs : List Range) → Ascend x.start zs → Ascend x.start (on zs)) → k ≤ x.start → Ascend k ys → Ascend k (put x on ys)
put-ascend k x on [] f h q = (h, f [] tt)
put-ascend k x on (y ∷ ys) f h q =
    by_place (Ascend k) x on y ys
    (λ g. (q.0, put-ascend y.start x on ys f (omega arith) q.1))
    (λ g. (h, f (y ∷ ys) (g, q.1)))

merge-ascend : (k : ℕ) (xs ys : List Range) → Ascend k xs → Ascend k ys → Ascend k (merge xs ys)
merge-ascend k [] ys p q = q
merge-ascend k (x ∷ xs) ys p q =
    put-ascend k x (merge xs) ys (λ zs r. merge-ascend x.start xs zs p.1 r) p.0 q

put-into : (c : ℕ) (x : Range) (xs : List Range) (on : List Range → List Range) (ys : List Range) → ((zs : List Range) → Covered xs c ⊎ Covered zs c → Covered (on zs) c) → Covered (x ∷ xs) c ⊎ Covered ys c → Covered (put x on ys) c
put-into c x xs on [] f (inl (inl h)) = inl h
put-into c x xs on [] f (inl (inr h)) = inr (f [] (inl h))
put-into c x xs on [] f (inr h) = absurd h
put-into c x xs on (y ∷ ys) f p =
    by_place (λ l. Covered l c) x on y ys (λ _. front (put-into c x xs on ys f) p) (λ _. back p)
  where
    front : (Covered (x ∷ xs) c ⊎ Covered ys c → Covered (put x on ys) c) → Covered (x ∷ xs) c ⊎ Covered (y ∷ ys) c → Covered (y ∷ put x on ys) c
    front g (inl h) = inr (g (inl h))
    front g (inr (inl h)) = inl h
    front g (inr (inr h)) = inr (g (inr h))

    back : Covered (x ∷ xs) c ⊎ Covered (y ∷ ys) c → Covered (x ∷ on (y ∷ ys)) c
    back (inl (inl h)) = inl h
    back (inl (inr h)) = inr (f (y ∷ ys) (inl h))
    back (inr h) = inr (f (y ∷ ys) (inr h))

put-from : (c : ℕ) (x : Range) (xs : List Range) (on : List Range → List Range) (ys : List Range) → ((zs : List Range) → Covered (on zs) c → Covered xs c ⊎ Covered zs c) → Covered (put x on ys) c → Covered (x ∷ xs) c ⊎ Covered ys c
put-from c x xs on [] f (inl h) = inl (inl h)
put-from c x xs on [] f (inr h) = elim (f [] h) [ inl k ↦ inl (inr k) | inr k ↦ inr k ]
put-from c x xs on (y ∷ ys) f p =
    by_place (λ l. Covered l c → Covered (x ∷ xs) c ⊎ Covered (y ∷ ys) c) x on y ys (λ _. front (put-from c x xs on ys f)) (λ _. back) p
  where
    front : (Covered (put x on ys) c → Covered (x ∷ xs) c ⊎ Covered ys c) → Covered (y ∷ put x on ys) c → Covered (x ∷ xs) c ⊎ Covered (y ∷ ys) c
    front g (inl h) = inr (inl h)
    front g (inr h) = elim (g h) [ inl k ↦ inl k | inr k ↦ inr (inr k) ]

    back : Covered (x ∷ on (y ∷ ys)) c → Covered (x ∷ xs) c ⊎ Covered (y ∷ ys) c
    back (inl h) = inl (inl h)
    back (inr h) = elim (f (y ∷ ys) h) [ inl k ↦ inl (inr k) | inr k ↦ inr k ]

merge-into : (c : ℕ) (xs ys : List Range) → Covered xs c ⊎ Covered ys c → Covered (merge xs ys) c
merge-into c [] ys (inl h) = absurd h
merge-into c [] ys (inr h) = h
merge-into c (x ∷ xs) ys p = put-into c x xs (merge xs) ys (λ zs. merge-into c xs zs) p

merge-from : (c : ℕ) (xs ys : List Range) → Covered (merge xs ys) c → Covered xs c ⊎ Covered ys c
merge-from c [] ys h = inr h
merge-from c (x ∷ xs) ys h = put-from c x xs (merge xs) ys (λ zs. merge-from c xs zs) h

pub merge-covers : (xs ys : List Range) (c : ℕ) → (Covered xs c ⊎ Covered ys c) ↔ Covered (merge xs ys) c
merge-covers xs ys c = (merge-into c xs ys, merge-from c xs ys)

ascend-from_apart : (s : Range) (ss : List Range) → AreApart next_scalar (s ∷ ss) → Ascend s.start ss
ascend-from_apart s [] a = tt
ascend-from_apart s (t ∷ ts) a = (omega (arith, a.0, a.1, scalar_steps.above s.end), ascend-from_apart t ts a.2)

canonical-ascend : (ss : List Range) → IsCanonical ss → Ascend 0 ss
canonical-ascend [] k = tt
canonical-ascend (s ∷ ss) k = (omega arith, ascend-from_apart s ss k.0)

ascend-at : (a : ℕ) (ss : List Range) (j : ℕ) (d : Range) → Ascend a ss → j < length ss → a ≤ (get_or ss j d).start
ascend-at a [] j d up h = absurd (omega arith)
ascend-at a (s ∷ ss) zero d up h = up.0
ascend-at a (s ∷ ss) (suc j) d up h = omega (arith, up.0, ascend-at s.start ss j d up.1 (omega arith))

ascend-order : (a : ℕ) (ss : List Range) (i j : ℕ) (d : Range) → Ascend a ss → i ≤ j → j < length ss → (get_or ss i d).start ≤ (get_or ss j d).start
ascend-order a [] i j d up h l = absurd (omega arith)
ascend-order a (s ∷ ss) zero zero d up h l = omega arith
ascend-order a (s ∷ ss) zero (suc j) d up h l = ascend-at s.start ss j d up.1 (omega arith)
ascend-order a (s ∷ ss) (suc i) zero d up h l = absurd (omega arith)
ascend-order a (s ∷ ss) (suc i) (suc j) d up h l = ascend-order s.start ss i j d up.1 (omega arith) (omega arith)

pub merge-order : (xs ys : List Range) → IsCanonical xs → IsCanonical ys → IsNonDecreasingBy (λ range. range.start) (merge xs ys)
merge-order xs ys p q i j d =
    ascend-order 0 (merge xs ys) i j d (merge-ascend 0 xs ys (canonical-ascend xs p) (canonical-ascend ys q))

merge-nil : (xs : List Range) → merge xs [] ≡ xs
merge-nil [] = refl
merge-nil (x ∷ xs) = ap (λ l. x ∷ l) (merge-nil xs)

-- after i and j ranges: the ranges so far and the merge of what is left are the merge of all
pub record IsMerging (xs ys : List Range) (i j : ℕ) (done : List Range) : Type 0 where
  pub merges : done ++ merge (drop i xs) (drop j ys) ≡ merge xs ys
  pub in_first : i ≤ length xs
  pub in_second : j ≤ length ys

-- with one list at its end, what is left of both is the rest
pub IsMerging-end : (xs ys : List Range) (i j : ℕ) (done : List Range) → IsMerging xs ys i j done → (length xs ≤ i) ⊎ (length ys ≤ j) → done ++ (drop i xs ++ drop j ys) ≡ merge xs ys
IsMerging-end xs ys i j done k (inl h) =
    ap (λ l. done ++ (l ++ drop j ys)) (drop_all i xs h) ∙ (ap (λ l. done ++ merge l (drop j ys)) (sym (drop_all i xs h)) ∙ k.merges)
IsMerging-end xs ys i j done k (inr h) =
    ap (λ l. done ++ (drop i xs ++ l)) (drop_all j ys h) ∙ (ap (λ l. done ++ l) (append-nil (drop i xs) ∙ sym (merge-nil (drop i xs))) ∙ (ap (λ l. done ++ merge (drop i xs) l) (sym (drop_all j ys h)) ∙ k.merges))

-- the slice from i on is what is left
pub tail-left : (i : ℕ) (xs : List Range) → take (length xs - i) (drop i xs) ≡ drop i xs
tail-left i xs = take_all (length xs - i) (drop i xs) (omega (arith, length-drop i xs))
