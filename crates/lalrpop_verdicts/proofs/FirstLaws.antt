-- Lists given one after another, and for each the place of the first one that is equal.
use Rattle.std.proofs.Common.{◌≡◌, ◌≢◌, ℕ, Bool, true, false, ◌+◌, ◌<◌, ◌≤◌, List, [], ◌∷◌, ◌++◌, map, length, take, get_or, refl, sym, ap, ◌∙◌, subst, ⊎_elim, arith, length-append}
use Rattle.std.specs.Prelude.{Some, None, Vec}
use Rattle.std.specs.Global.{Global}
use Rattle.std.specs.HashMap.{HashMap, get, Updates, IsEmpty}
use Rattle.std.proofs.Math.ListN.{get_or-append}
use Rattle.std.proofs.Math.Seq.{get_or-append_seam}
use Rattle.std.proofs.lemmas.Bool.{cases_lt}
use Rattle.std.proofs.lemmas.List.{map_more, take_all}
use Rattle.std.proofs.lemmas.Bool.Decides.{Decides-eqb}
use Rattle.std.proofs.lemmas.Slice.Eq.{slice_eq-Decides}
use Rattle.lalrpop_verdicts.specs.Internal.Classes.{AreClassesOf, AreFirsts, list_eq, row_at}

-- ---- classes
module _ (rows : List (List ℕ)) (classes : List ℕ) (h : AreClassesOf rows classes) (p q : ℕ) (a : p < length rows) (b : q < length rows) where
  pub same_row : get_or classes p 0 ≡ get_or classes q 0 → row_at rows p ≡ row_at rows q
  same_row e = sym (h.equal p a) ∙ ap (row_at rows) e ∙ h.equal q b

  pub same_class : row_at rows p ≡ row_at rows q → get_or classes p 0 ≡ get_or classes q 0
  same_class e =
      ⊎_elim (λ (l : get_or classes p 0 < get_or classes q 0). absurd (h.first q (get_or classes p 0) b l (h.equal p a ∙ e)))
      (λ (l : get_or classes q 0 ≤ get_or classes p 0).
      ⊎_elim (λ (k : get_or classes q 0 < get_or classes p 0). absurd (h.first p (get_or classes q 0) a k (h.equal q b ∙ sym e)))
      (λ (k : get_or classes p 0 ≤ get_or classes q 0). omega arith)
      (cases_lt (get_or classes q 0) (get_or classes p 0)))
      (cases_lt (get_or classes p 0) (get_or classes q 0))

-- ---- one more list
earlier_row : (rows : List (List ℕ)) (r : List ℕ) (j : ℕ) → j < length rows → row_at (rows ++ r ∷ []) j ≡ row_at rows j
earlier_row rows r j l = get_or-append rows (r ∷ []) [] j l

last_row : (rows : List (List ℕ)) (r : List ℕ) → row_at (rows ++ r ∷ []) (length rows) ≡ r
last_row rows r = get_or-append_seam rows r [] []

long : (rows : List (List ℕ)) (r : List ℕ) → length (rows ++ r ∷ []) ≡ length rows + 1
long rows r = length-append rows (r ∷ [])

module _ (rows : List (List ℕ)) (classes : List ℕ) (h : AreClassesOf rows classes) (r : List ℕ) (first : ℕ) where
  abbrev more : List (List ℕ)
  more = rows ++ r ∷ []

  abbrev on : List ℕ
  on = classes ++ first ∷ []

  on_early : (p : ℕ) → p < length rows → get_or on p 0 ≡ get_or classes p 0
  on_early p l = let k : p < length classes = omega (arith, h.same_length) in get_or-append classes (first ∷ []) 0 p k

  on_last : (p : ℕ) → p ≡ length rows → get_or on p 0 ≡ first
  on_last p e = ap (λ k. get_or on k 0) (e ∙ sym h.same_length) ∙ get_or-append_seam classes first [] 0

  at_last : (p : ℕ) → p ≡ length rows → row_at more p ≡ r
  at_last p e = ap (row_at more) e ∙ last_row rows r

  last_place : (p : ℕ) → p < length more → length rows ≤ p → p ≡ length rows
  last_place p l k = omega (arith, long rows r)

  pub classes_push : first ≤ length rows → row_at more first ≡ r → ((j : ℕ) → j < first → row_at rows j ≢ r) → AreClassesOf more on
  classes_push most is none = record {
    same_length = length-append classes (first ∷ []) ∙ ap (λ k. k + 1) h.same_length ∙ sym (long rows r);
    least = λ p l. ⊎_elim (λ (k : p < length rows). rw (on_early p k) (h.least p k)) (λ (k : length rows ≤ p). let e = last_place p l k in rw (on_last p e) (omega arith)) (cases_lt p (length rows));
    equal = λ p l.
        ⊎_elim (λ (k : p < length rows). ap (row_at more) (on_early p k) ∙ earlier_row rows r (get_or classes p 0) (omega (arith, h.least p k)) ∙ h.equal p k ∙ sym (earlier_row rows r p k))
        (λ (k : length rows ≤ p). let e = last_place p l k in ap (row_at more) (on_last p e) ∙ is ∙ sym (at_last p e)) (cases_lt p (length rows));
    first = λ p j l below same.
        ⊎_elim (λ (k : p < length rows).
        let low : j < get_or classes p 0 = subst (λ n. j < n) (on_early p k) below in
        h.first p j k low (sym (earlier_row rows r j (omega (arith, h.least p k))) ∙ same ∙ earlier_row rows r p k))
        (λ (k : length rows ≤ p).
        let e = last_place p l k in
        let low : j < first = subst (λ n. j < n) (on_last p e) below in
        none j low (sym (earlier_row rows r j (omega arith)) ∙ same ∙ at_last p e)) (cases_lt p (length rows));
  }

pub no_classes : AreClassesOf [] []
no_classes = record {
  same_length = refl;
  least = λ p l. absurd (omega arith);
  equal = λ p l. absurd (omega arith);
  first = λ p j l. absurd (omega arith);
}

-- ---- the map
pub no_firsts : {S : Type 0} (known : HashMap (Vec ℕ Global) ℕ S) (places : List ℕ) → IsEmpty known → places ≡ [] → AreFirsts [] known places
no_firsts known places none e = record {
  classes = subst (AreClassesOf []) (sym e) no_classes;
  found = λ k c g. (let h : get list_eq known k ≡ None = rw none refl in let g2 : get list_eq known k ≡ Some c = g in cc);
  missing = λ k g j l. absurd (omega arith);
}

pub equal_lists : (x y : Vec ℕ Global) → list_eq x y ≡ true → x.items ≡ y.items
equal_lists x y = (slice_eq-Decides Decides-eqb x.items y.items (list_eq x y) refl).0

pub other_lists : (x y : Vec ℕ Global) → list_eq x y ≡ false → x.items ≢ y.items
other_lists x y apart e = let same_lists : list_eq x y ≡ true = (slice_eq-Decides Decides-eqb x.items y.items (list_eq x y) refl).1 e in cc

module _ {S : Type 0} (rows : List (List ℕ)) (known : HashMap (Vec ℕ Global) ℕ S) (places : List ℕ) (h : AreFirsts rows known places) (v : Vec ℕ Global) where
  -- the list was given before
  pub push_found : (first : ℕ) → get list_eq known v ≡ Some first → AreFirsts (rows ++ v.items ∷ []) known (places ++ first ∷ [])
  push_found first g = let at = h.found v first g in record {
    classes = classes_push rows places h.classes v.items first (omega (arith, at.0)) (earlier_row rows v.items first at.0 ∙ at.1) at.2;
    found = λ k c e. let o = h.found k c e in
        (omega (arith, o.0, long rows v.items), earlier_row rows v.items c o.0 ∙ o.1, λ j l same. o.2 j l (sym (earlier_row rows v.items j (omega (arith, o.0))) ∙ same));
    missing = λ k e j l same.
        ⊎_elim (λ (s : j < length rows). h.missing k e j s (sym (earlier_row rows v.items j s) ∙ same))
        (λ (s : length rows ≤ j). missed k e (sym (at_last rows places h.classes v.items first j (omega (arith, long rows v.items))) ∙ same)) (cases_lt j (length rows));
  }
    where
      missed : (k : Vec ℕ Global) → get list_eq known k ≡ None → v.items ≡ k.items → ⊥
      missed k e same = let at = h.found v first g in h.missing k e first at.0 (at.1 ∙ same)

  -- it was not
  module _ (known2 : HashMap (Vec ℕ Global) ℕ S) (none : get list_eq known v ≡ None) (up : Updates list_eq known known2 v (Some (length rows))) where
    none_before : (j : ℕ) → j < length rows → row_at rows j ≢ v.items
    none_before = h.missing v none

    found_here : (k : Vec ℕ Global) (c : ℕ) → list_eq v k ≡ true → get list_eq known2 k ≡ Some c → (c ≡ length rows) × (v.items ≡ k.items)
    found_here k c same_lists e =
        let is : get list_eq known2 k ≡ Some (length rows) = up.0 k ∙ rw same_lists refl in
        ((let g : Some c ≡ Some (length rows) = sym e ∙ is in cc), equal_lists v k same_lists)

    found_there : (k : Vec ℕ Global) → list_eq v k ≡ false → get list_eq known2 k ≡ get list_eq known k
    found_there k apart = up.0 k ∙ rw apart refl

    found_more : (k : Vec ℕ Global) (c : ℕ) → get list_eq known2 k ≡ Some c
        → (c < length (rows ++ v.items ∷ [])) × (row_at (rows ++ v.items ∷ []) c ≡ k.items) × ((j : ℕ) → j < c → row_at (rows ++ v.items ∷ []) j ≢ k.items)
    found_more k c e = by_case (list_eq v k) refl
      where
        by_case : (b : Bool) → list_eq v k ≡ b → (c < length (rows ++ v.items ∷ [])) × (row_at (rows ++ v.items ∷ []) c ≡ k.items) × ((j : ℕ) → j < c → row_at (rows ++ v.items ∷ []) j ≢ k.items)
        by_case true same_lists =
            let o = found_here k c same_lists e in (
              omega (arith, o.0, long rows v.items),
              at_last rows places h.classes v.items 0 c o.0 ∙ o.1,
              λ j l same. none_before j (omega (arith, o.0)) (sym (earlier_row rows v.items j (omega (arith, o.0))) ∙ same ∙ sym o.1),
            )
        by_case false apart =
            let o = h.found k c (sym (found_there k apart) ∙ e) in
            (omega (arith, o.0, long rows v.items), earlier_row rows v.items c o.0 ∙ o.1, λ j l same. o.2 j l (sym (earlier_row rows v.items j (omega (arith, o.0))) ∙ same))

    missing_more : (k : Vec ℕ Global) → get list_eq known2 k ≡ None → (j : ℕ) → j < length (rows ++ v.items ∷ []) → row_at (rows ++ v.items ∷ []) j ≢ k.items
    missing_more k e j l same = by_case (list_eq v k) refl
      where
        by_case : (b : Bool) → list_eq v k ≡ b → ⊥
        by_case true same_lists = let is : get list_eq known2 k ≡ Some (length rows) = up.0 k ∙ rw same_lists refl in cc
        by_case false apart =
            ⊎_elim (λ (s : j < length rows). h.missing k (sym (found_there k apart) ∙ e) j s (sym (earlier_row rows v.items j s) ∙ same))
            (λ (s : length rows ≤ j). other_lists v k apart (sym (at_last rows places h.classes v.items 0 j (omega (arith, long rows v.items))) ∙ same)) (cases_lt j (length rows))

    pub push_missing : AreFirsts (rows ++ v.items ∷ []) known2 (places ++ length rows ∷ [])
    push_missing = record {
      classes = classes_push rows places h.classes v.items (length rows) (omega arith) (last_row rows v.items) none_before;
      found = found_more;
      missing = missing_more;
    }

-- ---- the lists of the first n of xs, by f
module _ {X : Type 0} {S : Type 0} (f : X → List ℕ) (xs : List X) (n : ℕ) (known : HashMap (Vec ℕ Global) ℕ S) (places : List ℕ) where
  pub push_row : (x : X) (row : List ℕ) → n < length xs → x ≡ get_or xs n x → row ≡ f x → AreFirsts (map f (take n xs) ++ row ∷ []) known places → AreFirsts (map f (take (n + 1) xs)) known places
  push_row x row l at e h =
      rw (map_more f xs n x l)
      (subst (λ (y : X). AreFirsts (map f (take n xs) ++ f y ∷ []) known places) at
      (subst (λ (r : List ℕ). AreFirsts (map f (take n xs) ++ r ∷ []) known places) e h))

  pub end_classes : length xs ≤ n → AreFirsts (map f (take n xs)) known places → AreClassesOf (map f xs) places
  end_classes l h = subst (λ (ys : List X). AreClassesOf (map f ys) places) (take_all n xs l) h.classes
