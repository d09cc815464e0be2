-- The map gives the numbers of the kernels, before and after one is added.
use Rattle.std.proofs.Common.{◌≡◌, ℕ, zero, suc, ◌<◌, ◌≤◌, List, [], ◌∷◌, ◌++◌, length, drop, refl, ap, sym, ◌∙◌, subst, arith, inl, inr, Bool, true, false, ◌||◌, length-append}
use Rattle.std.specs.Prelude.{Some, None, slice_get, cond, ◌==◌, ◌^◌}
use Rattle.std.specs.List.{list_any, All, AllZip}
use Rattle.std.specs.Map.{lookup, values_of}
use Rattle.std.specs.Ordering.{is_eq, match_ordering}
use Rattle.std.specs.Cmp.{IsTotalOrder, Equal-is, tied_back, tied_itself}
use Rattle.std.specs.BTreeMap.{get, get_by, BTreeMap, Updates, btree_map_len, insert_entry, is_at}
use Rattle.std.specs.declared.cmp.Ordering.{Ordering}
use Rattle.std.specs.declared.cmp.Ordering.TheVariants.{Less, Equal, Greater}
use Rattle.std.proofs.lemmas.Bool.{cases_Bool}
use Rattle.std.proofs.lemmas.Bool.Decides.{nat_tests}
use Rattle.std.proofs.lemmas.List.{drop-append-le}
use Rattle.std.proofs.lemmas.Map.Views.{All-values-insert_entry}
use Rattle.lalrpop_hir.proofs.Pushed.{pushed_cases, pushed_keeps, pushed_last}
use Rattle.lalrpop_dfa.specs.Kernels.{IsNumberOf, AreDistinct, added}
use Rattle.lalrpop_dfa.specs.Internal.Numbered.{key_with, by_number, in_order, IsNumbered, IsKernelSet}

any_from : {X : Type 0} (p : X → Bool) (xs : List X) (n : ℕ) (x : X) → slice_get xs n ≡ Some x → p x ≡ true → list_any p xs ≡ true
any_from p [] n x h t = cc
any_from p (y ∷ ys) zero x h t = let e : y ≡ x = cc in rw (e, t) refl
any_from p (y ∷ ys) (suc n) x h t = rw (any_from p ys n x h t) (elim (p y) as (λ b. (b || true) ≡ true) [ true ↦ refl | false ↦ refl ])

none_from : {X : Type 0} (p : X → Bool) (xs : List X) → ((n : ℕ) (x : X) → slice_get xs n ≡ Some x → p x ≡ false) → list_any p xs ≡ false
none_from p [] f = refl
none_from p (y ∷ ys) f = rw (f 0 y refl, none_from p ys (λ n x h. f (suc n) x h)) refl

module _ {K : Type 0} {cmp : K → K → Ordering} (total : IsTotalOrder cmp) (m : BTreeMap K ℕ) where
  get_same : (x y : K) → cmp x y ≡ Equal → get cmp m x ≡ get cmp m y
  get_same x y e = ap (λ (c : K → Ordering). get_by c m) (λ i z. total.congr x y z e i)

  pub distinct_numbered : (ks : List K) → IsNumbered cmp m ks → AreDistinct cmp ks
  distinct_numbered ks h i j x y a b e = let s : Some i ≡ Some j = sym (h.found i x a) ∙ (get_same x y e ∙ h.found j y b) in cc

  pub added_there : (ks : List K) (k : K) (n : ℕ) → IsNumbered cmp m ks → get cmp m k ≡ Some n → added cmp ks k ≡ ks
  added_there ks k n h found =
      let at = h.sound k n found in
      rw (any_from (λ q. is_eq (cmp k q)) ks n at.0 at.1 ((Equal-is (cmp k at.0)).1 at.2)) refl

  pub added_new : (ks : List K) (k : K) → IsNumbered cmp m ks → get cmp m k ≡ None → added cmp ks k ≡ ks ++ k ∷ []
  added_new ks k h absent =
      rw (none_from (λ q. is_eq (cmp k q)) ks (λ n x at. elim (cases_Bool (is_eq (cmp k x))) [
        | inl t ↦ (let s : None ≡ Some n = sym absent ∙ (get_same k x ((Equal-is (cmp k x)).0 t) ∙ h.found n x at) in cc)
        | inr f ↦ f
      ])) refl

  module _ (next : BTreeMap K ℕ) (ks : List K) (k : K) (old : IsNumbered cmp m ks) (absent : get cmp m k ≡ None) (updates : Updates cmp m next k (Some (length ks))) where
    kept : (x : K) → is_eq (cmp k x) ≡ false → get cmp next x ≡ get cmp m x
    kept x f = updates.0 x ∙ rw f refl

    changed : (x : K) → is_eq (cmp k x) ≡ true → get cmp next x ≡ Some (length ks)
    changed x t = updates.0 x ∙ rw t refl

    numbered_pushed : IsNumbered cmp next (ks ++ k ∷ [])
    numbered_pushed = record {
      found = λ n x at. elim (pushed_cases ks k n x at) [
        | inl was ↦ elim (cases_Bool (is_eq (cmp k x))) [
          | inl t ↦ (let s : None ≡ Some n = sym absent ∙ (get_same k x ((Equal-is (cmp k x)).0 t) ∙ old.found n x was) in cc)
          | inr f ↦ kept x f ∙ old.found n x was
        ]
        | inr last ↦ changed x ((Equal-is (cmp k x)).1 (rw last.1 (tied_itself total k))) ∙ ap (λ i. Some i) (sym last.0)
      ];
      sound = λ x n at. elim (cases_Bool (is_eq (cmp k x))) [
        | inl t ↦ (let s : Some (length ks) ≡ Some n = sym (changed x t) ∙ at in
            let i : length ks ≡ n = cc in
            (k, subst (λ j. slice_get (ks ++ k ∷ []) j ≡ Some k) i (pushed_last ks k), tied_back total k x ((Equal-is (cmp k x)).0 t)))
        | inr f ↦ (let o = old.sound x n (sym (kept x f) ∙ at) in (o.0, pushed_keeps ks k n o.0 o.1, o.2))
      ];
    }

-- ---- a new key among the entries of a map, with a number n that no entry has
same_number : (n : ℕ) → (n == n) ≡ true
same_number n = grind (arith, nat_tests)

other_number : (m n : ℕ) → m < n → (m == n) ≡ false
other_number m n l = grind (arith, nat_tests)

other_number_back : (m n : ℕ) → m < n → (n == m) ≡ false
other_number_back m n l = grind (arith, nat_tests)

module _ {K : Type 0} (cmp : K → K → Ordering) (k : K) (n : ℕ) where
  abbrev IsAbsent : List (K × ℕ) → Type 0
  IsAbsent es = lookup (is_at (cmp k)) es ≡ None

  length_put : (es : List (K × ℕ)) → IsAbsent es → length (insert_entry cmp es k n) ≡ suc (length es)
  length_put [] absent = refl
  length_put (e ∷ es) absent = by (cmp k e.0) absent (length_put es)
    where
      by : (o : Ordering) → cond (is_eq o) (Some e.1) (lookup (is_at (cmp k)) es) ≡ None → (IsAbsent es → length (insert_entry cmp es k n) ≡ suc (length es))
          → length (match_ordering o ((k, n) ∷ e ∷ es) ((e.0, n) ∷ es) (e ∷ insert_entry cmp es k n)) ≡ suc (suc (length es))
      by Less a rest = refl
      by Equal a rest = absurd cc
      by Greater a rest = ap (λ l. suc l) (rest a)

  key_kept : (j : ℕ) → j < n → (es : List (K × ℕ)) → IsAbsent es → key_with j (insert_entry cmp es k n) ≡ key_with j es
  key_kept j l [] absent = rw (other_number_back j n l) refl
  key_kept j l (e ∷ es) absent = by (cmp k e.0) absent (key_kept j l es)
    where
      by : (o : Ordering) → cond (is_eq o) (Some e.1) (lookup (is_at (cmp k)) es) ≡ None → (IsAbsent es → key_with j (insert_entry cmp es k n) ≡ key_with j es)
          → key_with j (match_ordering o ((k, n) ∷ e ∷ es) ((e.0, n) ∷ es) (e ∷ insert_entry cmp es k n)) ≡ key_with j (e ∷ es)
      by Less a rest = rw (other_number_back j n l) refl
      by Equal a rest = absurd cc
      by Greater a rest = rw (rest a) refl

  key_new : (es : List (K × ℕ)) → IsAbsent es → All (λ v. v < n) (values_of es) → key_with n (insert_entry cmp es k n) ≡ k ∷ []
  key_new [] absent below = rw (same_number n) refl
  key_new (e ∷ es) absent below = by (cmp k e.0) absent (other_number e.1 n (below 0 0 (omega arith))) (λ a. key_new es a (λ i d l. below (suc i) d (omega arith)))
    where
      by : (o : Ordering) → cond (is_eq o) (Some e.1) (lookup (is_at (cmp k)) es) ≡ None → (e.1 == n) ≡ false → (IsAbsent es → key_with n (insert_entry cmp es k n) ≡ k ∷ [])
          → key_with n (match_ordering o ((k, n) ∷ e ∷ es) ((e.0, n) ∷ es) (e ∷ insert_entry cmp es k n)) ≡ k ∷ []
      by Less a other rest = rw (same_number n) refl
      by Equal a other rest = absurd cc
      by Greater a other rest = rw (other, rest a) refl

  by_number_kept : (es : List (K × ℕ)) → IsAbsent es → (c : ℕ) → c ≤ n → by_number (insert_entry cmp es k n) c ≡ by_number es c
  by_number_kept es absent zero l = refl
  by_number_kept es absent (suc c) l = rw (by_number_kept es absent c (omega arith), key_kept c (omega arith) es absent) refl

in_order_put : {K : Type 0} (cmp : K → K → Ordering) (k : K) (es : List (K × ℕ)) → lookup (is_at (cmp k)) es ≡ None → All (λ v. v < length es) (values_of es)
    → in_order (insert_entry cmp es k (length es)) ≡ in_order es ++ k ∷ []
in_order_put cmp k es absent below =
    rw (length_put cmp k (length es) es absent, by_number_kept cmp k (length es) es absent (length es) (omega arith), key_new cmp k (length es) es absent below) refl

-- ---- what waits
zip_pushed : {A B : Type 0} (R : A → B → Type 0) (xs : List A) (ys : List B) (x : A) (y : B) → AllZip R xs ys → R x y → AllZip R (xs ++ x ∷ []) (ys ++ y ∷ [])
zip_pushed R [] [] x y z r = (r, tt)
zip_pushed R [] (w ∷ ys) x y z r = absurd z
zip_pushed R (v ∷ xs) [] x y z r = absurd z
zip_pushed R (v ∷ xs) (w ∷ ys) x y z r = (z.0, zip_pushed R xs ys x y z.1 r)

pub at_place : {A B : Type 0} (R : A → B → Type 0) (xs : List A) (p : ℕ) (y : B) (ys : List B) → AllZip R (drop p xs) (y ∷ ys)
    → (x : A) × (slice_get xs p ≡ Some x) × R x y × AllZip R (drop (suc p) xs) ys
at_place R [] zero y ys z = absurd z
at_place R [] (suc p) y ys z = absurd z
at_place R (x ∷ xs) zero y ys z = (x, refl, z.0, z.1)
at_place R (x ∷ xs) (suc p) y ys z = at_place R xs p y ys z

-- ---- a set with one more kernel
module _ {K : Type 0} {cmp : K → K → Ordering} (total : IsTotalOrder cmp) {is_clone : K → K → Type 0} {m : BTreeMap K ℕ} {waiting : List K} {place : ℕ} (old : IsKernelSet cmp is_clone m waiting place)
    (next : BTreeMap K ℕ) (k : K) (n : ℕ) (number : n ≡ btree_map_len m) (absent : get cmp m k ≡ None) (put : next.entries ≡ insert_entry cmp m.entries k n) where
  order_pushed : in_order next.entries ≡ in_order m.entries ++ k ∷ []
  order_pushed = rw (put, number) (in_order_put cmp k m.entries absent old.below)

  length_pushed : btree_map_len next ≡ suc (btree_map_len m)
  length_pushed = rw put (length_put cmp k n m.entries absent)

  next_number : length (in_order m.entries) ≡ n
  next_number = old.counted ∙ sym number

  pub list_pushed : in_order next.entries ≡ added cmp (in_order m.entries) k
  list_pushed = order_pushed ∙ sym (added_new total m (in_order m.entries) k old.numbered absent)

  pub number_pushed : IsNumberOf cmp (in_order next.entries) k n
  number_pushed = rw order_pushed (k, subst (λ i. slice_get (in_order m.entries ++ k ∷ []) i ≡ Some k) next_number (pushed_last (in_order m.entries) k), tied_itself total k)

  module _ (updates : Updates cmp m next k (Some n)) where
    numbers_pushed : IsNumbered cmp next (in_order next.entries)
    numbers_pushed = rw order_pushed (numbered_pushed total m next (in_order m.entries) k old.numbered absent (rw next_number updates))

    pub distinct_pushed : AreDistinct cmp (in_order next.entries)
    distinct_pushed = distinct_numbered total next (in_order next.entries) numbers_pushed

    pub set_pushed : (copy : K) → is_clone k copy → n < 2 ^ 63 → IsKernelSet cmp is_clone next (waiting ++ copy ∷ []) place
    set_pushed copy clone room = record {
      numbered = numbers_pushed;
      counted = rw (order_pushed, length-append) (omega (arith, length_pushed, old.counted));
      below = rw (length_pushed, put) (All-values-insert_entry cmp k n (λ v. v < suc (btree_map_len m)) m.entries (λ i d l. let h = old.below i d l in omega arith) (omega (arith, number)));
      small = omega (arith, length_pushed, number, room);
      within = omega (arith, length_pushed, old.within);
      waits = rw (order_pushed, drop-append-le place (in_order m.entries) (k ∷ []) (omega (arith, old.within, old.counted))) (zip_pushed is_clone (drop place (in_order m.entries)) waiting k copy old.waits clone);
    }
