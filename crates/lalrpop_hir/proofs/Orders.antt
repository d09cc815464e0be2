-- Values that an order calls equal are equal; and the members of a set after an insertion.
use Rattle.std.proofs.Common.{◌≡◌, ℕ, ◌⊎◌, inl, inr, List, [], ◌∷◌, refl, sym, ◌∙◌, subst, arith, true}
use Rattle.std.specs.List.{Contains}
use Rattle.std.specs.Ordering.{is_eq, nat_cmp, ordering_then}
use Rattle.std.specs.Cmp.{IsTotalOrder, Equal-is}
use Rattle.std.specs.Cmp.Lexicographic.{slice_cmp}
use Rattle.std.specs.BTreeSet.{BTreeSet, contains, Updates}
use Rattle.std.specs.declared.cmp.Ordering.{Ordering}
use Rattle.std.specs.declared.cmp.Ordering.TheVariants.{Equal, Less, Greater}
use Rattle.std.proofs.lemmas.Bool.{cases_Bool}
use Rattle.std.proofs.lemmas.Bool.Decides.{nat_tests}
use Rattle.std.proofs.lemmas.Cmp.{tied_itself}
use Rattle.std.proofs.lemmas.Map.Views.{btree_set_contains_iff}
use Rattle.std.proofs.lemmas.Map.Lookups.{CmpEqualImpliesEq}

-- ---- values that an order calls equal are equal
pub then_equal : (a b : Ordering) → ordering_then a b ≡ Equal → (a ≡ Equal) × (b ≡ Equal)
then_equal Less b e = absurd cc
then_equal Equal b e = (refl, e)
then_equal Greater b e = absurd cc

pub nat_exact : (x y : ℕ) → nat_cmp x y ≡ Equal → x ≡ y
nat_exact x y e = grind (arith, nat_tests)

pub lists_exact : {K : Type 0} {R : K → K → Ordering} → CmpEqualImpliesEq R → (xs ys : List K) → slice_cmp R xs ys ≡ Equal → xs ≡ ys
lists_exact exact [] [] e = refl
lists_exact exact [] (y ∷ ys) e = cc
lists_exact exact (x ∷ xs) [] e = cc
lists_exact exact (x ∷ xs) (y ∷ ys) e = let h = then_equal _ _ e in let a : x ≡ y = exact x y h.0 in let b : xs ≡ ys = lists_exact exact xs ys h.1 in cc

-- ---- the members of a set after an insertion
module _ {K : Type 0} {R : K → K → Ordering} (total : IsTotalOrder R) (exact : CmpEqualImpliesEq R) (s n : BTreeSet K) (k : K) (u : Updates R s n k true) where
  pub set_come : (x : K) → Contains n.keys x → Contains s.keys x ⊎ (k ≡ x)
  set_come x h =
      let now : contains R n x ≡ true = (btree_set_contains_iff total exact n x).1 h in
      elim (cases_Bool (is_eq (R k x))) [
        | inl t ↦ inr (exact k x ((Equal-is (R k x)).0 t))
        | inr f ↦ (let e = u.0 x in let was : contains R s x ≡ true = sym (rw f at e) ∙ now in inl ((btree_set_contains_iff total exact s x).0 was))
      ]

  pub set_has : (x : K) → k ≡ x → Contains n.keys x
  set_has x same =
      let t : is_eq (R k x) ≡ true = (Equal-is (R k x)).1 (subst (λ y. R k y ≡ Equal) same (tied_itself total k)) in
      (btree_set_contains_iff total exact n x).0 (u.0 x ∙ rw t refl)

  pub set_kept : (x : K) → Contains s.keys x → Contains n.keys x
  set_kept x h =
      let was : contains R s x ≡ true = (btree_set_contains_iff total exact s x).1 h in
      elim (cases_Bool (is_eq (R k x))) [
        | inl t ↦ (btree_set_contains_iff total exact n x).0 (u.0 x ∙ rw t refl)
        | inr f ↦ (btree_set_contains_iff total exact n x).0 (u.0 x ∙ rw f was)
      ]
