-- The states of the pairs that have been met.
use Rattle.std.proofs.Common.{◌≡◌, ℕ, inl, inr, List, [], ◌∷◌, ◌++◌, Some, length, refl, sym, ap, ◌∙◌, Bool, true, false, cond, not, ◌&&◌, nat_eq, eqb-true, eq-eqb}
use Rattle.std.specs.List.{list_any}
use Rattle.std.proofs.lemmas.Bool.{and_parts, and_from}
use Rattle.lalrpop_hir.proofs.Pushed.{pushed_cases, pushed_keeps, pushed_last}
use Rattle.lalrpop_verdicts.specs.declared.pairs.Pair.{Pair}
use Rattle.lalrpop_verdicts.specs.Internal.Pairs.{HasStates, AreKnown, AreMet, IsAdded}

abbrev pub has_key : List (ℕ × ℕ) → ℕ → ℕ → Bool
has_key keys p q = list_any (λ k. nat_eq p k.0 && nat_eq q k.1) keys

pub not_false : (b : Bool) → false ≡ not b → b ≡ true
not_false true e = refl
not_false false e = absurd (let f : false ≡ true = e in cc)

pub not_true : (b : Bool) → true ≡ not b → b ≡ false
not_true true e = absurd (let f : true ≡ false = e in cc)
not_true false e = refl

module _ (keys : List (ℕ × ℕ)) (pairs : List Pair) (x : Pair) (i j : ℕ) (h : AreKnown keys pairs) (left : i ≡ x.left) (right : j ≡ x.right) where
  pub added_old : (b : Bool) → b ≡ not (has_key keys i j) → b ≡ false → IsAdded pairs x pairs
  added_old b e f = inl (rw (← left, ← right) ((h i j).0 (not_false (has_key keys i j) (sym f ∙ e))), refl)

  pub added_new : (b : Bool) (pairs2 : List Pair) → b ≡ not (has_key keys i j) → b ≡ true → pairs2 ≡ pairs ++ x ∷ [] → IsAdded pairs x pairs2
  added_new b pairs2 e f same =
      inr (
        (λ there.
            let k : HasStates pairs i j = rw (left, right) there in
            let y : has_key keys i j ≡ true = (h i j).1 k in
            let n : has_key keys i j ≡ false = not_true (has_key keys i j) (sym f ∙ e) in
            let z : true ≡ false = sym y ∙ n in cc),
        same,
      )

  pushed_has : (p q : ℕ) → HasStates pairs p q → HasStates (pairs ++ x ∷ []) p q
  pushed_has p q (k, y, is) = (k, y, (pushed_keeps pairs x k y is.0, is.1, is.2))

  pushed_old : (p q : ℕ) → (nat_eq i p && nat_eq j q) ≡ false → HasStates (pairs ++ x ∷ []) p q → HasStates pairs p q
  pushed_old p q other (k, y, is) = elim (pushed_cases pairs x k y is.0) [
    | inl old ↦ (k, y, (old, is.1, is.2))
    | inr new ↦ absurd (
        let a : i ≡ p = left ∙ ap (λ (z : Pair). z.left) (sym new.1) ∙ is.1 in
        let b : j ≡ q = right ∙ ap (λ (z : Pair). z.right) (sym new.1) ∙ is.2 in
        let t : (nat_eq i p && nat_eq j q) ≡ true = and_from (nat_eq i p) (nat_eq j q) (eq-eqb i p a) (eq-eqb j q b) in
        let z : true ≡ false = sym t ∙ other in cc)
  ]

  known_by : (p q : ℕ) (b : Bool) (keys2 : List (ℕ × ℕ)) → (nat_eq i p && nat_eq j q) ≡ b → has_key keys2 p q ≡ cond b true (has_key keys p q)
      → (has_key keys2 p q ≡ true → HasStates (pairs ++ x ∷ []) p q) × (HasStates (pairs ++ x ∷ []) p q → has_key keys2 p q ≡ true)
  known_by p q true keys2 is e =
      let t = and_parts (nat_eq i p) (nat_eq j q) is in
      let a : x.left ≡ p = sym left ∙ eqb-true i p t.0 in
      let b : x.right ≡ q = sym right ∙ eqb-true j q t.1 in
      ((λ k. (length pairs, x, (pushed_last pairs x, a, b))), (λ k. e))
  known_by p q false keys2 is e = ((λ k. pushed_has p q ((h p q).0 (sym e ∙ k))), (λ k. e ∙ (h p q).1 (pushed_old p q is k)))

  pub known_push : (keys2 : List (ℕ × ℕ)) (pairs2 : List Pair) → ((a : ℕ × ℕ) → has_key keys2 a.0 a.1 ≡ cond (nat_eq i a.0 && nat_eq j a.1) true (has_key keys a.0 a.1)) → pairs2 ≡ pairs ++ x ∷ [] → AreKnown keys2 pairs2
  known_push keys2 pairs2 u same = rw same (λ p q. known_by p q (nat_eq i p && nat_eq j q) keys2 refl (u (p, q)))

  has_added : (pairs2 : List Pair) → IsAdded pairs x pairs2 → HasStates pairs2 i j
  has_added pairs2 (inl old) = rw (left, right, old.1) old.0
  has_added pairs2 (inr new) = rw (left, right, new.1) (length pairs, x, (pushed_last pairs x, refl, refl))

  -- what is kept once the pair was looked for
  pub met_now : (keys2 : List (ℕ × ℕ)) (pairs2 : List Pair) → AreKnown keys2 pairs2 → IsAdded pairs x pairs2 → AreMet keys2 (Some (i, j)) pairs2
  met_now keys2 pairs2 k a = record { known = k; one_of_them = has_added pairs2 a }
