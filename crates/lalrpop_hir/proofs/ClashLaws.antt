-- The clash of a list of trees is unique.
use Rattle.std.proofs.Common.{◌≡◌, ℕ, ◌≤◌, ◌⊎◌, inl, inr, List, sym, subst, arith}
use Rattle.lalrpop_hir.specs.Word.{Shortlex}
use Rattle.lalrpop_hir.specs.Tree.{Tree}
use Rattle.lalrpop_hir.proofs.Words.{Shortlex-total}
use Rattle.lalrpop_hir.specs.Winners.{IsStrongest, Ambiguous}
use Rattle.lalrpop_hir.specs.Clash.{IsClash, NoClash}

module _ (ts : List Tree) (ps : List ℕ) where
  ambiguous : (w : List ℕ) (i j : ℕ) → IsClash ts ps w i j → Ambiguous ts ps w
  ambiguous w i j c = (i, j, (c.less, c.greatest, c.second))

  pub clash_or_none : (w : List ℕ) (i j : ℕ) → IsClash ts ps w i j → ¬ NoClash ts ps
  clash_or_none w i j c n = n w (ambiguous w i j c)

  module _ (v w : List ℕ) (i j k l : ℕ) (c : IsClash ts ps v i j) (d : IsClash ts ps w k l) where
    same_word : v ≡ w
    same_word = by_order (Shortlex-total v w)
      where
        by_order : Shortlex v w ⊎ ((v ≡ w) ⊎ Shortlex w v) → v ≡ w
        by_order (inl h) = absurd (d.least v h (ambiguous v i j c))
        by_order (inr (inl e)) = e
        by_order (inr (inr h)) = absurd (c.least w h (ambiguous w k l d))

    -- two clashes of the same trees and precedences are equal
    pub clash-unique : (v ≡ w) × ((i ≡ k) × (j ≡ l))
    clash-unique =
        let to_w = subst (λ u. IsStrongest ts ps u i) same_word c.greatest in
        let to_w2 = subst (λ u. IsStrongest ts ps u j) same_word c.second in
        let to_v = subst (λ u. IsStrongest ts ps u k) (sym same_word) d.greatest in
        let to_v2 = subst (λ u. IsStrongest ts ps u l) (sym same_word) d.second in
        let first : i ≡ k = omega (arith, d.above i to_w, c.above k to_v) in
        let low : j ≤ l = d.others j to_w2 (omega (arith, c.less)) in
        let high : l ≤ j = c.others l to_v2 (omega (arith, d.less)) in
        (same_word, (first, omega arith))
