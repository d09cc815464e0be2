-- Items that tie are equal.
use Rattle.std.proofs.Common.{◌≡◌, ℕ, refl}
use Rattle.std.proofs.lemmas.Map.Lookups.{CmpEqualImpliesEq}
use Rattle.std.specs.Ordering.{nat_cmp}
use Rattle.lalrpop_hir.proofs.Orders.{then_equal, nat_exact}
use Rattle.lalrpop_dfa.specs.Ascending.{Item, item_cmp}

pair_same : (a b p q : ℕ) → a ≡ b → p ≡ q → let x : Item = (a, p) in let y : Item = (b, q) in x ≡ y
pair_same a b p q e f = rw (e, f) refl

pub item_exact : CmpEqualImpliesEq item_cmp
item_exact x y e =
    let h = then_equal (nat_cmp x.0 y.0) (nat_cmp x.1 y.1) e in
    let a : x.0 ≡ y.0 = nat_exact x.0 y.0 h.0 in
    let b : x.1 ≡ y.1 = nat_exact x.1 y.1 h.1 in
    pair_same x.0 y.0 x.1 y.1 a b
