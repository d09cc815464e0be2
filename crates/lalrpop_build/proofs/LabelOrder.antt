-- The order of labels.
use Rattle.std.proofs.Common.{◌≡◌, refl, ap₂, sym, ◌∙◌}
use Rattle.std.specs.Ordering.{nat_cmp}
use Rattle.std.specs.Cmp.{IsTotalOrder}
use Rattle.std.proofs.lemmas.Cmp.{nat_cmp_total, on_total, then_total}
use Rattle.std.proofs.lemmas.Map.Lookups.{CmpEqualImpliesEq}
use Rattle.lalrpop_hir.specs.Range.{Range}
use Rattle.lalrpop_build.specs.Internal.EdgeGroups.{range_cmp}
use Rattle.lalrpop_hir.proofs.Orders.{then_equal, nat_exact}

-- a label with the fields of another one equals it
pub range_same : (a b r s : Range) → a ≡ r → b ≡ s → b.start ≡ a.start → b.end ≡ a.end → s ≡ r
range_same a b r s p q start end = sym q ∙ ap₂ (λ x y. let t : Range = record { start = x; end = y } in t) start end ∙ p

pub range_exact : CmpEqualImpliesEq range_cmp
range_exact x y e =
    let h = then_equal (nat_cmp x.start y.start) (nat_cmp x.end y.end) e in
    range_same y x y x refl refl (nat_exact x.start y.start h.0) (nat_exact x.end y.end h.1)

pub range_total : IsTotalOrder range_cmp
range_total = then_total (on_total (λ (x : Range). x.start) nat_cmp_total) (on_total (λ (x : Range). x.end) nat_cmp_total)
