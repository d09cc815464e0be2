-- The orders of items and of sets of items are total, and equality agrees with them.
use Rattle.std.specs.Prelude.{◌≡◌, ℕ, ◌&&◌, ◌==◌, List, refl}
use Rattle.std.specs.Cmp.{IsTotalOrder, IsEquivalence}
use Rattle.std.specs.Cmp.Lexicographic.{lists_total}
use Rattle.std.specs.Ordering.{nat_cmp, ordering_then, is_eq}
use Rattle.std.specs.declared.cmp.Ordering.{Ordering}
use Rattle.std.specs.declared.cmp.Ordering.TheVariants.{Less, Equal, Greater}
use Rattle.std.proofs.Common.{arith}
use Rattle.std.proofs.lemmas.Bool.Decides.{nat_tests}
use Rattle.std.proofs.lemmas.Cmp.{then_total, on_total, back_total, eq_by_cmp_equiv, and_equiv, on_equiv, nat_cmp_total, nat_eq_equiv}
use Rattle.lalrpop_dfa.specs.Ascending.{Item, item_cmp}
use Rattle.lalrpop_dfa.specs.LiveItems.{live_of, rejects_of}
use Rattle.lalrpop_dfa.specs.ItemOrder.{item_eq, rejects_cmp, hash_of, items_cmp, set_cmp, set_eq}

pub item_total : IsTotalOrder item_cmp
item_total = then_total (on_total (λ (x : Item). x.0) nat_cmp_total) (on_total (λ (x : Item). x.1) nat_cmp_total)

pub item_equiv : IsEquivalence item_eq
item_equiv = and_equiv (on_equiv (λ (x : Item). x.0) nat_eq_equiv) (on_equiv (λ (x : Item). x.1) nat_eq_equiv)

then_ties : (a b : Ordering) → is_eq (ordering_then a b) ≡ (is_eq a && is_eq b)
then_ties Less b = refl
then_ties Equal b = refl
then_ties Greater b = refl

nat_ties : (x y : ℕ) → (x == y) ≡ is_eq (nat_cmp x y)
nat_ties x y = grind (arith, nat_tests)

pub item_ties : (x y : Item) → item_eq x y ≡ is_eq (item_cmp x y)
item_ties x y = rw (then_ties, ← nat_ties x.0 y.0, ← nat_ties x.1 y.1) refl

pub rejects_total : IsTotalOrder rejects_cmp
rejects_total = on_total rejects_of (lists_total (back_total nat_cmp_total))

pub items_total : IsTotalOrder items_cmp
items_total = then_total (then_total (on_total live_of (lists_total item_total)) rejects_total) (lists_total item_total)

pub set_total : IsTotalOrder set_cmp
set_total = then_total (on_total (λ s. hash_of (live_of s)) nat_cmp_total) items_total

pub set_equiv : IsEquivalence set_eq
set_equiv = eq_by_cmp_equiv set_total

pub set_ties : (s t : List Item) → set_eq s t ≡ is_eq (set_cmp s t)
set_ties s t = refl
