use Rattle.std.proofs.Common.{◌≡◌}
use Rattle.std.proofs.lemmas.List.Elements.{same_from_all_zip}
use Rattle.lalrpop_dfa.proofs.StepLists.{same_places}
use Rattle.lalrpop_dfa.proofs.clone.DfaClone.clone.Goals as goal

pub invariant_of-result : goal.invariant_of-result
invariant_of-result c =
    let places : c.in_ok-clone-2.field-0.items ≡ c.self.inside.places.items = same_places _ (λ n r. r) (λ n r. r) (λ m n r. r) c.self.inside.places.items c.in_ok-clone-2.field-0.items c.in_ok-clone-2.ensures.cases.0 in
    let lists : c.in_ok-clone-3.field-0.items ≡ c.self.inside.lists.items = same_from_all_zip _ c.self.inside.lists.items c.in_ok-clone-3.field-0.items c.in_ok-clone-3.ensures.cases.0 (λ x y r. same_from_all_zip _ x y r.whole (λ m n s. s)) in
    let rows : c.in_ok-clone.field-0 ≡ c.self.inside.rows = c.in_ok-clone.ensures.cases in
    rw (places, lists, rows) c.self.invariant
