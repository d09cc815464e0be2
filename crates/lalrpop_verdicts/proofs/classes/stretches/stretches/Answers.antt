use Rattle.std.proofs.Common.{List, ℕ, length, subst, sym}
use Rattle.std.specs.List.Sorted.{IsNonDecreasing}
use Rattle.std.proofs.lemmas.List.Sorted.{IsNonDecreasingBy-from_sort}
use Rattle.std.proofs.lemmas.Result.{IfOk-weaker}
use Rattle.lalrpop_verdicts.specs.Internal.Classes.{AreColumns, HasFirsts}
use Rattle.lalrpop_verdicts.proofs.StretchLaws.{tried_firsts}
use Rattle.lalrpop_verdicts.proofs.classes.stretches.stretches.Goals as goal

pub alike-requires : goal.alike-requires
alike-requires c = record {
  ascending = subst (λ (xs : List ℕ). IsNonDecreasing xs) (sym c.deref.ensures.value) (IsNonDecreasingBy-from_sort (λ (x : ℕ). x) c.sort_unstable.new.self.items c.sort_unstable.ensures.sorted);
}

pub returns-clause-tried : goal.returns-clause-tried
returns-clause-tried c =
    let d = c.args.dfa.now in
    let sorted = c.sort_unstable.new.self.items in
    let firsts = c.in_ok-firsts.firsts.items in
    let columns : AreColumns d (length d) sorted firsts = subst (λ (xs : List ℕ). AreColumns d (length d) xs firsts) c.deref.ensures.value c.in_ok-firsts.ensures in
    IfOk-weaker c.first_values.result _ _
    (λ kept has.
    let here = subst (λ (xs : List ℕ). HasFirsts (length firsts) xs firsts kept.items) c.deref-2.ensures.value (subst (λ (xs : List ℕ). HasFirsts (length xs) c.deref-2.result.now xs kept.items) c.deref-3.ensures.value has) in
    tried_firsts d c.in_ok-values.values.items sorted firsts kept.items c.in_ok-values.ensures.tried c.sort_unstable.ensures.permutation columns here) c.first_values.ensures
