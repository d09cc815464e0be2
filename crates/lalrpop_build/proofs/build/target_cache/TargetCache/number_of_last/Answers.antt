use Rattle.std.proofs.Common.{rules, ◌≡◌, ◌∙◌, List, length, refl, ap, subst, Some}
use Rattle.std.specs.Prelude.{slice_get, Option, ℕ}
use Rattle.std.specs.declared.cmp.Ordering.TheVariants.{Equal}
use Rattle.std.proofs.lemmas.Option.{slice_get_read}
use Rattle.lalrpop_build.specs.Internal.ClassTransitions.{transitions_cmp}
use Rattle.lalrpop_build.specs.declared.build.scratch.Transitions.{Transitions}
use Rattle.lalrpop_build.proofs.Adding.{transitions_exact}
use Rattle.lalrpop_build.proofs.build.target_cache.TargetCache.number_of_last.Goals as goal

pub returns-then-is_eq : goal.returns-then-is_eq
returns-then-is_eq c =
    let lists = c.args.edges.now.lists.items in
    let cache = c.args.self.now.by_class.items in
    let last = c.args.self.now.last_class in
    let number_at = c.in_ok-get.ensures.lookup in
    let list_at = c.in_ok-last.ensures.lookup in
    let is : c.in_ok-get.field-0.now ≡ Some c.in_ok-number.number = search rules in
    let number : slice_get cache last ≡ Some (Some c.in_ok-number.number) =
    subst (λ (xs : List (Option ℕ)). slice_get xs last ≡ Some (Some c.in_ok-number.number)) c.deref.ensures.value
    (slice_get_read c.deref.result.now (length c.deref.result.now) last c.in_ok-get.field-0.now refl number_at.3.0 number_at.1 ∙ ap (λ (o : Option ℕ). Some o) is) in
    let there : slice_get lists last ≡ Some c.in_ok-last.last.now =
    subst (λ (xs : List Transitions). slice_get xs last ≡ Some c.in_ok-last.last.now) c.deref-2.ensures.value
    (slice_get_read c.deref-2.result.now (length c.deref-2.result.now) last c.in_ok-last.last.now refl list_at.3.0 list_at.1) in
    let here : slice_get lists c.args.class ≡ Some c.index.result.now = slice_get_read lists (length lists) c.args.class c.index.result.now refl c.requires c.index.ensures in
    let equal : transitions_cmp c.in_ok-last.last.now c.index.result.now ≡ Equal = search rules in
    (last, c.in_ok-last.last.now, c.index.result.now, (number, there, here, transitions_exact c.in_ok-last.last.now c.index.result.now equal))
