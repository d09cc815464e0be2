use Rattle.std.proofs.Common.{rules, arith, ◌≡◌, ◌++◌, ◌∷◌, [], ◌+◌, List, ℕ, length, slice_get, Some, sym, subst}
use Rattle.std.proofs.lemmas.Grind.{common_steps}
use Rattle.std.proofs.lemmas.Option.{slice_get_read}
use Rattle.lalrpop_hir.specs.Range.{Range}
use Rattle.lalrpop_build.specs.declared.alphabet.Group.{Group}
use Rattle.lalrpop_build.specs.declared.alphabet.groups.Labels.{Labels}
use Rattle.lalrpop_build.specs.Internal.Signatures.{HaveNoClasses, Gained, CoversAny, EndsAt}
use Rattle.std.specs.List.{Contains}
use Rattle.std.specs.Prelude.{◌↔◌}
use Rattle.lalrpop_build.proofs.Marking.{HaveEndsBelow, list_gained, group_ends, still_no_classes, none_signed, all_signed, all_ends, no_classes_yet, no_ends}
use Rattle.lalrpop_build.proofs.alphabet.signatures.mark_lists.Goals as goal

pub loop-number-init : goal.loop-number-init
loop-number-init c =
    let none : c.in_ok-groups.groups.items ≡ [] = search rules in
    record {
      same_length = search rules;
      signed = none_signed c.args.boundaries.now c.args.lists.now c.in_ok-signatures.signatures.items (search rules) c.in_ok-signatures.ensures.none;
      ends = subst (HaveEndsBelow 0 c.args.lists.now c.args.boundaries.now) (sym none) (no_ends c.args.boundaries.now c.args.lists.now);
      no_classes = subst HaveNoClasses (sym none) no_classes_yet;
    }

pub mark_list-requires-clause-ends_in : goal.mark_list-requires-clause-ends_in
mark_list-requires-clause-ends_in c =
    let ls : Labels = c.index-lists-number.result in
    let at : slice_get c.args.lists.now c.loop-number.number ≡ Some ls = slice_get_read c.args.lists.now (length c.args.lists.now) c.loop-number.number ls (search rules) (search rules) c.index-lists-number.is in
    let is : c.deref.result.now ≡ ls.list.items = c.deref.ensures.value in
    λ r has v end. c.requires.all c.loop-number.number v r (ls, (at, subst (λ (rs : List Range). Contains rs r) is has)) end

pub loop-number-preserved : goal.loop-number-preserved
loop-number-preserved c =
    let ls : Labels = c.index-lists-number.result in
    let at : slice_get c.args.lists.now c.loop-number.number ≡ Some ls = slice_get_read c.args.lists.now (length c.args.lists.now) c.loop-number.number ls (search rules) (search rules) c.index-lists-number.is in
    let is : c.deref.result.now ≡ ls.list.items = c.deref.ensures.value in
    let group : Group = record { boundaries = c.in_ok-ends.ends; classes = c.new.result } in
    let pushed : c.push.new.self.items ≡ c.loop-number.groups.items ++ group ∷ [] = c.in_ok-push.ensures.items in
    let gained = subst (λ (rs : List Range). Gained c.args.boundaries.now c.loop-number.signatures.items c.mark_list.new.signatures.items (λ v n. (n ≡ c.loop-number.number) × CoversAny rs v)) is c.in_ok-ends.ensures.gained in
    let ends = subst (λ (rs : List Range). (k : ℕ) → Contains c.in_ok-ends.ends.items k ↔ EndsAt c.args.boundaries.now rs k) is c.in_ok-ends.ensures.ends in
    record {
      same_length = grind (arith, common_steps);
      signed = list_gained c.args.boundaries.now c.args.lists.now c.loop-number.number ls c.loop-number.signatures.items c.mark_list.new.signatures.items at c.loop-number.invariant.signed gained;
      ends = subst (HaveEndsBelow (c.loop-number.number + 1) c.args.lists.now c.args.boundaries.now) (sym pushed) (group_ends c.args.boundaries.now c.args.lists.now c.loop-number.number ls c.loop-number.groups.items group at c.loop-number.invariant.same_length c.loop-number.invariant.ends ends);
      no_classes = subst HaveNoClasses (sym pushed) (still_no_classes c.loop-number.groups.items group c.loop-number.invariant.no_classes c.new.ensures.items);
    }

pub returns-clause-signed : goal.returns-clause-signed
returns-clause-signed c = all_signed c.args.boundaries.now c.args.lists.now c.loop-number.signatures.items c.loop-number.number c.loop-number-test.false c.loop-number.invariant.signed

pub returns-clause-ends : goal.returns-clause-ends
returns-clause-ends c = all_ends c.args.boundaries.now c.args.lists.now c.loop-number.groups.items c.loop-number.number c.loop-number-test.false c.loop-number.invariant.ends
