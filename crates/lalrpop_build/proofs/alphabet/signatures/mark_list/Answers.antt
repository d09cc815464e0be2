use Rattle.std.proofs.Common.{rules, ◌≡◌, List, ℕ, ◌<◌, length, subst}
use Rattle.std.specs.Prelude.{◌↔◌}
use Rattle.std.specs.List.{Contains}
use Rattle.std.proofs.lemmas.List.{take_all}
use Rattle.std.proofs.lemmas.Option.{slice_get_read}
use Rattle.lalrpop_hir.specs.Range.{Range}
use Rattle.lalrpop_build.specs.Internal.Signatures.{Gained, CoversAny, EndsAt}
use Rattle.lalrpop_build.proofs.Marking.{label_gained, label_ends, at_contains, none_gained, none_end}
use Rattle.lalrpop_build.proofs.alphabet.signatures.mark_list.Goals as goal

pub loop-label-init : goal.loop-label-init
loop-label-init c = record {
  gained = none_gained c.args.boundaries.now c.args.labels.now c.args.number c.args.signatures.now.items;
  ends = none_end c.args.boundaries.now c.args.labels.now c.new-ends.result.items c.new-ends.ensures.items;
}

pub mark_label-requires-clause-ends_in : goal.mark_label-requires-clause-ends_in
mark_label-requires-clause-ends_in c =
    c.requires.ends_in c.label-item.result (at_contains c.args.labels.now c.loop-label.label-index c.label-item.result (slice_get_read c.args.labels.now (length c.args.labels.now) c.loop-label.label-index c.label-item.result (search rules) (search rules) c.label-item.is))

pub loop-label-preserved : goal.loop-label-preserved
loop-label-preserved c =
    let l : c.loop-label.label-index < length c.args.labels.now = search rules in
    record {
      gained = label_gained c.args.boundaries.now c.args.labels.now c.loop-label.label-index c.args.number c.label-item.result c.args.signatures.now.items c.loop-label.signatures.items c.mark_label.new.signatures.items
          c.loop-label.invariant.gained c.in_ok-mark_label.ensures.gained l c.label-item.is;
      ends = label_ends c.args.boundaries.now c.args.labels.now c.loop-label.label-index c.label-item.result c.loop-label.ends.items c.mark_label.new.ends.items c.loop-label.invariant.ends c.in_ok-mark_label.ensures.ends l c.label-item.is;
    }

pub returns-clause-gained : goal.returns-clause-gained
returns-clause-gained c =
    subst (λ (rs : List Range). Gained c.args.boundaries.now c.args.signatures.now.items c.loop-label.signatures.items (λ v n. (n ≡ c.args.number) × CoversAny rs v)) (take_all c.loop-label.label-index c.args.labels.now c.loop-label-test.false) c.loop-label.invariant.gained

pub returns-clause-ends : goal.returns-clause-ends
returns-clause-ends c =
    subst (λ (rs : List Range). (k : ℕ) → Contains c.loop-label.ends.items k ↔ EndsAt c.args.boundaries.now rs k) (take_all c.loop-label.label-index c.args.labels.now c.loop-label-test.false) c.loop-label.invariant.ends
