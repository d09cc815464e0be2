use Rattle.std.proofs.Common.{◌≡◌, true, false, length, sym, ap, ◌∙◌, subst, arith}
use Rattle.std.specs.Prelude.{Some, slice_get}
use Rattle.std.proofs.lemmas.Bool.{false≢true}
use Rattle.std.proofs.lemmas.Option.{same_Some, slice_get-get_or}
use Rattle.lalrpop_review.specs.Review.{AreThose}
use Rattle.lalrpop_review.proofs.Those.{next_found, next_left}
use Rattle.lalrpop_review.proofs.look.marked.Goals as goal
use Rattle.lalrpop_review.proofs.look.marked.Goals.{then-flags-index+in_ok-push, else-flags-index}

pub loop-index-preserved : goal.loop-index-preserved
loop-index-preserved c =
    let at = slice_get-get_or c.args.flags.now c.loop-index.index false c.loop-index-test.true in
    elim c.if-flags-index.branch [
      | then-flags-index+in_ok-push w ↦
          next_found c.loop-index.index (λ i. slice_get c.args.flags.now i ≡ Some true) c.loop-index.found.items _ w.new.result c.loop-index.invariant
          (at ∙ ap (λ b. Some b) w.if-flags-index.true) w.new.ensures.value (ap (λ v. v.items) w.found-is ∙ w.in_ok-push.ensures.items)
      | else-flags-index w ↦
          next_left c.loop-index.index (λ i. slice_get c.args.flags.now i ≡ Some true) c.loop-index.found.items _ c.loop-index.invariant
          (λ there. false≢true (sym w.if-flags-index.false ∙ same_Some _ _ (sym at ∙ there))) (ap (λ v. v.items) w.found-is)
    ]

pub returns : goal.returns
returns c =
    let all : c.loop-index.index ≡ length c.args.flags.now = omega (arith, c.loop-index-test.false, c.loop-index.auto.index-end) in
    record { marked = subst (λ n. AreThose n (λ i. slice_get c.args.flags.now i ≡ Some true) c.loop-index.found.items) all c.loop-index.invariant }
