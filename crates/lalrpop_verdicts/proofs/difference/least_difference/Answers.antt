use Rattle.std.proofs.Common.{◌≡◌, List, Some, refl, ap, ◌∙◌, subst, length}
use Rattle.std.specs.Prelude.{slice_get}
use Rattle.std.proofs.lemmas.Option.{slice_get_read}
use Rattle.lalrpop_verdicts.specs.Differences.{label_of}
use Rattle.lalrpop_verdicts.specs.Internal.Apart.{AreApart}
use Rattle.lalrpop_verdicts.specs.Internal.Pairs.{NoneBefore}
use Rattle.lalrpop_verdicts.specs.declared.pairs.Pair.{Pair}
use Rattle.lalrpop_verdicts.specs.declared.pairs.Follow.TheVariants.{All}
use Rattle.lalrpop_verdicts.proofs.Differing.{none_apart, least_apart, answers_of, labels_differ, labels_agree, apart_by_labels, alike_by_labels, HasPlace}
use Rattle.lalrpop_verdicts.proofs.FirstPair.{none_more, none_to_end}
use Rattle.lalrpop_verdicts.proofs.difference.least_difference.Goals as goal

pub returns-then-ne-clause-least : goal.returns-then-ne-clause-least
returns-then-ne-clause-least c =
    let l = c.args.left.now in
    let ls = c.args.left_labels.now in
    let r = c.args.right.now in
    let rs = c.args.right_labels.now in
    let seen = c.deref-pair-items.result.now in
    let pairs = c.in_ok-pairs.pairs.items in
    let n = c.loop-number.number in
    let p = c.pair-item.result in
    let at : slice_get seen n ≡ Some p = slice_get_read seen (length seen) n p refl c.loop-number-test.true c.pair-item.is in
    let word = c.in_ok-word_to.field-0.items in
    let places = subst (λ (ps : List Pair). HasPlace ps n word) c.deref.ensures.value c.in_ok-word_to.ensures.word in
    let place = places All l r c.in_ok-pairs.ensures.pairs in
    let differ = labels_differ c.label.result c.label-in-loop-number.result c.ne.result c.ne.ensures c.if-ne.true in
    let by_left = c.label.ensures.label ∙ ap (label_of ls) c.accepted-by_left.ensures.accepted in
    let by_right = c.label-in-loop-number.ensures.label ∙ ap (label_of rs) c.accepted-by_right.ensures.accepted in
    let apart = apart_by_labels l ls r rs p c.label.result c.label-in-loop-number.result by_left by_right differ in
    least_apart l ls r rs pairs c.in_ok-pairs.ensures.pairs n p word
    (subst (λ (ps : List Pair). slice_get ps n ≡ Some p) c.deref-pair-items.ensures.value at) place apart
    (subst (λ (ps : List Pair). NoneBefore (AreApart l ls r rs) ps n) c.deref-pair-items.ensures.value c.loop-number.invariant)

pub returns-then-ne-clause-answers : goal.returns-then-ne-clause-answers
returns-then-ne-clause-answers c =
    let l = c.args.left.now in
    let r = c.args.right.now in
    let seen = c.deref-pair-items.result.now in
    let n = c.loop-number.number in
    let p = c.pair-item.result in
    let at : slice_get seen n ≡ Some p = slice_get_read seen (length seen) n p refl c.loop-number-test.true c.pair-item.is in
    let word = c.in_ok-word_to.field-0.items in
    let places = subst (λ (ps : List Pair). HasPlace ps n word) c.deref.ensures.value c.in_ok-word_to.ensures.word in
    let place = places All l r c.in_ok-pairs.ensures.pairs in
    let ls = c.args.left_labels.now in
    let rs = c.args.right_labels.now in
    let answers =
    answers_of l ls r rs c.in_ok-pairs.pairs.items c.in_ok-pairs.ensures.pairs n p word
    (subst (λ (ps : List Pair). slice_get ps n ≡ Some p) c.deref-pair-items.ensures.value at) place in
    (c.accepted-by_left.ensures.accepted ∙ answers.0, c.accepted-by_right.ensures.accepted ∙ answers.1)

pub loop-number-preserved : goal.loop-number-preserved
loop-number-preserved c =
    let l = c.args.left.now in
    let ls = c.args.left_labels.now in
    let r = c.args.right.now in
    let rs = c.args.right_labels.now in
    let seen = c.deref-pair-items.result.now in
    let n = c.loop-number.number in
    let p = c.pair-item.result in
    let at : slice_get seen n ≡ Some p = slice_get_read seen (length seen) n p refl c.loop-number-test.true c.pair-item.is in
    let same = labels_agree c.label.result c.label-in-loop-number.result c.ne.result c.ne.ensures c.if-ne.false in
    let by_left = c.label.ensures.label ∙ ap (label_of ls) c.accepted-by_left.ensures.accepted in
    let by_right = c.label-in-loop-number.ensures.label ∙ ap (label_of rs) c.accepted-by_right.ensures.accepted in
    none_more (AreApart l ls r rs) seen n p c.loop-number.invariant at (alike_by_labels l ls r rs p c.label.result c.label-in-loop-number.result by_left by_right same)

pub returns-clause-none : goal.returns-clause-none
returns-clause-none c =
    let l = c.args.left.now in
    let ls = c.args.left_labels.now in
    let r = c.args.right.now in
    let rs = c.args.right_labels.now in
    let pairs = c.in_ok-pairs.pairs.items in
    let seen = c.deref-pair-items.result.now in
    let n = c.loop-number.number in
    none_apart l ls r rs pairs c.in_ok-pairs.ensures.pairs
    (none_to_end (AreApart l ls r rs) pairs seen n c.loop-number.invariant c.loop-number-test.false c.deref-pair-items.ensures.value)
