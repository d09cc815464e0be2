use Rattle.std.proofs.Common.{◌<◌, length, None, ap, ◌∙◌, arith}
use Rattle.std.proofs.lemmas.Option.{slice_get-get_or}
use Rattle.lalrpop_rules.specs.Kinds.{one_tree}
use Rattle.lalrpop_rules.proofs.KindLaws.{merged_next}
use Rattle.lalrpop_rules.proofs.kinds.merged_trees.Goals as goal

pub loop-index-preserved : goal.loop-index-preserved
loop-index-preserved c =
    let in_ts : c.loop-index.index < length c.args.trees.now = c.loop-index-test.true in
    let in_os : c.loop-index.index < length c.args.kinds.now = omega (arith, in_ts, c.requires.same_len) in
    let at = slice_get-get_or c.args.kinds.now c.loop-index.index None in_os in
    merged_next c.args.kinds.now c.args.trees.now c.loop-index.all.items _ _ c.loop-index.index _ c.one_tree.result at in_os in_ts c.loop-index.invariant
    (c.one_tree.ensures ∙ ap one_tree (c.in_ok-own.ensures.trees _ at)) c.in_ok-push.ensures.items
