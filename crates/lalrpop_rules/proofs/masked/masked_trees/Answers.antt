use Rattle.std.proofs.Common.{◌≡◌, length, ap, sym, ◌∙◌}
use Rattle.std.proofs.lemmas.Result.{IfOk-weaker}
use Rattle.lalrpop_rules.proofs.KindLaws.{length-merged}
use Rattle.lalrpop_rules.proofs.masked.masked_trees.Goals as goal

pub returns-clause-len : goal.returns-clause-len
returns-clause-len c =
    let same : length c.deref.result.now ≡ length c.args.regexs.now =
    ap length c.deref.ensures.value ∙ c.in_ok-working.ensures.len ∙ c.requires.one_each ∙ sym c.requires.same_len in
    IfOk-weaker c.merged_trees.result _ _ (λ all is. ap length is ∙ length-merged _ _ same) c.merged_trees.ensures.trees
