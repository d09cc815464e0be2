use Rattle.lalrpop_rules.specs.RuleSet.{IsTextError}
use Rattle.lalrpop_rules.specs.declared.text_error.TextError.{TextError}
use Rattle.lalrpop_rules.proofs.Results.{handed_on}
use Rattle.lalrpop_rules.proofs.RuleTrees.{error_of_fault, trees_more}
use Rattle.lalrpop_rules.proofs.trees.text_trees.Goals as goal

pub returns-in_err-tree-clause-error : goal.returns-in_err-tree-clause-error
returns-in_err-tree-clause-error c =
    handed_on (λ (e : TextError). IsTextError c.args.rules.now e) c.from_residual.result c.in_err-tree.field-0.0 c.from_residual.ensures.1
    (error_of_fault c.args.rules.now c.loop-index.trees.items c.loop-index.index _ c.in_err-tree.field-0.0 c.loop-index-test.true c.loop-index.invariant c.in_err-tree.ensures.error)

pub loop-index-preserved : goal.loop-index-preserved
loop-index-preserved c =
    trees_more c.args.rules.now c.loop-index.trees.items _ c.loop-index.index _ c.in_ok-tree.tree c.loop-index-test.true c.loop-index.invariant
    c.in_ok-tree.ensures.tree c.in_ok-push.ensures.items
