use Rattle.lalrpop_rules.specs.Internal.TextFaults.{IsEscapeFault}
use Rattle.lalrpop_rules.proofs.Results.{handed_on}
use Rattle.lalrpop_rules.proofs.RuleTrees.{escape_fault, escaped_tree}
use Rattle.lalrpop_rules.proofs.trees.escaped_tree.Goals as goal

pub returns-in_err-literal-clause-error : goal.returns-in_err-literal-clause-error
returns-in_err-literal-clause-error c =
    let err = c.in_err-literal in
    handed_on (IsEscapeFault c.args.text.now) c.from_residual.result err.field-0.0 c.from_residual.ensures.1 (escape_fault c.args.text.now _ err.ensures.none err.ensures.position)

pub returns-clause-tree : goal.returns-clause-tree
returns-clause-tree c = escaped_tree c.args.text.now _ c.parse_literal.result c.as_str.utf8 (rw c.as_str.ensures.value c.in_ok-literal.ensures.text) c.parse_literal.ensures.tree
