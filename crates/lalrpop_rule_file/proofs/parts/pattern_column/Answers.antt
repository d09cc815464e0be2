use Rattle.lalrpop_rule_file.proofs.Definitions.{pattern_column, pattern_rest}
use Rattle.lalrpop_rule_file.proofs.parts.pattern_column.Goals as goal

pub column_of-requires : goal.column_of-requires
column_of-requires c = rw c.range_from.ensures.value (pattern_rest c.args.content.now c.args.part.now c.args.position c.requires.pattern)

pub returns : goal.returns
returns c =
    let counted = rw c.range_from.ensures.value at c.column_of.ensures in
    pattern_column c.args.content.now c.args.part.now c.args.position _ c.requires.pattern c.requires.position counted
