use Rattle.lalrpop_rule_file.proofs.Definitions.{name_column, name_ends}
use Rattle.lalrpop_rule_file.proofs.parts.part_line.Goals as goal

pub column_of-requires : goal.column_of-requires
column_of-requires c = name_ends c.args.content.now c.args.part.now.name c.requires.name

pub returns-clause-column : goal.returns-clause-column
returns-clause-column c = name_column c.args.content.now c.args.part.now.name _ c.requires.name c.column_of.ensures
