use Rattle.lalrpop_rule_file.proofs.Stopping.{rest_begins}
use Rattle.lalrpop_rule_file.proofs.content.column_of.Goals as goal

pub of-requires : goal.of-requires
of-requires c = record { boundary = rest_begins c.args.line.now c.args.rest.now c.requires c.utf8.rest }
