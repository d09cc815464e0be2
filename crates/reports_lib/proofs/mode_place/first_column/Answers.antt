use Rattle.std.proofs.Common.{arith}
use Rattle.std.proofs.lemmas.List.Sums.{prefix_len-le-length}
use Rattle.lalrpop_rule_file.specs.Words.{is_blank}
use Rattle.reports_lib.proofs.mode_place.first_column.Goals as goal

pub overflow_add-result : goal.overflow_add-result
overflow_add-result c = let le = prefix_len-le-length is_blank c.args.line.now in omega (arith, le, c.blanks.ensures)
