use Rattle.std.specs.Str.{chars}
use Rattle.lalrpop_re.proofs.ParserLoops.{levels_found, levels_missing}
use Rattle.lalrpop_re.proofs.parser.parse_in_bytes.Goals as goal

pub returns-in-Ok-clause-tree : goal.returns-in-Ok-clause-tree
returns-in-Ok-clause-tree c = levels_found c.args.parts.now (chars c.args.s.now) c.in-Ok.tree.tree c.in-Ok.tree.depth c.in-Ok.ensures

pub returns-in-Err-Syntax-clause-none : goal.returns-in-Err-Syntax-clause-none
returns-in-Err-Syntax-clause-none c = levels_missing c.args.parts.now (chars c.args.s.now) (rw c.in-Err-Syntax.field-0-is at c.in-Err-Syntax.ensures)
