use Rattle.lalrpop_re.proofs.parser.parse_at_top.Goals as goal

pub returns : goal.returns
returns c = c.parse_expression.ensures.value
