use Rattle.lalrpop_hir.proofs.Languages.{Matches-of_text}
use Rattle.lalrpop_re.proofs.literal.parse_literal.Goals as goal

pub returns-in-Ok-clause-matches : goal.returns-in-Ok-clause-matches
returns-in-Ok-clause-matches c = rw c.in-Ok.ensures.tree (Matches-of_text c.args.s.now)
