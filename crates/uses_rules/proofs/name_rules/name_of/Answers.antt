use Rattle.std.proofs.Common.{refl}
use Rattle.uses_rules.proofs.name_rules.name_of.Goals as goal

pub returns-clause-some : goal.returns-clause-some
returns-clause-some c = λ mode is. c.name.ensures.token mode c.args.text.now c.args.token.start c.args.token is refl
