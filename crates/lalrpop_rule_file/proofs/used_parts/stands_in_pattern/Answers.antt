use Rattle.std.proofs.lemmas.Str.Pattern.{contains_text}
use Rattle.lalrpop_rule_file.proofs.used_parts.stands_in_pattern.Goals as goal

pub returns : goal.returns
returns c = contains_text c.contains.result c.args.reference.now c.args.pattern.now c.contains.ensures.cases
