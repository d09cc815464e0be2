use Rattle.std.proofs.Common.{◌∙◌, sym}
use Rattle.reports_lib.proofs.ClashLineLaws.{named}
use Rattle.reports_lib.proofs.named_clashes.name_of.Goals as goal

pub returns : goal.returns
returns c = record { name = c.name_found.ensures ∙ sym (named c.args.rules.now c.args.index) }
