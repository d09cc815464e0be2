use Rattle.std.proofs.Common.{ap, ◌∙◌}
use Rattle.std.specs.Str.{bytes_eq}
use Rattle.bajofeki.proofs.Names.{name_there}
use Rattle.bajofeki.proofs.coloured.has_name.Goals as goal

pub returns : goal.returns
returns c =
    c.eq.ensures ∙ ap (bytes_eq c.args.name.now) (c.as_str.ensures.value ∙ name_there c.args.names.now c.args.number c.index-names-number.result c.requires c.index-names-number.is)
