use Rattle.std.proofs.Common.{◌∙◌, sym}
use Rattle.lalrpop_emit.proofs.ReadBack.{only_numbers}
use Rattle.lalrpop_emit.proofs.c_file.c_source.Goals as goal

pub returns-clause-only : goal.returns-clause-only
returns-clause-only c = λ p r ip sr e.
    only_numbers p c.args.prefix.now r c.args.numbers.now ip (c.is_identifier.ensures.0 c.if-not-is_identifier.false) sr c.in_ok-source.ensures.storable (sym e ∙ c.in_ok-source.ensures.file)
