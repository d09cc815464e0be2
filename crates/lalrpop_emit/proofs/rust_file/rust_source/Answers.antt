use Rattle.std.proofs.Common.{◌∙◌, sym}
use Rattle.lalrpop_emit.proofs.RustReadBack.{only_numbers}
use Rattle.lalrpop_emit.proofs.rust_file.rust_source.Goals as goal

pub returns-clause-only : goal.returns-clause-only
returns-clause-only c = λ r sr e. only_numbers r c.args.numbers.now sr c.in_ok-source.ensures.storable (sym e ∙ c.in_ok-source.ensures.file)
