use Rattle.std.proofs.Common.{Some, ap, sym, ◌∙◌}
use Rattle.std.proofs.lemmas.Option.{slice_get-get_or}
use Rattle.lalrpop_build.proofs.Compiling.{refused_report}
use Rattle.lalrpop_build.proofs.build.compile.compile.Goals as goal

pub returns-in-Err-clause-err : goal.returns-in-Err-clause-err
returns-in-Err-clause-err c =
    let here = slice_get-get_or c.args.regexs.now c.args.index c.index-regexs-index.result c.requires.within ∙ ap (λ z. Some z) (sym c.index-regexs-index.is) in
    refused_report c.args.regexs.now c.args.index c.index-regexs-index.result c.in-Err.error c.refusal.result c.requires.no_fault here c.in-Err.ensures.err (rw c.new.ensures.value at c.refusal.ensures)
