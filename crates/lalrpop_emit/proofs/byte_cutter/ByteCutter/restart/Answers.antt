use Rattle.std.proofs.Common.{length, ap, ◌∙◌}
use Rattle.lalrpop_emit.specs.ByteCut.{ByteCut}
use Rattle.lalrpop_emit.proofs.CutBegins.{cut_begins, zeros_in}
use Rattle.lalrpop_emit.proofs.byte_cutter.ByteCutter.restart.Goals as goal

pub returns-clause-cut : goal.returns-clause-cut
returns-clause-cut c = λ text.
    let zeros = zeros_in _ _ _ _ _ c.clear.ensures.items c.clear.ensures.len c.resize.ensures.items in
    let size = ap (λ (b : ByteCut). length b.below) c.self.view_is ∙ c.requires.cut.1.1.room in
    let run = c.restart.ensures in
    cut_begins _ c.args.numbers.now text c.self.inside.below.items c.resize.new.self.items zeros.0 c.restart.new.self c.numbers.view_is c.numbers.invariant.1 size run.room run.none run.begins zeros.1
