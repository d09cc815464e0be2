use Rattle.std.proofs.Common.{◌∙◌, ◌<◌, length, sym, ap, arith}
use Rattle.std.specs.Prelude.{slice_get}
use Rattle.lalrpop_build.specs.Internal.Alphabet.{Classes}
use Rattle.lalrpop_build.proofs.Assembling.{at}
use Rattle.lalrpop_build.proofs.alphabet.Alphabet.cell.Goals as goal

pub returns : goal.returns
returns c =
    let l : c.args.place < length c.self.inside.cells.items = omega (arith, ap (λ (a : Classes). length a.cells) c.self.view_is, c.requires.has_cell) in
    record {
      cell = ap (λ (a : Classes). slice_get a.cells c.args.place) (sym c.self.view_is) ∙ at c.self.inside.cells.items c.args.place c.index.result.now l c.index.ensures;
    }
