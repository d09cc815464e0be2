use Rattle.std.proofs.Common.{◌∙◌, ◌<◌, length, sym, subst, ap, arith}
use Rattle.std.specs.Prelude.{slice_get}
use Rattle.lalrpop_build.specs.Internal.Alphabet.{Classes, IsSound}
use Rattle.lalrpop_build.proofs.Assembling.{at}
use Rattle.lalrpop_build.proofs.alphabet.Alphabet.group.Goals as goal

pub returns : goal.returns
returns c =
    let l : c.args.number < length c.self.inside.groups.items = omega (arith, ap (λ (a : Classes). length a.groups) c.self.view_is, c.requires.has_group) in
    record {
      group = ap (λ (a : Classes). slice_get a.groups c.args.number) (sym c.self.view_is) ∙ at c.self.inside.groups.items c.args.number c.index.result.now l c.index.ensures;
      sound = subst IsSound c.self.view_is c.self.invariant;
    }
