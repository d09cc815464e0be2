use Rattle.std.proofs.Common.{◌≡◌, ◌∙◌, ◌++◌, ◌∷◌, [], length, ap, arith, refl}
use Rattle.std.proofs.lemmas.Option.{slice_get_within}
use Rattle.lalrpop_dfa.specs.Dfa.{Row}
use Rattle.lalrpop_build.specs.Internal.Stage.{Stage}
use Rattle.lalrpop_build.proofs.Builds.{set_holds, row_built}
use Rattle.lalrpop_build.proofs.build.Expansion.row.Goals as goal

pub kind-requires-clause-inside : goal.kind-requires-clause-inside
kind-requires-clause-inside c =
    let now = c.args.self.now in
    let n = length now.written.rows in
    (set_holds now.automata.graphs now.kernels.list now.origins n 0 n c.args.set c.requires.built.built.breadth_first c.requires.here).0

pub kind-requires-clause-ascending : goal.kind-requires-clause-ascending
kind-requires-clause-ascending c =
    let now = c.args.self.now in
    let n = length now.written.rows in
    (set_holds now.automata.graphs now.kernels.list now.origins n 0 n c.args.set c.requires.built.built.breadth_first c.requires.here).1

pub kind-requires-clause-within : goal.kind-requires-clause-within
kind-requires-clause-within c =
    let now = c.args.self.now in
    omega (arith, c.requires.built.built.breadth_first.same_length, slice_get_within now.kernels.list (length now.written.rows) c.args.set c.requires.here)

pub begin-requires : goal.begin-requires
begin-requires c =
    let now = c.args.self.now in
    let n = length now.written.rows in
    record { inside = (set_holds now.automata.graphs now.kernels.list now.origins n 0 n c.args.set c.requires.built.built.breadth_first c.requires.here).0 }

pub other-requires : goal.other-requires
other-requires c =
    let now = c.args.self.now in
    let n = length now.written.rows in
    let same : c.blocks-2.new.self.automata ≡ now.automata = c.in_ok-blocks.ensures.same.automata ∙ ap (λ (z : Stage). z.automata) c.in_ok-begin.ensures.same in
    let (xs, (partition, edging)) = c.in_ok-blocks.ensures.tested in
    record {
      at = record {
        here = c.in_ok-blocks.ensures.here;
        inside = rw same (set_holds now.automata.graphs now.kernels.list now.origins n 0 n c.args.set c.requires.built.built.breadth_first c.requires.here).0;
        same_length = edging.breadth_first.same_length;
      };
    }

pub returns-clause-built : goal.returns-clause-built
returns-clause-built c =
    let now = c.args.self.now in
    let begun = c.in_ok-begin.ensures.same in
    let blocks = c.in_ok-blocks.ensures.same in
    let to = c.in_ok-other.ensures.target in
    let ended = c.in_ok-end.ensures.same in
    let automata1 : c.begin.new.self.automata ≡ now.automata = ap (λ (z : Stage). z.automata) begun in
    let automata2 : c.blocks-2.new.self.automata ≡ now.automata = blocks.automata ∙ automata1 in
    let kernels1 : c.begin.new.self.kernels ≡ now.kernels = ap (λ (z : Stage). z.kernels) begun in
    let origins1 : c.begin.new.self.origins ≡ now.origins = ap (λ (z : Stage). z.origins) begun in
    let rows3 : c.other.new.self.written.rows ≡ now.written.rows = to.same.rows ∙ (blocks.rows ∙ ap (λ (z : Stage). z.written.rows) begun) in
    let automata4 : c.end.new.self.automata ≡ now.automata = ap (λ (z : Stage). z.automata) ended ∙ (to.same.automata ∙ automata2) in
    let precedences4 : c.end.new.self.precedences ≡ now.precedences = ap (λ (z : Stage). z.precedences) ended ∙ (to.same.precedences ∙ (blocks.precedences ∙ ap (λ (z : Stage). z.precedences) begun)) in
    let kernels4 : c.end.new.self.kernels ≡ c.other.new.self.kernels = ap (λ (z : Stage). z.kernels) ended in
    let origins4 : c.end.new.self.origins ≡ c.other.new.self.origins = ap (λ (z : Stage). z.origins) ended in
    let written = c.in_ok-end.ensures.written in
    let row : Row = record { kind = c.in_ok-kind.kind; tests = c.other.new.self.written.tests; other = c.in_ok-other.other; items = c.args.set } in
    record {
      built = rw (automata4, precedences4, kernels4, origins4, written)
          (row_built now.automata.graphs (rw automata2 at c.in_ok-other.ensures.automata) now.precedences now.kernels.list now.origins now.written.rows c.begin.new.self.number c.args.set c.blocks-2.new.self.kernels.list c.blocks-2.new.self.origins c.blocks-2.new.self.written.tests
          c.other.new.self.kernels.list c.other.new.self.origins row (c.other.new.self.written.rows ++ row ∷ []) c.requires.built.built c.requires.here c.in_ok-begin.ensures.number (rw (automata1, kernels1, origins1) at c.in_ok-blocks.ensures.tested)
          (rw (blocks.number, automata2) at to.added) to.tests refl c.in_ok-kind.ensures.ok (ap (λ rs. rs ++ row ∷ []) rows3));
      no_tests = rw written refl;
    }
