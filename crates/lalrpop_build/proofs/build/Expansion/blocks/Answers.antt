use Rattle.std.proofs.Common.{◌≡◌, ◌<◌, ◌+◌, ◌∙◌, length, map, get_or, ap, sym, subst, arith, inl, refl}
use Rattle.std.specs.Prelude.{slice_get, Some}
use Rattle.std.proofs.lemmas.List.{length-map}
use Rattle.std.proofs.lemmas.List.Elements.{Contains-get_or}
use Rattle.lalrpop_build.specs.Internal.Blocks.{blocks_to, blocks_of}
use Rattle.lalrpop_build.specs.Internal.Expansion.{IsEdging}
use Rattle.lalrpop_build.specs.Internal.Given.{AreAutomata}
use Rattle.lalrpop_build.proofs.BoundaryBlocks.{IsBefore}
use Rattle.lalrpop_build.proofs.Builds.{set_holds}
use Rattle.lalrpop_build.proofs.BoundaryEdges.{range_of, is_block, some_values, before_next, block_takes}
use Rattle.lalrpop_build.proofs.StageLaws.{same_then, block_passed_by, block_goes_on, done_keeps}
use Rattle.lalrpop_build.proofs.build.Expansion.blocks.Goals as goal
use Rattle.lalrpop_build.proofs.build.Expansion.blocks.Goals.{then-not-is_empty+in_ok-edge, else-not-is_empty}

pub boundary-to-requires-clause-cells : goal.boundary-to-requires-clause-cells
boundary-to-requires-clause-cells c =
    let boundaries = c.args.self.now.boundaries in
    let k = c.loop-index.index in
    let same = c.loop-index.invariant.same in
    let l : k < length boundaries = omega (arith, c.loop-index-test.true, c.boundary_count-index-end.ensures) in
    rw (same.automata, same.boundaries) (c.requires.filled.within (get_or boundaries k 0) (Contains-get_or boundaries k 0 l))

pub edge-requires-clause-at : goal.edge-requires-clause-at
edge-requires-clause-at c =
    let now = c.args.self.now in
    let inv = c.loop-index.invariant in
    record {
      here = rw inv.same.number inv.here;
      inside = rw inv.same.automata (set_holds now.automata.graphs now.kernels.list now.origins now.number 0 now.number c.args.set.now c.requires.breadth_first c.requires.here).0;
      same_length = inv.edging.breadth_first.same_length;
    }

pub edge-requires-clause-take : goal.edge-requires-clause-take
edge-requires-clause-take c some =
    let now = c.args.self.now in
    let cells = now.automata.alphabet.cells in
    let inv = c.loop-index.invariant in
    let k = c.loop-index.index in
    let x = c.loop-index.from in
    let y = c.boundary-to.result in
    let l : k < length now.boundaries = omega (arith, c.loop-index-test.true, c.boundary_count-index-end.ensures) in
    let at : slice_get cells (get_or now.boundaries k 0) ≡ Some y = (rw (inv.same.automata, inv.same.boundaries) at c.boundary-to.ensures.cell) in
    let less = some_values x y c.is_empty.result c.is_empty.ensures c.if-not-is_empty.true in
    let block = is_block cells now.automata.alphabet.count now.by_class now.boundaries now.boundaries k x y c.requires.filled.sound.cells refl l inv.before at less (rw inv.same.by_class at some) in
    rw (inv.same.by_class, inv.same.automata) (block_takes now.automata.graphs c.args.set.now cells now.by_class now.boundaries k x y block c.requires.filled.transitions)

pub loop-index-preserved : goal.loop-index-preserved
loop-index-preserved c =
    let now = c.args.self.now in
    let cells = now.automata.alphabet.cells in
    let inv = c.loop-index.invariant in
    let k = c.loop-index.index in
    let x = c.loop-index.from in
    let y = c.boundary-to.result in
    let l : k < length now.boundaries = omega (arith, c.loop-index-test.true, c.boundary_count-index-end.ensures) in
    let at : slice_get cells (get_or now.boundaries k 0) ≡ Some y = (rw (inv.same.automata, inv.same.boundaries) at c.boundary-to.ensures.cell) in
    let automata : AreAutomata now.automata.graphs = (rw inv.same.automata at c.boundary-to.ensures.automata) in
    let next : IsBefore cells now.boundaries (k + 1) y = before_next cells now.boundaries now.boundaries k y refl at in
    elim c.if-not-is_empty.branch [
      | then-not-is_empty+in_ok-edge w ↦
          (let less = some_values x y c.is_empty.result c.is_empty.ensures w.if-not-is_empty.true in
          rw w.self-is
          (record {
            before = next;
            edging = block_goes_on now c.loop-index.self w.edge.new.self c.args.set.now now.automata.alphabet.count k x y automata c.requires.filled.sound.cells c.requires.here l inv.before at inv.same c.requires.filled.ranges less inv.edging w.in_ok-edge.ensures;
            same = same_then now c.loop-index.self w.edge.new.self inv.same w.in_ok-edge.ensures.same;
            here = done_keeps c.loop-index.self w.edge.new.self c.args.set.now x y now.number w.in_ok-edge.ensures inv.here;
          }))
      | else-not-is_empty w ↦
          rw w.self-is
          (record {
            before = next;
            edging = block_passed_by now c.loop-index.self c.loop-index.self c.args.set.now now.automata.alphabet.count k x y automata c.requires.filled.sound.cells c.requires.here l inv.before at inv.same (inl (c.is_empty.ensures.0 w.if-not-is_empty.false)) inv.edging;
            same = inv.same;
            here = inv.here;
          })
    ]

pub returns-clause-here : goal.returns-clause-here
returns-clause-here c = rw c.loop-index.invariant.same.number c.loop-index.invariant.here

pub returns-clause-tested : goal.returns-clause-tested
returns-clause-tested c =
    let cells = c.args.self.now.automata.alphabet.cells in
    let by_class = c.args.self.now.by_class in
    let boundaries = c.args.self.now.boundaries in
    let blocks = blocks_of cells by_class boundaries in
    let end : c.loop-index.index ≡ length boundaries = omega (arith, c.boundary_count-index-end.ensures, c.loop-index-test.false, c.loop-index.auto.index-end) in
    let all : length (blocks_to cells by_class boundaries c.loop-index.index) ≡ length (map range_of blocks) = ap (λ k. length (blocks_to cells by_class boundaries k)) end ∙ sym (length-map blocks range_of) in
    (map range_of blocks, (c.requires.filled.ranges, subst (λ k. IsEdging c.args.self.now.automata.graphs c.args.self.now.kernels.list c.args.self.now.origins c.args.self.now.number c.args.set.now (map range_of blocks) k c.loop-index.self.kernels.list c.loop-index.self.origins c.loop-index.self.written.tests) all c.loop-index.invariant.edging))
