use Rattle.std.proofs.Common.{◌≡◌, length, map, Some}
use Rattle.std.specs.Prelude.{slice_get}
use Rattle.lalrpop_build.specs.Internal.Blocks.{blocks_to, blocks_of}
use Rattle.lalrpop_build.specs.Internal.Expansion.{IsEdging}
use Rattle.lalrpop_build.specs.Internal.Stage.{IsSameRow}
use Rattle.lalrpop_build.proofs.BoundaryBlocks.{IsBefore}
use Rattle.lalrpop_build.proofs.build.Expansion.blocks.Given as goal

abbrev pub invariant-loop-index : goal.invariant-loop-index
invariant-loop-index l = record {
  before : IsBefore l.fn.self.automata.alphabet.cells l.fn.self.boundaries l.index l.from;
  edging : IsEdging l.fn.self.automata.graphs l.fn.self.kernels.list l.fn.self.origins l.fn.self.number l.set
      (map (λ b. b.range) (blocks_of l.fn.self.automata.alphabet.cells l.fn.self.by_class l.fn.self.boundaries))
      (length (blocks_to l.fn.self.automata.alphabet.cells l.fn.self.by_class l.fn.self.boundaries l.index)) l.self.kernels.list l.self.origins l.self.written.tests;
  same : IsSameRow l.fn.self l.self;
  here : slice_get l.self.kernels.list l.fn.self.number ≡ Some l.set;
}
