use Rattle.std.specs.List.{Contains}
use Rattle.lalrpop_nfa.proofs.PartitionLaws.{blocks_nonempty}
use Rattle.lalrpop_build.proofs.Boundaries.{boundaries_are}
use Rattle.lalrpop_build.proofs.alphabet.cells.boundaries_of.Goals as goal

pub ends_of-requires-clause-hold_one : goal.ends_of-requires-clause-hold_one
ends_of-requires-clause-hold_one c = rw c.deref.ensures.value (blocks_nonempty (Contains c.in_ok-labels.labels.keys) c.in_ok-blocks.blocks.items c.in_ok-blocks.ensures.partition)

pub returns : goal.returns
returns c =
    boundaries_are c.args.lists.now c.in_ok-labels.labels.keys c.in_ok-blocks.blocks.items c.ends_of.result (λ boundaries. boundaries.items) c.in_ok-labels.ensures c.in_ok-blocks.ensures.partition
    c.ends_of.ensures.rising c.ends_of.ensures.within (rw c.deref.ensures.value at c.ends_of.ensures.ends)
