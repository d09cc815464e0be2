use Rattle.std.proofs.Common.{◌+◌, ◌∙◌, subst, arith}
use Rattle.std.proofs.lemmas.List.{take_all}
use Rattle.lalrpop_build.specs.Internal.Boundaries.{HasAlso, AreEndsOf}
use Rattle.lalrpop_build.proofs.Boundaries.{start_not_below, end_not_below, still_within, ends_more}
use Rattle.lalrpop_build.proofs.alphabet.cells.ends_of.Goals as goal

pub add_boundary-requires-clause-not_below : goal.add_boundary-requires-clause-not_below
add_boundary-requires-clause-not_below c v h =
    let low = start_not_below c.args.blocks.now c.loop-block.block-index c.block-item.result c.loop-block.boundaries.items
    c.requires.ascending c.requires.hold_one c.loop-block-test.true c.block-item.is c.loop-block.invariant.ends v h in
    omega (arith, low, c.from.ensures, c.start.ensures.value)

pub add_boundary-requires-in-loop-block-clause-not_below : goal.add_boundary-requires-in-loop-block-clause-not_below
add_boundary-requires-in-loop-block-clause-not_below c v h =
    let started : HasAlso c.loop-block.boundaries.items c.block-item.result.start c.add_boundary.new.boundaries.items =
    subst (λ w. HasAlso c.loop-block.boundaries.items w c.add_boundary.new.boundaries.items) (c.from.ensures ∙ c.start.ensures.value) c.in_ok-add_boundary.ensures.boundaries in
    let low = end_not_below c.args.blocks.now c.loop-block.block-index c.block-item.result c.loop-block.boundaries.items
    c.requires.ascending c.requires.hold_one c.loop-block-test.true c.block-item.is c.loop-block.invariant.ends c.add_boundary.new.boundaries.items started v h in
    omega (arith, low, c.from-in-loop-block.ensures, c.end.ensures.value)

pub loop-block-preserved : goal.loop-block-preserved
loop-block-preserved c =
    let started : HasAlso c.loop-block.boundaries.items c.block-item.result.start c.add_boundary.new.boundaries.items =
    subst (λ w. HasAlso c.loop-block.boundaries.items w c.add_boundary.new.boundaries.items) (c.from.ensures ∙ c.start.ensures.value) c.in_ok-add_boundary.ensures.boundaries in
    let ended : HasAlso c.add_boundary.new.boundaries.items (c.block-item.result.end + 1) c.add_boundary-in-loop-block.new.boundaries.items =
    subst (λ w. HasAlso c.add_boundary.new.boundaries.items (w + 1) c.add_boundary-in-loop-block.new.boundaries.items) (c.from-in-loop-block.ensures ∙ c.end.ensures.value) c.in_ok-add_boundary-2.ensures.boundaries in
    record {
      rising = c.in_ok-add_boundary-2.ensures.rising;
      within = still_within c.args.blocks.now c.loop-block.block-index c.block-item.result c.loop-block.boundaries.items
          c.requires.ascending c.requires.hold_one c.loop-block-test.true c.block-item.is c.loop-block.invariant.ends
          c.add_boundary.new.boundaries.items started c.add_boundary-in-loop-block.new.boundaries.items ended c.loop-block.invariant.within (omega (arith, c.end.ensures.value));
      ends = ends_more c.args.blocks.now c.loop-block.block-index c.block-item.result c.loop-block.boundaries.items
          c.requires.ascending c.requires.hold_one c.loop-block-test.true c.block-item.is c.loop-block.invariant.ends
          c.add_boundary.new.boundaries.items started c.add_boundary-in-loop-block.new.boundaries.items ended;
    }

pub returns-clause-ends : goal.returns-clause-ends
returns-clause-ends c =
    subst (λ xs. AreEndsOf xs c.loop-block.boundaries.items) (take_all c.loop-block.block-index c.args.blocks.now c.loop-block-test.false) c.loop-block.invariant.ends
