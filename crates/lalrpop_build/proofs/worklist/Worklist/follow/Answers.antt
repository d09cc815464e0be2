use Rattle.std.proofs.Common.{◌∷◌, [], ◌++◌, ◌∙◌}
use Rattle.lalrpop_build.proofs.Inserting.{inserted_then, inserted_none, steps_here, steps_more, steps_have}
use Rattle.lalrpop_build.specs.Internal.Worklist.{epsilon_targets}
use Rattle.lalrpop_build.proofs.worklist.Worklist.follow.Goals as goal

pub loop-edge-init : goal.loop-edge-init
loop-edge-init g c = (
  [],
  inserted_none _ _,
  steps_here c.args.nfas.now c.args.item c.nfa.result.now c.state.result c.into_iter-edge-iterator.result c.nfa.ensures c.state.ensures (c.into_iter-edge-iterator.ensures.into_iter_gives ∙ c.edges-edge-items.ensures.edges),
  λ x h. h,
)

pub insert-requires : goal.insert-requires
insert-requires g c =
    let (done, inserted, rest, room) = c.loop-edge.invariant in
    room c.to.result (c.requires.room c.to.result (steps_have done (epsilon_targets c.args.nfas.now c.args.item) c.loop-edge.edge-iterator c.next.new.self c.in-Some.edge.now c.args.item.0 c.to.result rest c.in-Some.ensures.steps c.to.ensures))

pub loop-edge-preserved : goal.loop-edge-preserved
loop-edge-preserved g c =
    let (done, inserted, rest, room) = c.loop-edge.invariant in (
      done ++ c.to.result ∷ [],
      inserted_then _ _ done _ _ _ _ _ inserted c.in_ok-insert.ensures.inserted,
      steps_more done (epsilon_targets c.args.nfas.now c.args.item) c.loop-edge.edge-iterator c.next.new.self c.in-Some.edge.now c.args.item.0 c.to.result rest c.in-Some.ensures.steps c.to.ensures,
      λ x h. c.in_ok-insert.ensures.room x (room x h),
    )
