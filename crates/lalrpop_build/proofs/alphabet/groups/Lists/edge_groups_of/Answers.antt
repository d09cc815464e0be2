use Rattle.std.proofs.Common.{sym}
use Rattle.std.specs.List.{filter}
use Rattle.lalrpop_hir.specs.Range.{Range}
use Rattle.lalrpop_nfa.specs.Walk.{leaves}
use Rattle.lalrpop_build.proofs.EdgeGroupLaws.{reading_turned, reading_more, reading_done}
use Rattle.lalrpop_build.proofs.LabelOrder.{range_same}
use Rattle.lalrpop_build.proofs.alphabet.groups.Lists.edge_groups_of.Goals as goal

pub loop-edge-preserved : goal.loop-edge-preserved
loop-edge-preserved c =
    let all = filter (leaves {L = Range} c.args.state) c.args.nfa.now.edges.tests in
    let e = c.in-Some.edge.now in
    let run = c.loop-edge.run in
    let run2 = c.turn_to.new.run in
    let turned = reading_turned c.args.self.now c.loop-edge.self c.turn_to.new.self c.loop-edge.edge_groups.items c.turn_to.new.edge_groups.items run.labels.list.items run2.labels.list.items run.to run2.to all c.loop-edge.edge-iterator
    c.loop-edge.invariant c.in_ok-turn_to.ensures.turned in
    let (x, y, p, q, same) = c.in_ok-clone.ensures.cases in
    let label = range_same (record { start = x.start; end = x.end }) (record { start = y.start; end = y.end }) e.label c.in_ok-clone.field-0 p q same.0 same.1 in
    reading_more c.args.self.now c.turn_to.new.self c.turn_to.new.edge_groups.items run2.labels.list.items c.push.new.self.items run2.to all c.loop-edge.edge-iterator c.next.new.self e c.in_ok-clone.field-0
    turned c.in-Some.ensures.steps (sym c.in_ok-turn_to.ensures.here) label c.in_ok-push.ensures.items

pub returns-clause-edge_groups : goal.returns-clause-edge_groups
returns-clause-edge_groups c =
    (reading_done c.args.self.now c.loop-edge.self c.close.new.self c.loop-edge.edge_groups.items c.close.new.edge_groups.items c.loop-edge.run.labels.list.items c.loop-edge.run.to c.args.state c.args.nfa.now.edges.tests c.loop-edge.edge-iterator
    c.loop-edge.invariant c.in-None.ensures.steps.0 c.in_ok-close.ensures.closed).1
