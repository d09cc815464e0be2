use Rattle.std.proofs.Common.{◌≡◌, ◌<◌, length, get_or, set, ap, sym, ◌∙◌, arith}
use Rattle.std.proofs.lemmas.List.{length-set}
use Rattle.lalrpop_re.specs.Internal.Walks.{Gains}
use Rattle.lalrpop_re.specs.Internal.Edges.{Labels}
use Rattle.lalrpop_re.proofs.EdgeLists.{between-push, between-set, Labels-gain, all-written}
use Rattle.lalrpop_re.proofs.edge.add.Goals as goal

pub returns-then-edge-new-2-clause-words : goal.returns-then-edge-new-2-clause-words
returns-then-edge-new-2-clause-words c =
    let es = c.args.edges.now in
    let i = c.loop-edge.edge-index in
    let old = c.edge-item.result in
    let it = c.gain.new.self in
    let same : c.loop-edge.edge-items ≡ es.items = c.loop-edge.invariant ∙ c.deref_mut-edge-items.ensures.value in
    let within : i < length es.items = omega (arith, c.loop-edge-test.true, ap length c.deref_mut-edge-items.ensures.value) in
    let here : get_or c.loop-edge.edge-items i old ≡ old = sym c.edge-item.is in
    let from : old.from ≡ c.args.new.from = ap (λ e. e.from) (sym here) ∙ c.if-edge-new.true in
    let to : old.to ≡ c.args.new.to = ap (λ e. e.to) (sym here) ∙ c.if-edge-new-2.true in
    let g : Gains (Labels old) (Labels c.args.new) (Labels it) = Labels-gain old c.args.new it (rw here at c.in_ok-gain.ensures.from) (rw here at c.in_ok-gain.ensures.to) (rw here at c.in_ok-gain.ensures.tree) from to in
    let n : length (set c.loop-edge.edge-items i it) ≡ es.len = length-set c.loop-edge.edge-items i it ∙ (ap length same ∙ sym es.ok.0) in
    rw (all-written (set c.loop-edge.edge-items i it) es.items es.len n (sym es.ok.0), same) (between-set es.items i old c.args.new it within (rw same at c.edge-item.is) g)

pub returns-clause-words : goal.returns-clause-words
returns-clause-words c =
    let es = c.args.edges.now in
    let same : c.loop-edge.edge-items ≡ es.items = c.loop-edge.invariant ∙ c.deref_mut-edge-items.ensures.value in
    let all = all-written c.loop-edge.edge-items es.items es.len (ap length same ∙ sym es.ok.0) (sym es.ok.0) in
    rw (c.in_ok-push.ensures.items, all, same) (between-push es.items c.args.new)
