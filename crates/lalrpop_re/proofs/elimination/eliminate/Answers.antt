use Rattle.std.proofs.Common.{ap, ◌∙◌}
use Rattle.std.proofs.lemmas.List.{take_all}
use Rattle.lalrpop_hir.specs.Fault.{fault}
use Rattle.lalrpop_re.specs.Internal.Edges.{between, IsSound, AreSound}
use Rattle.lalrpop_re.proofs.EdgeLists.{sound-at}
use Rattle.lalrpop_re.proofs.Passages.{Passes, Passes-kept, Passes-entry, Passes-exit, without-more}
use Rattle.lalrpop_re.proofs.elimination.eliminate.Goals as goal
use Rattle.lalrpop_re.proofs.elimination.eliminate.Goals.{then-edge-state+then-edge-state-2+in_ok-add_exits, then-edge-state+else-edge-state-2+in_ok-clone+in_ok-add, else-edge-state}

pub loop-edge-preserved : goal.loop-edge-preserved
loop-edge-preserved c =
    let e = c.edge-item.result in
    let es = c.args.edges.now in
    let k = c.args.state in
    let old = c.loop-edge.rest.items in
    let new = c.if-edge-state.rest.items in
    let s : Passes e (between es) k (between old) (between new) × (AreSound es → IsSound e → AreSound old → AreSound new) =
    elim c.if-edge-state.branch [
      | then-edge-state+then-edge-state-2+in_ok-add_exits w ↦
          let x = w.in_ok-add_exits.ensures in
          rw w.rest-is (Passes-entry e c.in_ok-turns.turns (between es) k _ _ w.if-edge-state-2.true w.if-edge-state.true c.in_ok-turns.ensures.words x.words, λ f g h. x.sound f g (c.in_ok-turns.ensures.sound f) h)
      | then-edge-state+else-edge-state-2+in_ok-clone+in_ok-add w ↦
          let x = w.in_ok-clone.field-0 in
          let a = w.in_ok-clone.ensures.cases in
          rw w.rest-is (Passes-kept e x (between es) k _ _ w.if-edge-state.true w.if-edge-state-2.false a.0 a.1.0 a.1.1.0 w.in_ok-add.ensures.words, λ f g h. w.in_ok-add.ensures.sound h (ap fault a.1.1.0 ∙ g))
      | else-edge-state w ↦ rw w.rest-is (Passes-exit e (between es) k _ w.if-edge-state.false, λ f g h. h)
    ] in
    record {
      words = without-more es _ e (between es) k _ _ c.loop-edge-test.true c.edge-item.is s.0 c.loop-edge.invariant.words;
      sound = λ f. s.1 f (sound-at es _ e c.loop-edge-test.true c.edge-item.is f) (c.loop-edge.invariant.sound f);
    }

pub returns-clause-words : goal.returns-clause-words
returns-clause-words c = rw (take_all c.loop-edge.edge-index c.args.edges.now c.loop-edge-test.false) at c.loop-edge.invariant.words
