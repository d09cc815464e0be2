use Rattle.lalrpop_re.proofs.EdgeLists.{sound-at, Joins, Joins-first, Joins-more, Joins-none, joined-more}
use Rattle.lalrpop_re.proofs.edge.joined.Goals as goal
use Rattle.lalrpop_re.proofs.edge.joined.Goals.{then-edge-from+then-edge-to, in-None+in_ok-clone-in-None, in-Some+in_ok-clone-in-Some+in_ok-gain-in-Some, else-edge-from, else-edge-from-via-then-edge-from+else-edge-to, else-edge-from-via-else-edge-from}

pub loop-edge-preserved : goal.loop-edge-preserved
loop-edge-preserved c =
    let e = c.edge-item.result in
    let t : Joins c.loop-edge.whole e c.args.from c.args.to c.if-edge-from.whole =
    elim c.if-edge-from.branch [
      | then-edge-from+then-edge-to w ↦ rw w.whole-is (elim w.match-whole.branch [
        | in-None+in_ok-clone-in-None w' ↦ rw (w'.whole-is, w'.in-None.is) (Joins-first e w'.in_ok-clone-in-None.field-0 _ _ w.if-edge-from.true w.if-edge-to.true w'.in_ok-clone-in-None.ensures.cases.1.1.0)
        | in-Some+in_ok-clone-in-Some+in_ok-gain-in-Some w' ↦ rw (w'.whole-is, w'.in-Some.is) (Joins-more w'.in-Some.first w'.gain.new.self e w'.in_ok-clone-in-Some.field-0 _ _ w.if-edge-from.true w.if-edge-to.true w'.in_ok-clone-in-Some.ensures.cases.1.1.0 w'.in_ok-gain-in-Some.ensures.tree)
      ])
      | else-edge-from w ↦ rw w.whole-is (Joins-none _ e _ _ (elim w.else-edge-from.branch [
        | else-edge-from-via-then-edge-from+else-edge-to w' ↦ λ f g. w'.if-edge-to.false g
        | else-edge-from-via-else-edge-from w' ↦ λ f g. w'.if-edge-from.false f
      ]))
    ] in
    record {
      words = joined-more _ _ e _ _ _ _ c.loop-edge-test.true c.edge-item.is t c.loop-edge.invariant.words;
      sound = λ s. t.1 (c.loop-edge.invariant.sound s) (sound-at _ _ e c.loop-edge-test.true c.edge-item.is s);
    }
