use Rattle.std.proofs.lemmas.List.{take_all}
use Rattle.lalrpop_re.specs.Internal.Edges.{between, IsSound, AreSound}
use Rattle.lalrpop_re.proofs.EdgeLists.{sound-at}
use Rattle.lalrpop_re.proofs.Passages.{JoinsExit, JoinsExit-one, JoinsExit-none, exits-more, sound-three}
use Rattle.lalrpop_re.proofs.elimination.add_exits.Goals as goal
use Rattle.lalrpop_re.proofs.elimination.add_exits.Goals.{then-exit-entry+then-exit-entry-2+in_ok-through+in_ok-add, else-exit-entry, else-exit-entry-via-then-exit-entry+else-exit-entry-2, else-exit-entry-via-else-exit-entry}

pub loop-exit-preserved : goal.loop-exit-preserved
loop-exit-preserved c =
    let a = c.args.entry.now in
    let t = c.args.turns.now in
    let e = c.exit-item.result in
    let old = c.loop-exit.rest.items in
    let new = c.if-exit-entry.rest.items in
    let s : JoinsExit a t e (between old) (between new) × (IsSound a → IsSound t → IsSound e → AreSound old → AreSound new) =
    elim c.if-exit-entry.branch [
      | then-exit-entry+then-exit-entry-2+in_ok-through+in_ok-add w ↦
          let x = w.in_ok-through.ensures in
          rw w.rest-is (JoinsExit-one a t e w.in_ok-through.field-0 _ _ w.if-exit-entry.true w.if-exit-entry-2.true x.from x.to x.tree w.in_ok-add.ensures.words, λ f g h k. w.in_ok-add.ensures.sound k (sound-three _ _ _ _ x.tree f g h))
      | else-exit-entry w ↦ rw w.rest-is (
        JoinsExit-none a t e _ (elim w.else-exit-entry.branch [
          | else-exit-entry-via-then-exit-entry+else-exit-entry-2 w' ↦ λ f g. g w'.if-exit-entry-2.false
          | else-exit-entry-via-else-exit-entry w' ↦ λ f g. w'.if-exit-entry.false f
        ]),
        λ f g h k. k,
      )
    ] in
    record {
      words = exits-more _ _ a t e _ _ _ c.loop-exit-test.true c.exit-item.is s.0 c.loop-exit.invariant.words;
      sound = λ k f g h. s.1 f g (sound-at _ _ e c.loop-exit-test.true c.exit-item.is k) (c.loop-exit.invariant.sound k f g h);
    }

pub returns-clause-words : goal.returns-clause-words
returns-clause-words c = rw (take_all c.loop-exit.exit-index c.args.edges.now c.loop-exit-test.false) at c.loop-exit.invariant.words
