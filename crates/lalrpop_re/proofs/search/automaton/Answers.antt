use Rattle.std.proofs.Common.{[], ap, ◌∙◌}
use Rattle.std.proofs.lemmas.List.Elements.{All-cons, All-nil}
use Rattle.lalrpop_hir.specs.Fault.{fault}
use Rattle.lalrpop_re.specs.Internal.Edges.{IsSound}
use Rattle.lalrpop_re.proofs.Rows.{automaton-start, automaton-more, sound-of_text}
use Rattle.lalrpop_re.proofs.search.automaton.Goals as goal

pub loop-state-init : goal.loop-state-init
loop-state-init c =
    let x = c.in_ok-beginning.field-0 in
    let e = c.in_ok-beginning.ensures in
    rw (c.in_ok-push.ensures.items, c.new-edges.ensures.items) (record {
      words = automaton-start c.args.start.now c.args.end.now x e.from e.to e.tree;
      sound = All-cons IsSound x [] (ap fault e.tree ∙ sound-of_text c.args.start.now) (All-nil IsSound);
    })

pub loop-state-preserved : goal.loop-state-preserved
loop-state-preserved c = record {
  words = automaton-more _ _ _ _ _ c.in_ok-add_steps.ensures.words c.loop-state.invariant.words;
  sound = c.in_ok-add_steps.ensures.sound c.loop-state.invariant.sound;
}
