use Rattle.std.proofs.Common.{[], ◌∷◌, ◌+◌, length, ap, ◌∙◌, length-append}
use Rattle.lalrpop_build.specs.declared.build.scratch.Transitions.{Transitions}
use Rattle.lalrpop_build.proofs.Leavings.{no_edges_more}
use Rattle.lalrpop_build.proofs.build.scratch.classes_without_edges.Goals as goal

pub loop-init : goal.loop-init
loop-init c = record {
  count = ap length c.in_ok-classes.ensures.items;
  no_edges = λ i t h. (let none = (rw c.in_ok-classes.ensures.items at h) in cc);
}

pub loop-preserved : goal.loop-preserved
loop-preserved c =
    let more : Transitions = record { list = c.new.result } in
    record {
      count = ap length c.in_ok-push.ensures.items ∙ (length-append c.loop.classes.items (more ∷ []) ∙ ap (λ n. n + 1) c.loop.invariant.count);
      no_edges = no_edges_more c.loop.classes.items c.push.new.self.items more c.loop.invariant.no_edges c.new.ensures.items c.in_ok-push.ensures.items;
    }
