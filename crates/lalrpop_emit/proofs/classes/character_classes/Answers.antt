use Rattle.lalrpop_emit.proofs.Told.{classed_more}
use Rattle.lalrpop_emit.proofs.classes.character_classes.Goals as goal

pub runs-preserved : goal.runs-preserved
runs-preserved c =
    let end = c.alike_end-end in
    let made = c.in_ok-class in
    record {
      apart = made.ensures.apart;
      few = made.ensures.few;
      some = end.ensures.most;
      classed =
          classed_more c.args.dfa.now c.runs.firsts.items c.class_for.new.firsts.items c.runs.classes.items c.push_class.new.classes.items c.runs.value end.result made.class c.runs.invariant.classed
          made.ensures.kept end.ensures.some c.in_ok-push_class.ensures made.ensures.like.0 made.ensures.like.1 end.ensures.alike;
    }
