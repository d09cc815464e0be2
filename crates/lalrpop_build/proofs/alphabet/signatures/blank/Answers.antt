use Rattle.std.proofs.Common.{arith}
use Rattle.std.proofs.lemmas.Grind.{common_steps}
use Rattle.lalrpop_build.proofs.Marking.{none_more}
use Rattle.lalrpop_build.proofs.alphabet.signatures.blank.Goals as goal

pub loop-preserved : goal.loop-preserved
loop-preserved c = record {
  len = grind (arith, common_steps);
  none = none_more c.loop.signatures.items c.push.new.self.items (record { lists = c.new.result }) c.loop.invariant.none c.new.ensures.items c.in_ok-push.ensures.items;
}
