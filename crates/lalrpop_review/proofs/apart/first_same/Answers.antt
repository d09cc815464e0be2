use Rattle.lalrpop_review.proofs.MeaningLaws.{first_found, none_more}
use Rattle.lalrpop_review.proofs.apart.first_same.Goals as goal

pub loop-earlier-preserved : goal.loop-earlier-preserved
loop-earlier-preserved c =
    none_more c.args.all.now c.args.place c.loop-earlier.earlier _ _ c.loop-earlier-test.true c.requires.within c.if-is_same.ensures c.loop-earlier.invariant

pub returns-then-is_same : goal.returns-then-is_same
returns-then-is_same c = record {
  first = first_found c.args.all.now c.args.place c.loop-earlier.earlier _ _ c.loop-earlier-test.true c.requires.within c.if-is_same.ensures c.loop-earlier.invariant;
}
