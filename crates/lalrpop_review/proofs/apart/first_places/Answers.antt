use Rattle.std.proofs.Common.{map, arith}
use Rattle.lalrpop_review.specs.Internal.Meanings.{meant}
use Rattle.lalrpop_review.proofs.MeaningLaws.{places_more}
use Rattle.lalrpop_review.proofs.apart.first_places.Goals as goal

pub loop-place-preserved : goal.loop-place-preserved
loop-place-preserved c = (
  omega (arith, c.in_ok-push.ensures.len, c.loop-place.invariant.0),
  rw c.in_ok-push.ensures.items
      (places_more (map meant c.args.all.now) c.loop-place.places.items c.loop-place.place c.first_same.result c.loop-place.invariant.0 c.loop-place.invariant.1 c.first_same.ensures.first),
)
