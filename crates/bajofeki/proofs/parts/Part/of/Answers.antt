use Rattle.bajofeki.proofs.PartLaws.{parted_of}
use Rattle.bajofeki.proofs.parts.Part.of.Goals as goal

pub returns-clause-parted : goal.returns-clause-parted
returns-clause-parted c =
    let front = c.front_of-front in
    parted_of c.args.bytes.now front.result.text.now front.result.left.now front.result.is_bad front.ensures.parts front.ensures.utf8 (front.ensures.begun, front.ensures.bad)
