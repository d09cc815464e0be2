use Rattle.std.proofs.Common.{subst}
use Rattle.bajofeki.specs.Internal.Parts.{IsParted}
use Rattle.bajofeki.proofs.PartLaws.{from_on, parted_on}
use Rattle.bajofeki.proofs.parts.Part.read_on.Goals as goal

pub returns-clause-parted : goal.returns-clause-parted
returns-clause-parted c = λ order u _.
    parted_on c.args.bytes.now c.args.self.now c.of-more.result order c.requires.within u
    (subst (λ t. IsParted t c.of-more.result) (from_on c.args.self.now.ends c.args.bytes.now) c.of-more.ensures.parted) c.of-more.ensures.front
