use Rattle.std.proofs.Common.{◌+◌, subst}
use Rattle.bajofeki.specs.Internal.Parts.{IsParted}
use Rattle.bajofeki.proofs.PartLaws.{bad_within, from_on, parted_at}
use Rattle.bajofeki.proofs.parts.Part.after_bad.Goals as goal

pub returns-clause-parted : goal.returns-clause-parted
returns-clause-parted c =
    let bytes = c.args.bytes.now in
    let at = c.args.self.now.ends + 1 in
    parted_at bytes at c.of-more.result (bad_within bytes c.args.self.now c.requires.parted c.requires.bad)
    (subst (λ t. IsParted t c.of-more.result) (from_on at bytes) c.of-more.ensures.parted) c.of-more.ensures.front
