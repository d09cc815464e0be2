use Rattle.std.proofs.Common.{take, sym, subst}
use Rattle.std.specs.Str.{chars}
use Rattle.std.proofs.lemmas.Str.{IsCharBoundary-from_take}
use Rattle.bajofeki.specs.Internal.Walking.{IsMet}
use Rattle.bajofeki.proofs.Walking.{met_behind, text_scalars}
use Rattle.bajofeki.proofs.run.match_at.Goals as goal

pub kind-requires-clause-met : goal.kind-requires-clause-met
kind-requires-clause-met c =
    let stand = c.requires.stand.1 in
    subst (IsMet c.args.walker.now) (sym stand.reached) (met_behind c.args.walker.now (chars (take c.args.end c.args.text.now)) (text_scalars (take c.args.end c.args.text.now) stand.seen))

pub range-requires-clause-end_boundary : goal.range-requires-clause-end_boundary
range-requires-clause-end_boundary c =
    let stand = c.requires.stand.1 in IsCharBoundary-from_take c.args.text.now c.args.end c.utf8.text stand.within stand.seen
