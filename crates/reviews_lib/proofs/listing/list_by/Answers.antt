use Rattle.std.proofs.Common.{length}
use Rattle.reports_lib.proofs.Refusals.{names_only}
use Rattle.reviews_lib.proofs.listing.list_by.Goals as goal

pub list_of-requires-clause-within : goal.list_of-requires-clause-within
list_of-requires-clause-within c =
    names_only c.args.file.now.parts.items c.args.file.now.rules.items c.in_ok-file.file.rules.items (length c.in_ok-file.file.modes.items) c.in_ok-file.ensures.rules (rw c.in_ok-file.ensures.modes c.requires.within)
