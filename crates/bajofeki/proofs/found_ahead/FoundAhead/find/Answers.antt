use Rattle.std.proofs.Common.{arith}
use Rattle.std.proofs.lemmas.Str.{IsCharBoundary-from_drop}
use Rattle.bajofeki.proofs.found_ahead.FoundAhead.find.Goals as goal

pub find_ends-vain-requires : goal.find_ends-vain-requires
find_ends-vain-requires c = record { boundary = IsCharBoundary-from_drop c.args.text.now 0 (omega arith) c.utf8.text }
