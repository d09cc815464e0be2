use Rattle.std.proofs.Common.{drop}
use Rattle.pieces_lib.proofs.FoundLaws.{first_byte}
use Rattle.pieces_lib.proofs.found.found_in.Goals as goal

pub returns-in-None : goal.returns-in-None
returns-in-None c = record { found = (c.in-None.ensures.none, (drop 1 c.args.bytes.now, first_byte c.args.bytes.now c.requires.some)) }
