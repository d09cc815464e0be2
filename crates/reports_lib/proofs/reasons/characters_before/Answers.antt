use Rattle.std.proofs.Common.{rules}
use Rattle.std.proofs.lemmas.Str.{chars_from_encodes, IsUtf8-take}
use Rattle.reports_lib.proofs.reasons.characters_before.Goals as goal

pub returns : goal.returns
returns c = record { count = search (rules, chars_from_encodes, IsUtf8-take) }
