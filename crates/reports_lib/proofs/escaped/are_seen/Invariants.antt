use Rattle.std.proofs.Common.{◌≡◌, take}
use Rattle.std.specs.List.{list_all}
use Rattle.reports_lib.specs.Internal.SeenBytes.{is_seen_in_ascii}
use Rattle.reports_lib.proofs.escaped.are_seen.Given as goal

abbrev pub invariant-loop-byte : goal.invariant-loop-byte
invariant-loop-byte l = l.seen ≡ list_all is_seen_in_ascii (take l.byte-index l.bytes)
