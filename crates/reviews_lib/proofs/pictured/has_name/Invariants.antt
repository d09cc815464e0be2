use Rattle.std.proofs.Common.{◌≡◌, false, map, string_bytes, take}
use Rattle.lexdfa_lib.specs.Command.{has}
use Rattle.reviews_lib.proofs.pictured.has_name.Given as goal

abbrev pub invariant-loop-own : goal.invariant-loop-own
invariant-loop-own l = has (map string_bytes (take l.own-index l.names)) l.name ≡ false
