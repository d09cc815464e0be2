use Rattle.std.proofs.Common.{◌≡◌, ◌++◌, map, string_bytes, take}
use Rattle.reviews_lib.specs.Compared.{spaced}
use Rattle.reviews_lib.proofs.compared.push_names.Given as goal

abbrev pub invariant-loop-name : goal.invariant-loop-name
invariant-loop-name l = string_bytes l.text ≡ string_bytes l.fn.text ++ spaced (map string_bytes (take l.name-index l.names))
