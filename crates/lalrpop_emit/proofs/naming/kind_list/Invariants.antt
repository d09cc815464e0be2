use Rattle.std.proofs.Common.{◌≡◌, ◌<◌, ◌^◌, string_bytes, map, take}
use Rattle.std.specs.List.{All}
use Rattle.lalrpop_emit.specs.Names.{place_of_name}
use Rattle.lalrpop_emit.proofs.naming.kind_list.Given as goal

abbrev pub invariant-loop-name : goal.invariant-loop-name
invariant-loop-name l = record {
  kinds : l.kinds.items ≡ map (place_of_name (map string_bytes l.distinct)) (map string_bytes (take l.name-index l.names));
  small : All (λ n. n < 2 ^ 16) l.kinds.items;
}
