use Rattle.std.proofs.Common.{◌≡◌, ◌++◌, flat_map, map, string_bytes, take}
use Rattle.reviews_lib.specs.Compared.{action_text}
use Rattle.reviews_lib.proofs.compared.push_token.Given as goal

abbrev pub invariant-loop-action : goal.invariant-loop-action
invariant-loop-action l = string_bytes l.text ≡ string_bytes l.initial.text ++ flat_map (action_text (map string_bytes l.modes)) (take l.action-index l.action-items)
