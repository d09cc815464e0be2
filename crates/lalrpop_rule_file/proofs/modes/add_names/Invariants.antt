use Rattle.std.proofs.Common.{◌≡◌, take}
use Rattle.lalrpop_rule_file.specs.Internal.Lines.{add_names, names_in}
use Rattle.lalrpop_rule_file.proofs.modes.add_names.Given as goal

abbrev pub invariant-loop-name : goal.invariant-loop-name
invariant-loop-name l = names_in l.modes.items ≡ add_names (names_in l.fn.modes.items) (names_in (take l.name-index l.names))
