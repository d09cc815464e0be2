use Rattle.std.proofs.Common.{map, take}
use Rattle.lalrpop_rule_file.specs.FileModes.{AreActions}
use Rattle.lalrpop_rule_file.specs.Internal.Lines.{names_in}
use Rattle.lalrpop_rule_file.specs.Internal.Values.{written_of}
use Rattle.lalrpop_rule_file.proofs.numbers.actions_with_numbers.Given as goal

abbrev pub invariant-loop-action : goal.invariant-loop-action
invariant-loop-action l = AreActions (names_in l.modes) (map written_of (take l.action-index l.actions)) l.all.items
