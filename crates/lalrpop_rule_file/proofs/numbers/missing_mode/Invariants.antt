use Rattle.std.proofs.Common.{map, take}
use Rattle.lalrpop_rule_file.specs.FileModes.{AllLeadWithin}
use Rattle.lalrpop_rule_file.specs.Internal.Lines.{names_in}
use Rattle.lalrpop_rule_file.specs.Internal.Values.{written_of}
use Rattle.lalrpop_rule_file.proofs.numbers.missing_mode.Given as goal

abbrev pub invariant-loop-action : goal.invariant-loop-action
invariant-loop-action l = AllLeadWithin (names_in l.modes) (map written_of (take l.action-index l.actions))
