use Rattle.std.proofs.Common.{take}
use Rattle.lalrpop_rule_file.specs.FileModes.{AreNumbers}
use Rattle.lalrpop_rule_file.specs.Internal.Lines.{AllIn, names_in}
use Rattle.lalrpop_rule_file.proofs.numbers.numbers_of.Given as goal

abbrev pub invariant-loop-name : goal.invariant-loop-name
invariant-loop-name l =
    AllIn (names_in l.modes) (names_in (take l.name-index l.names)) → AreNumbers (names_in l.modes) (names_in (take l.name-index l.names)) l.all.items
