use Rattle.std.proofs.Common.{◌≡◌, false, map, take}
use Rattle.lexdfa_lib.specs.Command.{has}
use Rattle.lexdfa_lib.proofs.command.has.Given as goal

abbrev pub invariant-loop-other : goal.invariant-loop-other
invariant-loop-other l = has (map (λ w. w.now) (take l.other-index l.words)) l.word ≡ false
