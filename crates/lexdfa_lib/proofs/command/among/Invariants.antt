use Rattle.std.proofs.Common.{◌≡◌, map, take}
use Rattle.std.specs.Prelude.{filter}
use Rattle.lexdfa_lib.specs.Command.{has}
use Rattle.lexdfa_lib.proofs.command.among.Given as goal

abbrev pub invariant-loop-option : goal.invariant-loop-option
invariant-loop-option l = map (λ w. w.now) l.found.items ≡ filter (has (map (λ w. w.now) l.options)) (map (λ w. w.now) (take l.option-index l.all))
