use Rattle.std.proofs.Common.{◌≡◌, not, map, drop}
use Rattle.std.specs.Prelude.{find}
use Rattle.lexdfa_lib.specs.Command.{is_known}
use Rattle.lexdfa_lib.proofs.command.unknown.Given as goal

abbrev pub invariant-loop-option : goal.invariant-loop-option
invariant-loop-option l =
    find (λ option. not (is_known option)) (map (λ w. w.now) (drop l.option-index l.options)) ≡ find (λ option. not (is_known option)) (map (λ w. w.now) l.options)
