use Rattle.std.proofs.Common.{◌≡◌, ◌++◌, map, take}
use Rattle.std.specs.Prelude.{filter}
use Rattle.lexdfa_lib.specs.Command.{is_prefix_option}
use Rattle.lexdfa_lib.proofs.command.said.Given as goal

abbrev pub invariant-loop-known : goal.invariant-loop-known
invariant-loop-known l = map (λ w. w.now) l.found.items ≡ map (λ w. w.now) (take l.known-index l.known-items)

abbrev pub invariant-loop-option : goal.invariant-loop-option
invariant-loop-option l = map (λ w. w.now) l.found.items ≡ map (λ w. w.now) l.initial.found.items ++ filter is_prefix_option (map (λ w. w.now) (take l.option-index l.options))
