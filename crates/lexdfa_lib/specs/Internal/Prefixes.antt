-- Actions with a prefix.
use Rattle.std.specs.Prelude.{Some}
use Rattle.lexdfa_lib.specs.declared.command.Action.{Action}
use Rattle.lexdfa_lib.specs.declared.command.Action.TheVariants.{Emit}
use Rattle.lexdfa_lib.specs.declared.command.Language.TheVariants.{C}

-- the action has a prefix
abbrev pub HasPrefix : Action → Type 0
HasPrefix (Emit (C (Some prefix))) = Unit {0}
HasPrefix action = ⊥
