-- Cases of specs/Modes.antt.
use Rattle.std.proofs.Common.{◌≡◌, ℕ, [], refl}
use Rattle.std.specs.Prelude.{Some, None, Err}
use Rattle.bajofeki_rules.specs.declared.action.Action.TheVariants.{Mode, Push, Pop}
use Rattle.bajofeki_c.specs.Modes.{action_at, action_told, mode_name_of}
use Rattle.bajofeki_c.specs.declared.held.BuildError.TheVariants.{Freed}

pushed : action_told (Some (Push 7)) ≡ record { kind = 1; mode = 7 }
pushed = refl

replaced : action_told (Some (Mode 7)) ≡ record { kind = 0; mode = 7 }
replaced = refl

popped : action_told (Some Pop) ≡ record { kind = 2; mode = 0 }
popped = refl

no_lexer_has_no_mode : (m : ℕ) → mode_name_of (record { made = Err Freed }) m ≡ []
no_lexer_has_no_mode m = refl

no_lexer_has_no_action : (i : ℕ) (place : ℕ) → action_at (record { made = Err Freed }) i place ≡ action_told None
no_lexer_has_no_action i place = refl
