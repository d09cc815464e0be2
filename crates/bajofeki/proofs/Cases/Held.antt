-- Cases of specs/Internal/Held.antt.
use Rattle.std.proofs.Common.{ℕ, Bool, List, [], ◌∷◌, length, arith}
use Rattle.lalrpop_rules.specs.Modes.{ModeRules}
use Rattle.bajofeki.specs.declared.walker.Walker.{Walker}
use Rattle.bajofeki.specs.Internal.Held.{IsHeld, IsUnmatched}

-- where nothing was read, nothing has matched
nothing_read : (w : Walker) → IsUnmatched w []
nothing_read w n i some within accepts = omega (arith, some, within)

more_read_than_came : (r : ModeRules) (mode place : ℕ) (w : Walker) (has_match : Bool) → ¬ IsHeld r mode (97 ∷ []) (record { walker = w; read = 2; place = place; has_match = has_match })
more_read_than_came r mode place w has_match held = omega (arith, held.within)
