-- Cases of specs/Safe.antt.
use Rattle.std.proofs.Common.{◌≡◌, true, false, refl}
use Rattle.reports_lib.specs.Safe.{can_steer}

-- an escape steers a terminal, a line feed doesn't
characters : (can_steer 27 ≡ true) × (can_steer 10 ≡ false)
characters = (refl, refl)
