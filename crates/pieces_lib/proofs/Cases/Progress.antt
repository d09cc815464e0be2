-- Cases of specs/Progress.antt.
use Rattle.std.proofs.Common.{◌≡◌, [], codes, refl}
use Rattle.std.specs.Prelude.{Some, None}
use Rattle.std.specs.Fmt.{digits}
use Rattle.pieces_lib.specs.Progress.{reading_text, total_said, number_text}
use Rattle.lexdfa_lib.specs.declared.command.Verbosity.TheVariants.{Quiet, Warnings, Progress}

-- only with progress
readings : (reading_text Progress (codes "c.rules") ≡ codes "tokens: reading c.rules\n") × (reading_text Warnings (codes "c.rules") ≡ []) × (reading_text Quiet (codes "c.rules") ≡ [])
readings = (refl, refl, refl)

-- one file isn't counted
totals : (total_said Progress 2 ≡ Some 2) × (total_said Progress 1 ≡ None) × (total_said Progress 0 ≡ None) × (total_said Warnings 2 ≡ None)
totals = (refl, refl, refl, refl)

numbers : (number_text (Some 7) 2 (codes "a.c") ≡ codes "tokens: a.c (2 of 7)\n") × (number_text None 2 (codes "a.c") ≡ [])
unfolding digits
numbers = (refl, refl)
