use Rattle.std.proofs.Common.{◌≡◌, drop}
use Rattle.lalrpop_verdicts.specs.Picture.{targets}
use Rattle.lalrpop_verdicts.proofs.FirstPlaces.{left_of}
use Rattle.lalrpop_verdicts.proofs.picture.targets_of.Given as goal

-- with the tests that are left the targets are complete
abbrev pub invariant-loop-target : goal.invariant-loop-target
invariant-loop-target l = left_of l.found.items (drop l.target-index l.tests) l.other ≡ targets l.tests l.other
