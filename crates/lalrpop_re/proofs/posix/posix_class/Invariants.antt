use Rattle.std.proofs.Common.{drop}
use Rattle.lalrpop_re.specs.PosixSet.{posix_set}
use Rattle.lalrpop_re.specs.Internal.Sets.{IsFound}
use Rattle.lalrpop_re.proofs.posix.posix_class.Given as goal

abbrev pub invariant-loop-class : goal.invariant-loop-class
invariant-loop-class l = IsFound l.name (drop l.class-index l.class-items) (posix_set l.name)
