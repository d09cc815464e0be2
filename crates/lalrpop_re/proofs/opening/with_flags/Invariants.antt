use Rattle.std.proofs.Common.{◌≡◌, drop}
use Rattle.lalrpop_re.specs.Flag.{with_flags}
use Rattle.lalrpop_re.proofs.opening.with_flags.Given as goal

abbrev pub invariant-loop-letter : goal.invariant-loop-letter
invariant-loop-letter l = with_flags l.on l.flags (drop l.letter-index l.letters) ≡ with_flags l.on l.fn.flags l.letters
