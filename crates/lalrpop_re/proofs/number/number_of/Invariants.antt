use Rattle.std.proofs.Common.{◌≡◌, drop}
use Rattle.lalrpop_re.proofs.Numbers.{number}
use Rattle.lalrpop_re.proofs.number.number_of.Given as goal

-- the remaining digits continue the number so far
abbrev pub invariant-loop-digit : goal.invariant-loop-digit
invariant-loop-digit l = number l.radix (drop l.digit-index l.digits) l.number ≡ number l.radix l.digits 0
