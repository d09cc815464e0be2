use Rattle.lalrpop_rule_file.proofs.UsedParts.{NoneInParts}
use Rattle.lalrpop_rule_file.proofs.used_parts.stands_in_part.Given as goal

abbrev pub invariant-loop-later : goal.invariant-loop-later
invariant-loop-later l = NoneInParts l.reference l.part l.parts l.later
