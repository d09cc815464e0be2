use Rattle.lalrpop_verdicts.specs.Internal.Classes.{HasFirsts}
use Rattle.lalrpop_verdicts.proofs.classes.stretches.first_values.Given as goal

abbrev pub invariant-loop-place : goal.invariant-loop-place
invariant-loop-place l = HasFirsts l.place l.values l.firsts l.kept.items
