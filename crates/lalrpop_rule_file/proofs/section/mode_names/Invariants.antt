use denote.Shadow.{shadow}
use denote.Text.{Utf8}
use Rattle.std.proofs.Common.{length}
use Rattle.lalrpop_rule_file.proofs.Sections.{HasListed}
use Rattle.lalrpop_rule_file.proofs.section.mode_names.Given as goal

-- the names so far were read
abbrev pub invariant-loop-rest : goal.invariant-loop-rest
invariant-loop-rest l = record { text : shadow (Utf8 l.rest); listed : HasListed l.text l.rest l.modes.items }

abbrev pub decreases-loop-rest : goal.decreases-loop-rest
decreases-loop-rest l = length l.rest
