use Rattle.std.proofs.Common.{◌≡◌, flat_map, string_bytes, take}
use Rattle.bajofeki_rules.specs.Lines.{lines}
use Rattle.reports_lib.specs.Warned.{warning_line}
use Rattle.reports_lib.specs.Internal.ModePlaces.{section_at}
use Rattle.reports_lib.proofs.warnings.warnings_message.Given as goal

-- the lines of the warnings so far
abbrev pub invariant-loop-warning : goal.invariant-loop-warning
invariant-loop-warning l = string_bytes l.message ≡ flat_map (warning_line l.name (section_at (lines l.text)) l.file) (take l.warning-index l.warning-items)
