use Rattle.std.proofs.Common.{◌≡◌, flat_map, take}
use Rattle.bajofeki_rules.specs.Lines.{lines}
use Rattle.reports_lib.specs.PieceLines.{object_line}
use Rattle.reports_lib.specs.Warned.{warning_members}
use Rattle.reports_lib.specs.Internal.ModePlaces.{section_at}
use Rattle.reports_lib.proofs.warning_json.warnings_json.Given as goal

-- the lines of the warnings so far
abbrev pub invariant-loop-warning : goal.invariant-loop-warning
invariant-loop-warning l =
    l.objects.items ≡ flat_map (λ w. object_line (warning_members l.name (section_at (lines l.text)) l.file w)) (take l.warning-index l.warning-items)
