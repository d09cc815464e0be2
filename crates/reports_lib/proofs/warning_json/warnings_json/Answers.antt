use Rattle.std.proofs.Common.{◌≡◌, flat_map, take}
use Rattle.std.proofs.lemmas.List.{take_all}
use Rattle.bajofeki_rules.specs.Lines.{lines}
use Rattle.lalrpop_rule_file.specs.RuleFile.{without_mark}
use Rattle.reports_lib.specs.PieceLines.{object_line}
use Rattle.reports_lib.specs.Warned.{warning_members}
use Rattle.reports_lib.specs.Internal.ModePlaces.{section_at}
use Rattle.reports_lib.proofs.ModePlaces.{sections_told}
use Rattle.reports_lib.proofs.warning_json.warnings_json.Goals as goal

pub returns : goal.returns
returns c =
    let ls = lines (without_mark c.args.bytes.now) in
    let found = c.in_ok-warnings.ensures in
    let said : c.loop-warning.objects.items ≡ flat_map (λ w. object_line (warning_members c.args.name.now (section_at (lines c.without_mark-text.result.now)) c.args.file.now w))
    (take c.loop-warning.warning-index c.deref-warning-items.result.now) =
    c.loop-warning.invariant in
    record {
      objects = (
        section_at ls,
        (
          sections_told ls,
          (
            c.in_ok-warnings.warnings.items,
            (
              record { all = found.all; in_order = found.in_order },
              rw (take_all _ _ c.loop-warning-test.false, c.without_mark-text.ensures, c.deref-warning-items.ensures.value) at said,
            ),
          ),
        ),
      );
    }
