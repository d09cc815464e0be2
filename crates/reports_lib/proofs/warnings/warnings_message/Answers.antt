use Rattle.std.proofs.Common.{◌≡◌, flat_map, string_bytes, take}
use Rattle.std.proofs.lemmas.List.{take_all}
use Rattle.bajofeki_rules.specs.Lines.{lines}
use Rattle.lalrpop_rule_file.specs.RuleFile.{without_mark}
use Rattle.reports_lib.specs.Warned.{warning_line}
use Rattle.reports_lib.specs.Internal.ModePlaces.{section_at}
use Rattle.reports_lib.proofs.ModePlaces.{sections_told}
use Rattle.reports_lib.proofs.warnings.warnings_message.Goals as goal

pub returns : goal.returns
returns c =
    let ls = lines (without_mark c.args.bytes.now) in
    let found = c.in_ok-warnings.ensures in
    let said : string_bytes c.loop-warning.message ≡ flat_map (warning_line c.args.name.now (section_at (lines c.without_mark-text.result.now)) c.args.file.now) (take c.loop-warning.warning-index c.deref-warning-items.result.now) =
    c.loop-warning.invariant in
    record {
      message = (
        section_at ls,
        (
          sections_told ls,
          (
            c.in_ok-warnings.warnings.items,
            (
              record { all = found.all; in_order = found.in_order },
              rw (take_all _ _ c.loop-warning-test.false, c.without_mark-text.ensures, c.deref-warning-items.ensures.value) at said,
            ),
          ),
        ),
      );
    }
