use Rattle.std.proofs.Common.{inr}
use Rattle.std.proofs.lemmas.Result.{IfOk-weaker}
use Rattle.bajofeki_rules.specs.Lines.{lines}
use Rattle.lalrpop_rule_file.specs.RuleFile.{without_mark}
use Rattle.reports_lib.specs.WarningsSaid.{IsFileOf}
use Rattle.reviews_lib.proofs.listing.list_in.Goals as goal

pub returns-in_ok-list_by-in-Ok : goal.returns-in_ok-list_by-in-Ok
returns-in_ok-list_by-in-Ok c =
    let file = c.in-Ok.file in
    let are : IsFileOf (lines (without_mark c.args.bytes.now)) file =
    record { rules = c.in-Ok.ensures.rules; places = c.in-Ok.ensures.places; parts = c.in-Ok.ensures.parts; part_lines = c.in-Ok.ensures.part_lines } in
    let first = c.in_ok-first-in-Ok.ensures.told in
    record {
      answer = IfOk-weaker c.following.result _ _
          (λ answer same. inr (
            first.0,
            ((file, (are, first.1.0)), (c.in_ok-list_by-in-Ok.field-0, (c.in_ok-list_by-in-Ok.ensures.answer, rw first.1.1 at same))),
          ))
          c.following.ensures.followed;
    }
