use Rattle.std.proofs.Common.{string_bytes}
use Rattle.lalrpop_emit.specs.CSource.{ahead_row}
use Rattle.lalrpop_emit.proofs.Appended.{grown}
use Rattle.lalrpop_emit.proofs.c_file.push_ahead_row.Goals as goal

pub returns : goal.returns
unfolding ahead_row
returns c =
    grown (string_bytes c.args.source.now) _ _ _ _ c.in_ok-push_filled.ensures
    (grown (string_bytes c.push_filled.new.source) _ _ _ _ c.in_ok-push_decimal.ensures
    (grown (string_bytes c.push_decimal.new.source) _ _ _ _ c.in_ok-push_field.ensures
    (grown (string_bytes c.push_field.new.source) _ _ _ _ c.in_ok-push_field-2.ensures
    (grown (string_bytes c.push_field-2.new.source) _ _ _ _ c.in_ok-push_field-3.ensures
    (grown (string_bytes c.push_field-3.new.source) _ _ _ _ c.in_ok-push_field-4.ensures
    (grown (string_bytes c.push_field-4.new.source) _ _ _ _ c.in_ok-push_field-5.ensures c.in_ok-push_str.ensures.bytes))))))
