use Rattle.std.proofs.Common.{string_bytes}
use Rattle.lalrpop_emit.specs.CSource.{row_arrays}
use Rattle.lalrpop_emit.proofs.Appended.{grown}
use Rattle.lalrpop_emit.proofs.c_file.push_row_arrays.Goals as goal

pub returns : goal.returns
unfolding row_arrays
returns c =
    grown (string_bytes c.args.source.now) _ _ _ _ c.in_ok-push_filled.ensures
    (grown (string_bytes c.push_filled.new.source) _ _ _ _ c.in_ok-push_decimal.ensures
    (grown (string_bytes c.push_decimal.new.source) _ _ _ _ c.in_ok-push_filled-2.ensures c.in_ok-push_decimal-2.ensures))
