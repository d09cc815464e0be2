use Rattle.std.proofs.Common.{string_bytes}
use Rattle.lalrpop_emit.specs.CSource.{mode_count}
use Rattle.lalrpop_emit.proofs.Appended.{grown}
use Rattle.lalrpop_emit.proofs.c_file.push_mode_count.Goals as goal

pub returns : goal.returns
unfolding mode_count
returns c =
    grown (string_bytes c.args.source.now) _ _ _ _ c.in_ok-push_filled.ensures
    (grown (string_bytes c.push_filled.new.source) _ _ _ _ c.in_ok-push_decimal.ensures c.in_ok-push_str.ensures.bytes)
