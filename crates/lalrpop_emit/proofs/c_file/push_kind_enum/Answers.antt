use Rattle.std.proofs.Common.{string_bytes}
use Rattle.lalrpop_emit.specs.CSource.{kind_enum}
use Rattle.lalrpop_emit.proofs.Appended.{grown}
use Rattle.lalrpop_emit.proofs.c_file.push_kind_enum.Goals as goal

pub returns : goal.returns
unfolding kind_enum
returns c =
    grown (string_bytes c.args.source.now) _ _ _ _ c.in_ok-push_str.ensures.bytes
    (grown (string_bytes c.push_str.new.self) _ _ _ _ c.in_ok-push_enumerators.ensures c.in_ok-push_filled.ensures)
