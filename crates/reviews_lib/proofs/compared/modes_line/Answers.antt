use Rattle.std.proofs.Common.{map, string_bytes}
use Rattle.reviews_lib.proofs.ComparedLaws.{modes_pushed}
use Rattle.reviews_lib.proofs.compared.modes_line.Goals as goal

pub returns : goal.returns
returns c =
    modes_pushed c.args.old_name.now (map string_bytes c.args.modes.now) c.args.new_name.now (map string_bytes c.args.others.now) _ _ _ _ _ c.new-text.ensures.bytes
    c.in_ok-push_modes.ensures c.in_ok-push_str.ensures.bytes c.in_ok-push_modes-2.ensures c.in_ok-push_str-2.ensures.bytes
