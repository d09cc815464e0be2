use Rattle.std.proofs.Common.{string_bytes}
use Rattle.reviews_lib.proofs.ComparedLaws.{AreLines}
use Rattle.reviews_lib.proofs.compared.difference_text.Given as goal

abbrev pub invariant-loop-mode : goal.invariant-loop-mode
invariant-loop-mode l =
    AreLines l.old_name l.old l.old.mode_names l.new_name l.new l.new.mode_names l.mode (string_bytes l.text)
