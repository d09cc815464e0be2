use Rattle.std.proofs.Common.{string_bytes, sym, subst}
use Rattle.reviews_lib.proofs.ComparedLaws.{AreLines, no_lines, text_more}
use Rattle.reviews_lib.proofs.compared.difference_text.Goals as goal

pub loop-mode-init : goal.loop-mode-init
loop-mode-init c =
    subst
    (AreLines c.args.old_name.now c.args.old.now c.args.old.now.mode_names c.args.new_name.now c.args.new.now
    c.args.new.now.mode_names 0) (sym c.new-text.ensures.bytes)
    (no_lines c.args.old_name.now c.args.old.now c.args.old.now.mode_names c.args.new_name.now c.args.new.now
    c.args.new.now.mode_names)

pub loop-mode-preserved : goal.loop-mode-preserved
loop-mode-preserved c =
    text_more c.args.old_name.now c.args.old.now c.args.old.now.mode_names c.args.new_name.now c.args.new.now
    c.args.new.now.mode_names c.loop-mode.mode (string_bytes c.loop-mode.text) _ c.loop-mode.invariant c.in_ok-push_mode.ensures
