use Rattle.std.proofs.Common.{◌++◌, ◌∙◌, Bool, string_bytes, ap}
use Rattle.std.specs.Prelude.{codes}
use Rattle.lalrpop_emit.specs.CSource.{ahead_text, cell_typedef}
use Rattle.lalrpop_emit.proofs.Appended.{grown}
use Rattle.lalrpop_emit.proofs.c_file.push_ahead.Goals as goal

pub returns : goal.returns
unfolding ahead_text
returns c =
    let p = c.args.prefix.now in
    let cells = c.in_ok-push_cell_typedef.ensures ∙ ap (λ (b : Bool). string_bytes c.args.source.now ++ cell_typedef p b (codes "$_ahead_cell;\n")) c.are_narrow_ahead.ensures in
    grown (string_bytes c.args.source.now) _ _ _ _ cells
    (grown (string_bytes c.push_cell_typedef.new.source) _ _ _ _ c.in_ok-push_filled.ensures
    (grown (string_bytes c.push_filled.new.source) _ _ _ _ c.in_ok-push_ahead_arrays.ensures
    (grown (string_bytes c.push_ahead_arrays.new.source) _ _ _ _ c.in_ok-push_filled-2.ensures
    (grown (string_bytes c.push_filled-2.new.source) _ _ _ _ c.in_ok-push_ahead_rows.ensures c.in_ok-push_str.ensures.bytes))))
