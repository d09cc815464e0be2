use Rattle.std.proofs.Common.{◌++◌, ◌∙◌, ℕ, List, string_bytes, codes, ap}
use Rattle.lalrpop_emit.specs.RustSource.{ahead_text, list_field}
use Rattle.lalrpop_emit.proofs.Appended.{grown}
use Rattle.lalrpop_emit.proofs.rust_file.push_ahead.Goals as goal

pub returns : goal.returns
unfolding ahead_text
returns c =
    let cells = c.in_ok-push_list_field.ensures ∙ ap (λ (ns : List ℕ). string_bytes c.push_number_field-5.new.source ++ list_field (codes "            cells") ns) c.deref.ensures.value in
    grown (string_bytes c.args.source.now) _ _ _ _ c.in_ok-push_str.ensures.bytes
    (grown (string_bytes c.push_str.new.self) _ _ _ _ c.in_ok-push_number_field.ensures
    (grown (string_bytes c.push_number_field.new.source) _ _ _ _ c.in_ok-push_number_field-2.ensures
    (grown (string_bytes c.push_number_field-2.new.source) _ _ _ _ c.in_ok-push_number_field-3.ensures
    (grown (string_bytes c.push_number_field-3.new.source) _ _ _ _ c.in_ok-push_number_field-4.ensures
    (grown (string_bytes c.push_number_field-4.new.source) _ _ _ _ c.in_ok-push_number_field-5.ensures
    (grown (string_bytes c.push_number_field-5.new.source) _ _ _ _ cells c.in_ok-push_str-2.ensures.bytes))))))
