use Rattle.std.proofs.Common.{◌++◌, ◌∙◌, ℕ, List, string_bytes, codes, ap}
use Rattle.lalrpop_emit.specs.RustSource.{table_text, list_field}
use Rattle.lalrpop_emit.proofs.Appended.{grown}
use Rattle.lalrpop_emit.proofs.rust_file.push_table.Goals as goal

pub returns : goal.returns
unfolding table_text
returns c =
    let t = c.args.table.now in
    let end = string_bytes c.push_str-2.new.self in
    let blocks = c.in_ok-push_list_field.ensures ∙ ap (λ (ns : List ℕ). string_bytes c.push_str.new.self ++ list_field (codes "            blocks") ns) c.deref.ensures.value in
    let pages = c.in_ok-push_list_field-2.ensures ∙ ap (λ (ns : List ℕ). string_bytes c.push_list_field.new.source ++ list_field (codes "            pages") ns) c.deref-2.ensures.value in
    grown (string_bytes c.args.source.now) (string_bytes c.push_str.new.self) end (codes "        Table {\n") _ c.in_ok-push_str.ensures.bytes
    (grown (string_bytes c.push_str.new.self) (string_bytes c.push_list_field.new.source) end (list_field (codes "            blocks") t.blocks.items) _ blocks
    (grown (string_bytes c.push_list_field.new.source) (string_bytes c.push_list_field-2.new.source) end (list_field (codes "            pages") t.pages.items) (codes "        },\n") pages c.in_ok-push_str-2.ensures.bytes))
