use Rattle.std.proofs.Common.{◌++◌, ◌∙◌, ℕ, List, string_bytes, codes, ap}
use Rattle.lalrpop_dense.specs.DenseTable.{TableNumbers}
use Rattle.lalrpop_emit.specs.Ahead.{AheadNumbers}
use Rattle.lalrpop_emit.specs.CSource.{flags}
use Rattle.lalrpop_emit.specs.RustSource.{ahead_texts, list_field, name_fields, numbers_text, table_texts}
use Rattle.lalrpop_emit.proofs.Appended.{grown}
use Rattle.lalrpop_emit.proofs.rust_file.push_numbers.Goals as goal

pub returns-clause-text : goal.returns-clause-text
unfolding numbers_text
returns-clause-text c =
    let r = c.args.numbers.now in
    let end = string_bytes c.push_str-4.new.self in
    let names = c.in_ok-push_name_fields.ensures ∙ ap (λ (ns : List (List ℕ)). string_bytes c.push_str.new.self ++ name_fields ns) c.names.ensures in
    let kinds = c.in_ok-push_list_field.ensures ∙ ap (λ (ns : List ℕ). string_bytes c.push_name_fields.new.source ++ list_field (codes "    kinds") ns) c.kinds.ensures in
    let skipped = c.in_ok-push_list_field-2.ensures ∙ ap (λ (ns : List ℕ). string_bytes c.push_list_field.new.source ++ list_field (codes "    skipped") ns) (c.deref.ensures.value ∙ c.in_ok-skipped.ensures ∙ ap flags c.skips.ensures) in
    let firsts = c.in_ok-push_list_field-3.ensures ∙ ap (λ (ns : List ℕ). string_bytes c.push_list_field-2.new.source ++ list_field (codes "    first_actions") ns) c.first_actions.ensures in
    let actions = c.in_ok-push_list_field-4.ensures ∙ ap (λ (ns : List ℕ). string_bytes c.push_list_field-3.new.source ++ list_field (codes "    actions") ns) c.actions.ensures in
    let tables = c.in_ok-push_tables.ensures ∙ ap (λ (ts : List TableNumbers). string_bytes c.push_str-2.new.self ++ table_texts ts) c.tables.ensures.table in
    let aheads = c.in_ok-push_aheads.ensures ∙ ap (λ (xs : List AheadNumbers). string_bytes c.push_str-3.new.self ++ ahead_texts xs) c.ahead.ensures in
    grown (string_bytes c.args.source.now) (string_bytes c.push_str.new.self) end (codes "#[rustfmt::skip]\nstatic NUMBERS: Numbers = Numbers {\n") _ c.in_ok-push_str.ensures.bytes
    (grown (string_bytes c.push_str.new.self) (string_bytes c.push_name_fields.new.source) end (name_fields r.names) _ names
    (grown (string_bytes c.push_name_fields.new.source) (string_bytes c.push_list_field.new.source) end (list_field (codes "    kinds") r.kinds) _ kinds
    (grown (string_bytes c.push_list_field.new.source) (string_bytes c.push_list_field-2.new.source) end (list_field (codes "    skipped") (flags r.skips)) _ skipped
    (grown (string_bytes c.push_list_field-2.new.source) (string_bytes c.push_list_field-3.new.source) end (list_field (codes "    first_actions") r.first_actions) _ firsts
    (grown (string_bytes c.push_list_field-3.new.source) (string_bytes c.push_list_field-4.new.source) end (list_field (codes "    actions") r.actions) _ actions
    (grown (string_bytes c.push_list_field-4.new.source) (string_bytes c.push_str-2.new.self) end (codes "    tables: &[\n") _ c.in_ok-push_str-2.ensures.bytes
    (grown (string_bytes c.push_str-2.new.self) (string_bytes c.push_tables.new.source) end (table_texts r.tables) _ tables
    (grown (string_bytes c.push_tables.new.source) (string_bytes c.push_str-3.new.self) end (codes "    ],\n    ahead: &[\n") _ c.in_ok-push_str-3.ensures.bytes
    (grown (string_bytes c.push_str-3.new.self) (string_bytes c.push_aheads.new.source) end (ahead_texts r.ahead) (codes "    ],\n};\n") aheads c.in_ok-push_str-4.ensures.bytes)))))))))
