use Rattle.std.proofs.Common.{◌++◌, ◌∙◌, List, ℕ, string_bytes, codes, ap}
use Rattle.std.specs.List.{list_all}
use Rattle.lalrpop_emit.specs.Ahead.{AheadNumbers}
use Rattle.lalrpop_emit.specs.CSource.{is_narrow_ahead}
use Rattle.lalrpop_emit.specs.RustSource.{cell_type, kind_enum, numbers_text, rust_file}
use Rattle.lalrpop_emit.specs.declared.rust_text.TheConstants.{INTERFACE, DRIVER}
use Rattle.lalrpop_emit.proofs.Appended.{grown}
use Rattle.lalrpop_emit.proofs.rust_file.source_text.Goals as goal

pub returns-clause-file : goal.returns-clause-file
unfolding rust_file
returns-clause-file c =
    let r = c.args.numbers.now in
    let end = string_bytes c.push_numbers.new.source in
    let kinds = c.in_ok-push_kind_enum.ensures ∙ ap (λ (ns : List (List ℕ)). string_bytes c.in_ok-source.source ++ kind_enum ns) c.names.ensures in
    let cells = c.in_ok-push_str-4.ensures.bytes ∙ ap (λ (x : List ℕ). string_bytes c.push_str-3.new.self ++ x) (c.cell_type_of.ensures ∙ ap cell_type c.are_narrow_ahead.ensures ∙ ap (λ (xs : List AheadNumbers). cell_type (list_all is_narrow_ahead xs)) c.ahead.ensures) in
    let behind = codes "\ntype AheadCell = " ++ (cell_type (list_all is_narrow_ahead r.ahead) ++ (codes ";\n\n" ++ numbers_text r)) in
    grown (string_bytes c.in_ok-source.source) (string_bytes c.push_kind_enum.new.source) end (kind_enum r.names) _ kinds
    (grown (string_bytes c.push_kind_enum.new.source) (string_bytes c.push_str.new.self) end INTERFACE.now _ c.in_ok-push_str.ensures.bytes
    (grown (string_bytes c.push_str.new.self) (string_bytes c.push_str-2.new.self) end DRIVER.now _ c.in_ok-push_str-2.ensures.bytes
    (grown (string_bytes c.push_str-2.new.self) (string_bytes c.push_str-3.new.self) end (codes "\ntype AheadCell = ") _ c.in_ok-push_str-3.ensures.bytes
    (grown (string_bytes c.push_str-3.new.self) (string_bytes c.push_str-4.new.self) end (cell_type (list_all is_narrow_ahead r.ahead)) _ cells
    (grown (string_bytes c.push_str-4.new.self) (string_bytes c.push_str-5.new.self) end (codes ";\n\n") (numbers_text r) c.in_ok-push_str-5.ensures.bytes c.in_ok-push_numbers.ensures.text)))))
    ∙ ap (λ (x : List ℕ). x ++ (kind_enum r.names ++ (INTERFACE.now ++ (DRIVER.now ++ behind)))) c.in_ok-source.ensures.ok
