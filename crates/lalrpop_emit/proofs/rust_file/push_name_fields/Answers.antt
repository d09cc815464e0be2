use Rattle.std.proofs.Common.{string_bytes, codes, map}
use Rattle.lalrpop_emit.specs.RustSource.{name_fields, name_lines}
use Rattle.lalrpop_emit.proofs.Appended.{grown}
use Rattle.lalrpop_emit.proofs.rust_file.push_name_fields.Goals as goal

pub returns : goal.returns
unfolding name_fields
returns c =
    let names = map string_bytes c.args.names.now in
    let variants = name_lines (codes "        Kind::r#") (codes ",\n") names in
    let quoted = name_lines (codes "        \"") (codes "\",\n") names in
    let end = string_bytes c.push_str-3.new.self in
    grown (string_bytes c.args.source.now) (string_bytes c.push_str.new.self) end (codes "    variants: &[\n") _ c.in_ok-push_str.ensures.bytes
    (grown (string_bytes c.push_str.new.self) (string_bytes c.push_name_lines.new.source) end variants _ c.in_ok-push_name_lines.ensures
    (grown (string_bytes c.push_name_lines.new.source) (string_bytes c.push_str-2.new.self) end (codes "    ],\n    names: &[\n") _ c.in_ok-push_str-2.ensures.bytes
    (grown (string_bytes c.push_str-2.new.self) (string_bytes c.push_name_lines-2.new.source) end quoted (codes "    ],\n") c.in_ok-push_name_lines-2.ensures c.in_ok-push_str-3.ensures.bytes)))
