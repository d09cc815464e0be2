use Rattle.std.proofs.Common.{string_bytes, codes, map}
use Rattle.lalrpop_emit.specs.RustSource.{kind_enum, name_lines}
use Rattle.lalrpop_emit.proofs.Appended.{grown}
use Rattle.lalrpop_emit.proofs.rust_file.push_kind_enum.Goals as goal

pub returns : goal.returns
unfolding kind_enum
returns c =
    let lines = name_lines (codes "    r#") (codes ",\n") (map string_bytes c.args.names.now) in
    let end = string_bytes c.push_str-2.new.self in
    grown (string_bytes c.args.source.now) (string_bytes c.push_str.new.self) end (codes "pub enum Kind {\n") _ c.in_ok-push_str.ensures.bytes
    (grown (string_bytes c.push_str.new.self) (string_bytes c.push_name_lines.new.source) end lines (codes "}\n") c.in_ok-push_name_lines.ensures c.in_ok-push_str-2.ensures.bytes)
