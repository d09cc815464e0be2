use Rattle.std.proofs.Common.{◌≡◌, ℕ, ◌++◌, map, decimal, string_bytes, sym, subst}
use Rattle.std.proofs.lemmas.List.{length-map}
use Rattle.std.specs.Prelude.{codes}
use Rattle.lalrpop_emit.specs.CSource.{filled, name_array, quoted_names}
use Rattle.lalrpop_emit.proofs.Appended.{grown}
use Rattle.lalrpop_emit.proofs.c_file.push_name_array.Goals as goal

pub returns : goal.returns
unfolding name_array
returns c =
    let source = string_bytes c.args.source.now in
    let front = filled c.args.prefix.now (codes "#ifndef $_header\nstatic const char *const $_names[") in
    let names = map string_bytes c.args.names.now in
    subst (λ (n : ℕ). string_bytes c.push_str-2.new.self ≡ source ++ (front ++ (decimal n ++ (codes "] = {\n" ++ (quoted_names names ++ codes "};\n"))))) (sym (length-map c.args.names.now string_bytes))
    (grown source _ _ _ _ c.in_ok-push_filled.ensures
    (grown (string_bytes c.push_filled.new.source) _ _ _ _ c.in_ok-push_decimal.ensures
    (grown (string_bytes c.push_decimal.new.source) _ _ _ _ c.in_ok-push_str.ensures.bytes
    (grown (string_bytes c.push_str.new.self) _ _ _ _ c.in_ok-push_quoted_names.ensures c.in_ok-push_str-2.ensures.bytes))))
