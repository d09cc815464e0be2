use Rattle.std.proofs.Common.{◌++◌, ◌∙◌, List, ℕ, string_bytes, ap}
use Rattle.std.specs.Prelude.{codes}
use Rattle.lalrpop_emit.specs.CSource.{rules_text, name_array, kind_enum, array, flags}
use Rattle.lalrpop_emit.proofs.Appended.{grown}
use Rattle.lalrpop_emit.proofs.c_file.push_rules.Goals as goal

pub returns : goal.returns
unfolding rules_text
returns c =
    let p = c.args.prefix.now in
    let names = c.in_ok-push_name_array.ensures ∙ ap (λ (ns : List (List ℕ)). string_bytes c.args.source.now ++ name_array p ns) c.names.ensures in
    let enumerated = c.in_ok-push_kind_enum.ensures ∙ ap (λ (ns : List (List ℕ)). string_bytes c.push_name_array.new.source ++ kind_enum p ns) c.names-2.ensures in
    let kinds = c.in_ok-push_array.ensures ∙ ap (λ (ns : List ℕ). string_bytes c.push_kind_enum.new.source ++ array p (codes "uint16_t $_kinds") ns) c.kinds.ensures in
    let skips = c.in_ok-push_array-2.ensures ∙ ap (λ (ns : List ℕ). string_bytes c.push_array.new.source ++ array p (codes "uint8_t $_skipped") ns)
    (c.deref.ensures.value ∙ c.in_ok-skipped.ensures ∙ ap flags c.skips.ensures) in
    let firsts = c.in_ok-push_array-3.ensures ∙ ap (λ (ns : List ℕ). string_bytes c.push_array-2.new.source ++ array p (codes "uint32_t $_first_actions") ns) c.first_actions-first_actions.ensures in
    let actions = c.in_ok-push_array-4.ensures ∙ ap (λ (ns : List ℕ). string_bytes c.push_array-3.new.source ++ array p (codes "uint32_t $_actions") ns) c.actions.ensures in
    grown (string_bytes c.args.source.now) _ _ _ _ names
    (grown (string_bytes c.push_name_array.new.source) _ _ _ _ enumerated
    (grown (string_bytes c.push_kind_enum.new.source) _ _ _ _ kinds
    (grown (string_bytes c.push_array.new.source) _ _ _ _ skips
    (grown (string_bytes c.push_array-2.new.source) _ _ _ _ firsts actions))))
