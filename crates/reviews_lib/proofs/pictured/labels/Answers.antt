use Rattle.std.proofs.Common.{◌≡◌, ◌++◌, ◌∷◌, [], ℕ, List, length, map, string_bytes, sym, ap, ◌∙◌, arith}
use Rattle.std.specs.List.{range_with_len}
use Rattle.std.proofs.lemmas.List.{length-map, map-append}
use Rattle.std.proofs.lemmas.List.FromFn.{map-range_with_len_more}
use Rattle.reviews_lib.specs.Pictured.{label}
use Rattle.reviews_lib.proofs.pictured.labels.Goals as goal

pub loop-rule-preserved : goal.loop-rule-preserved
loop-rule-preserved c =
    let of_rule = label c.args.rules.now c.args.rules.now.mode_names in
    let before = c.loop-rule.all.items in
    let n = c.loop-rule.rule in
    ap (map string_bytes) c.in_ok-push.ensures.items ∙ map-append string_bytes before (c.in_ok-text.text ∷ [])
    ∙ ap (λ (t : List ℕ). map string_bytes before ++ t ∷ []) (c.in_ok-text.ensures ∙ ap of_rule c.new.ensures.value)
    ∙ ap (λ (ts : List (List ℕ)). ts ++ of_rule n ∷ []) c.loop-rule.invariant
    ∙ sym (map-range_with_len_more of_rule 0 n n (omega arith))

pub returns : goal.returns
returns c =
    let names = c.names-rule-end.result.now in
    let end : c.loop-rule.rule ≡ length names = omega (arith, c.loop-rule-test.false, c.loop-rule.auto.rule-end) in
    c.loop-rule.invariant
    ∙ ap (λ (n : ℕ). map (label c.args.rules.now c.args.rules.now.mode_names) (range_with_len 0 n))
    (end ∙ sym (length-map names string_bytes) ∙ ap length c.names-rule-end.ensures.names)
