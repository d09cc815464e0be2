use Rattle.std.proofs.Common.{◌≡◌, ◌++◌, ℕ, List, flat_map, map, string_bytes, sym, ap, ◌∙◌}
use Rattle.std.specs.Prelude.{Option}
use Rattle.std.proofs.lemmas.List.{take_all}
use Rattle.bajofeki_rules.specs.declared.action.Action.{Action}
use Rattle.lalrpop_review.specs.Apart.{told}
use Rattle.reviews_lib.specs.Compared.{action_text, token_text}
use Rattle.reviews_lib.proofs.ComparedLaws.{token_pushed}
use Rattle.reviews_lib.proofs.compared.push_token.Goals as goal

pub returns : goal.returns
returns c =
    let modes = map string_bytes c.args.modes.now in
    let r = c.args.lexer.now in
    let acts = c.actions-action-items.result.now in
    let skipping = string_bytes c.push_skip.new.text in
    let all : string_bytes c.loop-action.text ≡ skipping ++ flat_map (action_text modes) acts =
    c.loop-action.invariant ∙ ap (λ (xs : List Action). skipping ++ flat_map (action_text modes) xs) (take_all c.loop-action.action-index acts c.loop-action-test.false) in
    token_pushed modes r c.in-Some.rule (string_bytes c.args.text.now) _ skipping (string_bytes c.loop-action.text) c.rule_name.result.now c.is_skipped.result acts
    c.rule_name.ensures c.is_skipped.ensures c.actions-action-items.ensures.actions c.in_ok-push_str.ensures.bytes c.in_ok-push_skip.ensures all
    ∙ ap (λ (o : Option ℕ). string_bytes c.args.text.now ++ token_text modes (told r o)) (sym c.in-Some.is)
