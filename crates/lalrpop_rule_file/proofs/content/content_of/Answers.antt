use Rattle.std.proofs.Common.{◌≡◌, ℕ, ◌-◌, List, ◌∷◌, ◌++◌, refl, sym, ap, subst, length, take, drop, lit<, ◌∙◌}
use Rattle.std.proofs.lemmas.List.{take-append-drop}
use Rattle.std.proofs.lemmas.Str.Pattern.{drop_at_char}
use Rattle.bajofeki_rules.specs.Position.{position_of}
use Rattle.lalrpop_rule_file.specs.Words.{EachByte, IsSpan}
use Rattle.lalrpop_rule_file.specs.RuleFile.{is_no_return, without_return}
use Rattle.lalrpop_rule_file.proofs.Closings.{no_char}
use Rattle.lalrpop_rule_file.proofs.Stopping.{behind_front}
use Rattle.lalrpop_rule_file.proofs.StoppingLaws.{return_inside}
use Rattle.lalrpop_rule_file.proofs.content.content_of.Goals as goal

pub column_of-requires : goal.column_of-requires
column_of-requires c =
    let content = c.without_return-content.result.now in
    rw c.range_from.ensures.value (take c.in-Some.at content, sym (take-append-drop c.in-Some.at content))

pub returns-in-Some-clause-error : goal.returns-in-Some-clause-error
returns-in-Some-clause-error c =
    let content = c.without_return-content.result.now in
    let at = c.in-Some.at in
    let found = c.in-Some.ensures.cases in
    let front : List ℕ = take at content in
    let rest : List ℕ = drop found.0 content in
    let tail : drop at content ≡ 13 ∷ rest = drop_at_char 13 content at found.0 found.1.1 (lit< tt) in
    let parts : content ≡ front ++ drop at content = sym (take-append-drop at content) in
    let span : IsSpan is_no_return content front (13 ∷ rest) = record { parts = parts ∙ ap (λ (x : List ℕ). front ++ x) tail; passes = no_char 13 front (lit< tt) found.1.0; stops = refl } in
    let there : c.column_of.result ≡ (position_of content (length content - length (drop at content))).column = rw c.range_from.ensures.value at c.column_of.ensures in
    let column : c.column_of.result ≡ (position_of content (length front)).column =
    there ∙ ap (λ (n : ℕ). (position_of content n).column) (behind_front front (drop at content) content parts) in
    let inside =
    return_inside c.args.line.now content front rest c.column_of.result c.in_ok-text_of.ensures.utf8 (c.without_return-content.ensures ∙ ap without_return c.in_ok-text_of.ensures.text) span column in
    (refl, inside.0, inside.1)

pub returns-in-None-clause-text : goal.returns-in-None-clause-text
returns-in-None-clause-text c =
    let content = c.without_return-content.result.now in
    let is : content ≡ without_return c.args.line.now = c.without_return-content.ensures ∙ ap without_return c.in_ok-text_of.ensures.text in
    (c.in_ok-text_of.ensures.utf8, subst (EachByte is_no_return) is (no_char 13 content (lit< tt) c.in-None.ensures.cases))
