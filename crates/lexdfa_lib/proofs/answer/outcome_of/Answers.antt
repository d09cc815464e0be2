use Rattle.std.proofs.Common.{◌≡◌, length, inl, ◌∙◌}
use Rattle.std.proofs.lemmas.List.{length-map}
use Rattle.std.proofs.lemmas.Result.{IfOk-weaker}
use Rattle.lalrpop_lexer.proofs.TerminalLemmas.{length-AreTerminals}
use Rattle.lexdfa_lib.proofs.Unique.{outcome-unique}
use Rattle.lexdfa_lib.proofs.answer.outcome_of.Goals as goal

pub find-requires : goal.find-requires
find-requires c =
    let said = rw c.in-All.is at c.in_ok-regexs.ensures.said in
    let same : length c.in-All.regexs.items ≡ length c.in-All.precedences.items = length-AreTerminals _ _ _ said ∙ length-map _ _ in
    record { same_len = rw (c.deref.ensures.value, c.deref-in-All.ensures.value) same }

pub returns-in-All-clause-outcome : goal.returns-in-All-clause-outcome
returns-in-All-clause-outcome c =
    let said = rw c.in-All.is at c.in_ok-regexs.ensures.said in
    IfOk-weaker c.find.result _ _
    (λ outcome finds. finds c.args.bytes.now (rw (c.deref.ensures.value, c.deref-in-All.ensures.value) said))
    c.find.ensures

pub returns-in-All-clause-only : goal.returns-in-All-clause-only
returns-in-All-clause-only c = IfOk-weaker c.find.result _ _ (λ outcome is other. outcome-unique c.args.bytes.now c.args.text.now outcome other is) (returns-in-All-clause-outcome c)

pub returns-in-Bad-clause-only : goal.returns-in-Bad-clause-only
returns-in-Bad-clause-only c =
    let bad = rw c.in-Bad.is at c.in_ok-regexs.ensures.said in
    λ other is. outcome-unique c.args.bytes.now c.args.text.now _ other (inl bad) is

pub returns-in-NoTree-clause-only : goal.returns-in-NoTree-clause-only
returns-in-NoTree-clause-only c =
    let none = rw c.in-NoTree.is at c.in_ok-regexs.ensures.said in
    λ other is. outcome-unique c.args.bytes.now c.args.text.now _ other (inl none) is
