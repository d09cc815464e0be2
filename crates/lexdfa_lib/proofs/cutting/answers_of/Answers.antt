use Rattle.std.proofs.Common.{◌≡◌, length, ◌∙◌}
use Rattle.std.proofs.lemmas.List.{length-map}
use Rattle.std.proofs.lemmas.Result.{IfOk-weaker}
use Rattle.lexdfa_lib.specs.Answer.{IsReported}
use Rattle.lexdfa_lib.proofs.CutLemmas.{told_alone}
use Rattle.lalrpop_lexer.proofs.TerminalLemmas.{length-AreTerminals}
use Rattle.lexdfa_lib.proofs.UniqueWhole.{answers-unique}
use Rattle.lexdfa_lib.proofs.cutting.answers_of.Goals as goal
use Rattle.lexdfa_lib.proofs.cutting.answers_of.Goals.{in-Bad, in-NoTree}

pub cut_by-requires : goal.cut_by-requires
cut_by-requires c =
    let said = rw c.in-All.is at c.in_ok-regexs.ensures.said in
    let same : length c.in-All.regexs.items ≡ length c.in-All.precedences.items = length-AreTerminals _ _ _ said ∙ length-map _ _ in
    record { same_len = same }

pub returns-in-All-clause-answers : goal.returns-in-All-clause-answers
returns-in-All-clause-answers c =
    let said = rw c.in-All.is at c.in_ok-regexs.ensures.said in
    IfOk-weaker c.cut_by.result _ _ (λ answers are. are c.args.bytes.now said) c.cut_by.ensures

pub returns-in-All-clause-only : goal.returns-in-All-clause-only
returns-in-All-clause-only c =
    IfOk-weaker c.cut_by.result _ _ (λ answers are outcome written too. answers-unique c.args.bytes.now c.args.text.now _ _ _ _ are too) (returns-in-All-clause-answers c)

pub returns-clause-answers : goal.returns-clause-answers
returns-clause-answers c =
    let reported : IsReported c.args.bytes.now c.match-branch-2.outcome =
    elim c.match-branch-2.branch [
      | in-Bad w ↦ rw w.outcome-is (rw w.in-Bad.is at c.in_ok-regexs.ensures.said)
      | in-NoTree w ↦ rw w.outcome-is (rw w.in-NoTree.is at c.in_ok-regexs.ensures.said)
    ] in
    IfOk-weaker c.with_outcome.result _ _ (λ answers told. told_alone c.args.bytes.now c.args.text.now _ _ _ _ told.0 told.1 c.new.ensures.bytes reported) c.with_outcome.ensures

pub returns-clause-only : goal.returns-clause-only
returns-clause-only c =
    IfOk-weaker c.with_outcome.result _ _ (λ answers are outcome written too. answers-unique c.args.bytes.now c.args.text.now _ _ _ _ are too) (returns-clause-answers c)
