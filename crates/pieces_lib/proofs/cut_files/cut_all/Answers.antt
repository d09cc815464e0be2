use Rattle.std.proofs.Common.{◌≡◌, ℕ, List, Bor, length, map, sym, ap, ◌∙◌}
use Rattle.std.proofs.lemmas.Bool.{eqb-false, eqb-true}
use Rattle.std.proofs.lemmas.List.{length-map}
use Rattle.std.proofs.lemmas.Result.{IfOk-weaker, IfErr-weaker}
use Rattle.pieces_lib.specs.Tasks.{TaskAnswer, TaskPart}
use Rattle.pieces_lib.specs.Progress.{total_said}
use Rattle.pieces_lib.proofs.AnswerLaws.{Answers-weaker, Fails-weaker}
use Rattle.pieces_lib.proofs.FilesLaws.{cut_named, cut_unnamed, texts_answered, texts_begun}
use Rattle.pieces_lib.proofs.cut_files.cut_all.Goals as goal

abbrev text : Bor (List ℕ) → List ℕ
text name = name.now

pub returns-then-is_empty-clause-answer : goal.returns-then-is_empty-clause-answer
returns-then-is_empty-clause-answer g c =
    let n : length (map text c.args.names.now) ≡ length c.args.names.now = length-map c.args.names.now text in
    IfOk-weaker c.cut_each.result _ _
    (λ status. Answers-weaker _ _ _ _ status (texts_answered (g.F.Files.gives c.args.files.now) (TaskAnswer c.args.task.now) (TaskPart c.args.task.now) c.args.input.now c.cut_each.new.input
    c.args.verbosity _ _ (map text c.args.names.now)
    (c.total_said-total.ensures.total ∙ ap (total_said c.args.verbosity) (sym n))
    (sym (cut_unnamed (map text c.args.names.now) (n ∙ eqb-true (length c.args.names.now) 0 (sym c.is_empty.ensures ∙ c.if-is_empty.true))))))
    c.cut_each.ensures.answer

pub returns-else-is_empty-clause-answer : goal.returns-else-is_empty-clause-answer
returns-else-is_empty-clause-answer g c =
    let n : length (map text c.args.names.now) ≡ length c.args.names.now = length-map c.args.names.now text in
    IfOk-weaker c.cut_each-else-is_empty.result _ _
    (λ status. Answers-weaker _ _ _ _ status (texts_answered (g.F.Files.gives c.args.files.now) (TaskAnswer c.args.task.now) (TaskPart c.args.task.now) c.args.input.now
    c.cut_each-else-is_empty.new.input c.args.verbosity _ (map text c.args.names.now) (map text c.args.names.now)
    (c.total_said-total.ensures.total ∙ ap (total_said c.args.verbosity) (sym n))
    (sym (cut_named (map text c.args.names.now) (λ e. eqb-false (length c.args.names.now) 0 (sym c.is_empty.ensures ∙ c.if-is_empty.false) (sym n ∙ e))))))
    c.cut_each-else-is_empty.ensures.answer

pub returns-then-is_empty-clause-fails : goal.returns-then-is_empty-clause-fails
returns-then-is_empty-clause-fails g c =
    let n : length (map text c.args.names.now) ≡ length c.args.names.now = length-map c.args.names.now text in
    IfErr-weaker c.cut_each.result _ _
    (λ e. Fails-weaker _ _ c.args.console.now c.cut_each.new.console e (texts_begun (g.F.Files.gives c.args.files.now) (TaskAnswer c.args.task.now) (TaskPart c.args.task.now) c.args.input.now c.cut_each.new.input
    c.args.verbosity _ _ (map text c.args.names.now)
    (c.total_said-total.ensures.total ∙ ap (total_said c.args.verbosity) (sym n))
    (sym (cut_unnamed (map text c.args.names.now) (n ∙ eqb-true (length c.args.names.now) 0 (sym c.is_empty.ensures ∙ c.if-is_empty.true))))))
    c.cut_each.ensures.fails

pub returns-else-is_empty-clause-fails : goal.returns-else-is_empty-clause-fails
returns-else-is_empty-clause-fails g c =
    let n : length (map text c.args.names.now) ≡ length c.args.names.now = length-map c.args.names.now text in
    IfErr-weaker c.cut_each-else-is_empty.result _ _
    (λ e. Fails-weaker _ _ c.args.console.now c.cut_each-else-is_empty.new.console e (texts_begun (g.F.Files.gives c.args.files.now) (TaskAnswer c.args.task.now) (TaskPart c.args.task.now) c.args.input.now
    c.cut_each-else-is_empty.new.input c.args.verbosity _ (map text c.args.names.now) (map text c.args.names.now)
    (c.total_said-total.ensures.total ∙ ap (total_said c.args.verbosity) (sym n))
    (sym (cut_named (map text c.args.names.now) (λ e. eqb-false (length c.args.names.now) 0 (sym c.is_empty.ensures ∙ c.if-is_empty.false) (sym n ∙ e))))))
    c.cut_each-else-is_empty.ensures.fails
