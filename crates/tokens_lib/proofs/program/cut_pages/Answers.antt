use Rattle.std.proofs.Common.{List, ℕ, Bor, map, string_bytes}
use Rattle.std.proofs.lemmas.Result.{IfOk-weaker, IfErr-weaker, err_from_is_err_and}
use Rattle.lexdfa_lib.specs.Streams.{GivesWhole}
use Rattle.pieces_lib.specs.FileAnswers.{TextsAnswer, FirstTextsAnswer}
use Rattle.pieces_lib.specs.TextAnswer.{PageAnswer, PagePart}
use Rattle.pieces_lib.proofs.AnswerLaws.{fails_of_memory}
use Rattle.tokens_lib.proofs.RuleLaws.{lexer_answers, lexer_fails, lexer_unsaid, reply_answers, reply_fails, no_texts}
use Rattle.reports_lib.proofs.RuleLaws.{no_lexer}
use Rattle.tokens_lib.proofs.program.cut_pages.Goals as goal

abbrev text : Bor (List ℕ) → List ℕ
text name = name.now

pub returns-in_err-found-clause-fails : goal.returns-in_err-found-clause-fails
returns-in_err-found-clause-fails g c = fails_of_memory _ _ c.args.console.now c.from_residual.ensures.1

pub returns-in_err-say-in-Ok-clause-fails : goal.returns-in_err-say-in-Ok-clause-fails
returns-in_err-say-in-Ok-clause-fails g c =
    let p = err_from_is_err_and c.from_residual-in_err-say-in-Ok.result c.from_residual-in_err-say-in-Ok.ensures.1 in
    let names = map text c.args.names.now in
    rw (p.1, p.2)
    (lexer_unsaid c.args.verbosity (GivesWhole (g.F.Files.gives c.args.files.now))
    (λ r modes. FirstTextsAnswer (g.F.Files.gives c.args.files.now) c.args.input.now c.args.verbosity (PageAnswer r modes c.args.markup) (PagePart r modes c.args.markup) (map text c.args.names.now))
    c.args.rules.now c.in-Ok.found.lexer c.in-Ok.found.lexer.mode_names (string_bytes c.in-Ok.found.said)
    (rw c.in-Ok.is at c.in_ok-found.ensures.lexer) c.args.console.now c.say.new.self
    (no_texts (g.F.Files.gives c.args.files.now) c.args.input.now c.args.verbosity
    (PageAnswer c.in-Ok.found.lexer c.in-Ok.found.lexer.mode_names c.args.markup)
    (PagePart c.in-Ok.found.lexer c.in-Ok.found.lexer.mode_names c.args.markup) names) _
    (rw c.as_str.ensures.value at c.in_err-say-in-Ok.ensures.fails))

pub returns-in_ok-say-in-Ok-clause-answer : goal.returns-in_ok-say-in-Ok-clause-answer
returns-in_ok-say-in-Ok-clause-answer g c =
    let names = map text c.args.names.now in
    IfOk-weaker c.cut_all.result _ _
    (λ status. lexer_answers c.args.verbosity (GivesWhole (g.F.Files.gives c.args.files.now))
    (λ r modes. TextsAnswer (g.F.Files.gives c.args.files.now) c.args.input.now c.cut_all.new.input c.args.verbosity (PageAnswer r modes c.args.markup) (PagePart r modes c.args.markup) (map text c.args.names.now))
    c.args.rules.now c.in-Ok.found.lexer c.in-Ok.found.lexer.mode_names (string_bytes c.in-Ok.found.said)
    (rw c.in-Ok.is at c.in_ok-found.ensures.lexer) c.args.console.now c.say.new.self c.cut_all.new.console status
    (rw c.as_str.ensures.value at c.in_ok-say-in-Ok.ensures.said))
    (c.cut_all.ensures.answer)

pub returns-in_ok-say-in-Ok-clause-fails : goal.returns-in_ok-say-in-Ok-clause-fails
returns-in_ok-say-in-Ok-clause-fails g c =
    let names = map text c.args.names.now in
    IfErr-weaker c.cut_all.result _ _
    (λ e. lexer_fails c.args.verbosity (GivesWhole (g.F.Files.gives c.args.files.now))
    (λ r modes. FirstTextsAnswer (g.F.Files.gives c.args.files.now) c.args.input.now c.args.verbosity (PageAnswer r modes c.args.markup) (PagePart r modes c.args.markup) (map text c.args.names.now))
    c.args.rules.now c.in-Ok.found.lexer c.in-Ok.found.lexer.mode_names (string_bytes c.in-Ok.found.said)
    (rw c.in-Ok.is at c.in_ok-found.ensures.lexer) c.args.console.now c.say.new.self
    (no_texts (g.F.Files.gives c.args.files.now) c.args.input.now c.args.verbosity
    (PageAnswer c.in-Ok.found.lexer c.in-Ok.found.lexer.mode_names c.args.markup)
    (PagePart c.in-Ok.found.lexer c.in-Ok.found.lexer.mode_names c.args.markup) names) c.cut_all.new.console e
    (rw c.as_str.ensures.value at c.in_ok-say-in-Ok.ensures.said))
    (c.cut_all.ensures.fails)

pub returns-in-Err-clause-answer : goal.returns-in-Err-clause-answer
returns-in-Err-clause-answer g c =
    IfOk-weaker c.give.result _ _
    (λ status. reply_answers _ c.in-Err.reply c.args.console.now c.give.new.self status
    (no_lexer c.args.verbosity (GivesWhole (g.F.Files.gives c.args.files.now)) _ c.args.rules.now c.in-Err.reply (rw c.in-Err.is at c.in_ok-found.ensures.refused)))
    c.give.ensures.answer

pub returns-in-Err-clause-fails : goal.returns-in-Err-clause-fails
returns-in-Err-clause-fails g c =
    IfErr-weaker c.give.result _ _
    (λ e. reply_fails _ c.in-Err.reply c.args.console.now c.give.new.self e
    (no_lexer c.args.verbosity (GivesWhole (g.F.Files.gives c.args.files.now)) _ c.args.rules.now c.in-Err.reply (rw c.in-Err.is at c.in_ok-found.ensures.refused)))
    c.give.ensures.fails
