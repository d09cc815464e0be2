use Rattle.std.proofs.Common.{string_bytes}
use Rattle.std.proofs.lemmas.Result.{IfOk-weaker}
use Rattle.lexdfa_lib.specs.Streams.{GivesWhole}
use Rattle.tokens_lib.specs.Emitted.{SourceAnswer}
use Rattle.reports_lib.proofs.RuleLaws.{by_lexer, no_lexer}
use Rattle.tokens_lib.proofs.emitted.emit.Goals as goal

pub returns-in_ok-source_reply-in-Ok : goal.returns-in_ok-source_reply-in-Ok
returns-in_ok-source_reply-in-Ok g c = record {
  answer = IfOk-weaker c.after.result _ _
      (λ answer same. by_lexer c.args.verbosity (GivesWhole (g.F.Files.gives c.args.files.now)) (λ r _. SourceAnswer c.args.language c.args.rules.now r) c.args.rules.now
      c.in-Ok.found.lexer c.in-Ok.found.lexer.mode_names (string_bytes c.in-Ok.found.said) c.in_ok-source_reply-in-Ok.field-0 answer
      (rw c.in-Ok.is at c.in_ok-found.ensures.lexer) c.in_ok-source_reply-in-Ok.ensures.answer same)
      c.after.ensures.followed;
}

pub returns-in-Err : goal.returns-in-Err
returns-in-Err g c = record {
  answer = no_lexer c.args.verbosity (GivesWhole (g.F.Files.gives c.args.files.now)) (λ r _. SourceAnswer c.args.language c.args.rules.now r) c.args.rules.now c.in-Err.reply
      (rw c.in-Err.is at c.in_ok-found.ensures.refused);
}
