use Rattle.std.proofs.Common.{map, string_bytes}
use Rattle.std.proofs.lemmas.Result.{IfOk-weaker}
use Rattle.lexdfa_lib.specs.Streams.{GivesWhole}
use Rattle.reviews_lib.specs.Compared.{ComparedAnswer, other_of}
use Rattle.reports_lib.proofs.RuleLaws.{by_lexer, no_lexer}
use Rattle.reviews_lib.proofs.differing.compare.Goals as goal

pub returns-in_ok-compare_with-in-Ok : goal.returns-in_ok-compare_with-in-Ok
returns-in_ok-compare_with-in-Ok g c = record {
  answer = IfOk-weaker c.after.result _ _
      (λ answer same. by_lexer c.args.verbosity (GivesWhole (g.F.Files.gives c.args.files.now)) (λ r modes. ComparedAnswer (GivesWhole (g.F.Files.gives c.args.files.now)) c.args.verbosity c.args.rules.now r modes (other_of (map (λ name. name.now) c.args.names.now))) c.args.rules.now
      c.in-Ok.found.lexer c.in-Ok.found.lexer.mode_names (string_bytes c.in-Ok.found.said) c.in_ok-compare_with-in-Ok.field-0 answer
      (rw c.in-Ok.is at c.in_ok-found.ensures.lexer) (rw c.other_of-other.ensures.other at c.in_ok-compare_with-in-Ok.ensures.answer) same)
      c.after.ensures.followed;
}

pub returns-in-Err : goal.returns-in-Err
returns-in-Err g c = record {
  answer = no_lexer c.args.verbosity (GivesWhole (g.F.Files.gives c.args.files.now)) (λ r modes. ComparedAnswer (GivesWhole (g.F.Files.gives c.args.files.now)) c.args.verbosity c.args.rules.now r modes (other_of (map (λ name. name.now) c.args.names.now))) c.args.rules.now c.in-Err.reply
      (rw c.in-Err.is at c.in_ok-found.ensures.refused);
}
