use Rattle.std.proofs.Common.{string_bytes}
use Rattle.std.proofs.lemmas.Result.{IfOk-weaker}
use Rattle.reviews_lib.specs.Compared.{OtherAnswer}
use Rattle.reports_lib.proofs.RuleLaws.{by_rules, no_rules}
use Rattle.reviews_lib.proofs.differing.difference_answer.Goals as goal

pub returns-in_ok-compare_bytes-in-Ok : goal.returns-in_ok-compare_bytes-in-Ok
returns-in_ok-compare_bytes-in-Ok c = record {
  answer = IfOk-weaker c.after.result _ _
      (λ answer same. by_rules c.args.verbosity (λ r modes. OtherAnswer c.args.verbosity c.args.name.now r modes c.args.other.now c.args.others.now) c.args.name.now
      c.args.bytes.now c.in-Ok.found.lexer c.in-Ok.found.lexer.mode_names (string_bytes c.in-Ok.found.said) c.in_ok-compare_bytes-in-Ok.field-0 answer
      (rw c.in-Ok.is at c.in_ok-found.ensures.lexer) (rw c.in-Ok.is at c.in_ok-found.ensures.warned) c.in_ok-compare_bytes-in-Ok.ensures.answer same)
      c.after.ensures.followed;
}

pub returns-in-Err : goal.returns-in-Err
returns-in-Err c = record {
  answer = no_rules c.args.verbosity (λ r modes. OtherAnswer c.args.verbosity c.args.name.now r modes c.args.other.now c.args.others.now) c.args.name.now
      c.args.bytes.now c.in-Err.reply (rw c.in-Err.is at c.in_ok-found.ensures.refused);
}
