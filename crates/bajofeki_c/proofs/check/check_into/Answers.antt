use Rattle.std.proofs.Common.{inl}
use Rattle.bajofeki_c.specs.Check.{IsCheckAnswer, form_of}
use Rattle.bajofeki_c.proofs.Answering.{is_answered}
use Rattle.bajofeki_c.proofs.check.check_into.Goals as goal

pub returns : goal.returns
returns c = record {
  checked = inl (
    c.in-Ok.ensures.cases.1,
    is_answered c.check_answer-answer.result (IsCheckAnswer (form_of c.args.is_json) c.args.name.now c.args.rules.now) c.args.out.now c.answer_into.new.out c.answer_into.result
        (rw (c.in-Ok.ensures.cases.0, c.form_of.ensures) at c.check_answer-answer.ensures.answer) c.answer_into.ensures.put c.answer_into.ensures.refused,
  );
}
