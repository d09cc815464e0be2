use Rattle.std.proofs.Common.{inl}
use Rattle.lexdfa_lib.specs.declared.command.Verbosity.TheVariants.{Warnings}
use Rattle.reviews_lib.specs.Pictured.{BytesPictured}
use Rattle.bajofeki_c.specs.Draw.{given}
use Rattle.bajofeki_c.proofs.Answering.{is_answered}
use Rattle.bajofeki_c.proofs.draw.draw_into.Goals as goal

pub returns : goal.returns
returns c = record {
  drawn = inl (
    (c.in-Ok.ensures.cases.1, c.in-Ok-from_utf8.ensures.cases.1),
    is_answered c.picture_answer-answer.result (BytesPictured Warnings (given c.args.rule.now) c.args.name.now c.args.rules.now) c.args.out.now c.answer_into.new.out c.answer_into.result
        (rw (c.in-Ok.ensures.cases.0, c.given.ensures, c.in-Ok-from_utf8.ensures.cases.0) at c.picture_answer-answer.ensures.answer) c.answer_into.ensures.put c.answer_into.ensures.refused,
  );
}
