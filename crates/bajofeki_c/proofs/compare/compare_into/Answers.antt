use Rattle.std.proofs.Common.{inl}
use Rattle.lexdfa_lib.specs.declared.command.Verbosity.TheVariants.{Warnings}
use Rattle.reviews_lib.specs.Compared.{BytesCompared}
use Rattle.bajofeki_c.proofs.Answering.{is_answered}
use Rattle.bajofeki_c.proofs.compare.compare_into.Goals as goal

pub returns : goal.returns
returns c = record {
  compared = inl (
    (c.in-Ok.ensures.cases.1, c.in-Ok-from_utf8.ensures.cases.1),
    is_answered c.difference_answer-answer.result (BytesCompared Warnings c.args.name.now c.args.rules.now c.args.other_name.now c.args.other.now) c.args.out.now c.answer_into.new.out
        c.answer_into.result (rw (c.in-Ok.ensures.cases.0, c.in-Ok-from_utf8.ensures.cases.0) at c.difference_answer-answer.ensures.answer) c.answer_into.ensures.put c.answer_into.ensures.refused,
  );
}
