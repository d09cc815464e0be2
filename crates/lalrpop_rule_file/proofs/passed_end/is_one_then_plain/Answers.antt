use Rattle.std.proofs.Common.{◌∙◌, refl, sym}
use Rattle.std.proofs.lemmas.Bool.{false≢true}
use Rattle.lalrpop_rule_file.specs.PassedEnd.{IsWordThenPlain}
use Rattle.lalrpop_rule_file.proofs.OneOf.{none_further, none_of_all, one_there}
use Rattle.lalrpop_rule_file.proofs.passed_end.is_one_then_plain.Goals as goal

pub returns-then-is_word_then_plain : goal.returns-then-is_word_then_plain
returns-then-is_word_then_plain c =
    (λ _. (_, (one_there c.args.words.now c.loop-word.word-index _ c.loop-word-test.true, c.is_word_then_plain.ensures.0 c.if-is_word_then_plain.true)), λ _. refl)

pub loop-word-preserved : goal.loop-word-preserved
loop-word-preserved c =
    none_further (IsWordThenPlain c.args.text.now) c.args.words.now c.loop-word.word-index _ c.loop-word-test.true c.loop-word.invariant
    (λ stands. false≢true (sym c.if-is_word_then_plain.false ∙ c.is_word_then_plain.ensures.1 stands))

pub returns : goal.returns
returns c = (
  λ e. absurd (false≢true e),
  λ one. absurd (none_of_all (IsWordThenPlain c.args.text.now) c.args.words.now c.loop-word.word-index c.loop-word-test.false c.loop-word.invariant one.0 one.1.0 one.1.1),
)
