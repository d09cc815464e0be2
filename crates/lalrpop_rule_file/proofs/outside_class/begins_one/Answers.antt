use Rattle.std.proofs.Common.{◌≡◌, ◌∙◌, ℕ, List, ◌++◌, refl, sym}
use Rattle.std.proofs.lemmas.Bool.{false≢true}
use Rattle.lalrpop_rule_file.proofs.OneOf.{none_further, none_of_all, one_there}
use Rattle.lalrpop_rule_file.proofs.Results.{if_not_some, if_some}
use Rattle.lalrpop_rule_file.proofs.outside_class.begins_one.Goals as goal

pub returns-then-is_some : goal.returns-then-is_some
returns-then-is_some c =
    let found = if_some _ c.after_word.result (sym c.is_some.ensures ∙ c.if-is_some.true) c.after_word.ensures.some in
    (λ _. (_, found.0.now, (one_there c.args.words.now c.loop-word.word-index _ c.loop-word-test.true, found.1)), λ _. refl)

pub loop-word-preserved : goal.loop-word-preserved
loop-word-preserved c =
    none_further (λ word. (rest : List ℕ) × (c.args.text.now ≡ word ++ rest)) c.args.words.now c.loop-word.word-index _ c.loop-word-test.true c.loop-word.invariant
    (λ one. if_not_some c.after_word.result (sym c.is_some.ensures ∙ c.if-is_some.false) c.after_word.ensures.none one.0 one.1)

pub returns : goal.returns
returns c = (
  λ e. absurd (false≢true e),
  λ one. absurd (none_of_all (λ word. (rest : List ℕ) × (c.args.text.now ≡ word ++ rest)) c.args.words.now c.loop-word.word-index c.loop-word-test.false c.loop-word.invariant one.0 one.2.0 (one.1, one.2.1)),
)
