use Rattle.std.proofs.Common.{length, sym, ap, ◌∙◌}
use Rattle.std.proofs.lemmas.List.{length-map}
use Rattle.lalrpop_lexer.proofs.SpelledTexts.{length-AreSpelled, error_of_report}
use Rattle.lalrpop_lexer.proofs.lexer.Lexer.from_patterns.Goals as goal

pub new-requires : goal.new-requires
new-requires c = record {
  same_len =
      length-AreSpelled _ _ c.in_ok-trees.ensures.trees ∙ length-map _ _ ∙ sym (length-map _ _) ∙ sym (ap length c.in_ok-precedences.ensures.precedences)
      ∙ length-map _ _;
}

pub returns-in-Err-clause-error : goal.returns-in-Err-clause-error
returns-in-Err-clause-error c =
    rw c.from.ensures (error_of_report _ _ _ _ c.in-Err.error c.in_ok-trees.ensures.trees c.in_ok-precedences.ensures.precedences c.in-Err.ensures.report)

pub returns-in-Ok-clause-no_clash : goal.returns-in-Ok-clause-no_clash
returns-in-Ok-clause-no_clash c = rw (c.in-Ok.ensures.trees, c.in-Ok.ensures.precedences) c.in-Ok.ensures.no_clash
