-- cases: proofs/Cases/ModesErrors.antt
-- Errors of texts as errors of rules with modes.
use Rattle.lalrpop_rules.specs.declared.text_error.TextError.{TextError}
use Rattle.lalrpop_rules.specs.declared.text_error.TextError.TheVariants as texts
use Rattle.lalrpop_rules.specs.declared.error.RulesError.{RulesError}
use Rattle.lalrpop_rules.specs.declared.error.RulesError.TheVariants.{NotParsed, BadEnd, NotCompiled, OutOfMemory}

abbrev pub of_texts : TextError → RulesError
of_texts (texts.NotParsed i position kind) = NotParsed i position kind
of_texts (texts.BadEnd i e) = BadEnd i e
of_texts (texts.NotCompiled i e) = NotCompiled i e
of_texts texts.OutOfMemory = OutOfMemory
