-- Cases of specs/ModesErrors.antt.
use Rattle.std.proofs.Common.{◌≡◌, refl}
use Rattle.lalrpop_hir.specs.declared.error.NfaConstructionError.{NfaConstructionError}
use Rattle.lalrpop_re.specs.declared.from_to_error.FromToError.TheVariants.{LongEnd}
use Rattle.lalrpop_rules.specs.declared.text_error.TextError.TheVariants as texts
use Rattle.lalrpop_rules.specs.RulesErrors.{of_texts}
use Rattle.lalrpop_rules.specs.declared.error.RulesError.TheVariants.{BadEnd, NotCompiled, OutOfMemory}

bad_end_of_its_rule : of_texts (texts.BadEnd 3 LongEnd) ≡ BadEnd 3 LongEnd
bad_end_of_its_rule = refl

memory_of_texts : of_texts texts.OutOfMemory ≡ OutOfMemory
memory_of_texts = refl

rule_that_can_not_be_compiled : (e : NfaConstructionError) → of_texts (texts.NotCompiled 2 e) ≡ NotCompiled 2 e
rule_that_can_not_be_compiled e = refl
