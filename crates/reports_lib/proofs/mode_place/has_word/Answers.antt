use Rattle.std.proofs.Common.{rules}
use Rattle.std.specs.Prelude.{not}
use Rattle.std.proofs.lemmas.Iterator.Search.{any_from_yields_List}
use Rattle.std.proofs.lemmas.Iterator.Splits.{YieldsList-from_slice_split}
use Rattle.lalrpop_rule_file.specs.Words.{is_of_name}
use Rattle.reports_lib.specs.Internal.ModePlaces.{is_word}
use Rattle.reports_lib.proofs.mode_place.has_word.Goals as goal

pub returns : goal.returns
returns c =
    any_from_yields_List (is_word c.args.mode.now) _ _ _ c.any.ensures.ran
    (YieldsList-from_slice_split _ (λ b. not (is_of_name b)) c.args.line.now c.split.ensures.rest c.split.ensures.done c.split.ensures.closure (λ x b q k. search rules))
    (λ x b q k. search rules)
