use Rattle.std.proofs.Common.{sym, subst}
use Rattle.std.proofs.lemmas.Result.{IfOk-weaker}
use Rattle.unicode.specs.Perl.{is_word_char}
use Rattle.unicode.specs.Rows.{in_ranges, AreRanges, HasExactly}
use Rattle.lalrpop_re.specs.CharacterSet.{HasRuns}
use Rattle.lalrpop_re.proofs.SpanLaws.{HasRuns-exactly, rising-ranges}
use Rattle.lalrpop_re.proofs.named.words.Goals as goal

pub class_of_codes-requires : goal.class_of_codes-requires
class_of_codes-requires c = subst AreRanges (sym c.deref.ensures.value) (rising-ranges _ c.in_ok-word_ranges.ensures.rising)

pub returns : goal.returns
returns c =
    let codes = c.deref.result.now in
    let exact : HasExactly codes is_word_char = subst (λ l. HasExactly l is_word_char) (sym c.deref.ensures.value) c.in_ok-word_ranges.ensures.members in
    record { runs = IfOk-weaker c.class_of_codes.result (λ r. HasRuns r (in_ranges codes)) (λ r. HasRuns r is_word_char) (λ r k. HasRuns-exactly r codes is_word_char exact k) c.class_of_codes.ensures }
