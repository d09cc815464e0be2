use Rattle.std.proofs.Common.{take}
use Rattle.lalrpop_rule_file.specs.PassedEnd.{IsWordThenPlain}
use Rattle.lalrpop_rule_file.specs.Internal.Lines.{names_in}
use Rattle.lalrpop_rule_file.proofs.OneOf.{IsNone}
use Rattle.lalrpop_rule_file.proofs.passed_end.is_one_then_plain.Given as goal

abbrev pub invariant-loop-word : goal.invariant-loop-word
invariant-loop-word l = IsNone (IsWordThenPlain l.text) (names_in (take l.word-index l.words))
