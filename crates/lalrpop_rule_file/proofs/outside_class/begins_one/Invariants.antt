use Rattle.std.proofs.Common.{◌≡◌, ℕ, List, ◌++◌, take}
use Rattle.lalrpop_rule_file.specs.Internal.Lines.{names_in}
use Rattle.lalrpop_rule_file.proofs.OneOf.{IsNone}
use Rattle.lalrpop_rule_file.proofs.outside_class.begins_one.Given as goal

abbrev pub invariant-loop-word : goal.invariant-loop-word
invariant-loop-word l = IsNone (λ word. (rest : List ℕ) × (l.text ≡ word ++ rest)) (names_in (take l.word-index l.words))
