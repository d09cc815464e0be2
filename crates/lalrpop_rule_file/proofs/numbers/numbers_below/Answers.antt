use Rattle.std.proofs.Common.{ℕ, List, [], ◌∷◌, ◌++◌, sym, ap, ◌∙◌}
use Rattle.lalrpop_rule_file.proofs.ModeNumbers.{range_from_0}
use Rattle.lalrpop_rule_file.proofs.numbers.numbers_below.Goals as goal

pub loop-number-preserved : goal.loop-number-preserved
loop-number-preserved c =
    let n = c.loop-number.number in
    c.in_ok-push.ensures.items ∙ ap (λ (x : List ℕ). x ++ n ∷ []) c.loop-number.invariant ∙ sym (range_from_0 n)
