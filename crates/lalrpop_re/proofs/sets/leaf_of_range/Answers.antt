use Rattle.std.proofs.Common.{false}
use Rattle.std.proofs.lemmas.Result.{IfOk-weaker}
use Rattle.lalrpop_re.specs.CharacterSet.{Set, range, HasRuns}
use Rattle.lalrpop_re.specs.Bracket.{leaf, leaf_or_complement}
use Rattle.lalrpop_re.proofs.sets.leaf_of_range.Goals as goal

pub returns : goal.returns
returns c =
    let f = c.args.flags in
    let s = range c.args.low c.args.high in
    let rs = c.in_ok-range_class.field-0 in
    record { runs = IfOk-weaker c.leaf_of_set.result (λ r. (t : Set) → HasRuns rs t → HasRuns r (leaf_or_complement f t false)) (λ r. HasRuns r (leaf f s)) (λ r k. k s c.in_ok-range_class.ensures.runs) c.leaf_of_set.ensures.runs }
