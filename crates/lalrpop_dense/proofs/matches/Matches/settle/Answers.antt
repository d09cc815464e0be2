use Rattle.std.proofs.Common.{◌∙◌, arith, ap}
use Rattle.lalrpop_dense.proofs.Blocks.{IsCredited, settles_here, with_spare}
use Rattle.lalrpop_dense.proofs.matches.Matches.settle.Goals as goal
use Rattle.lalrpop_dense.proofs.matches.Matches.settle.Goals.{After-char_count}

credited : (c : After-char_count) → IsCredited c.self.inside.ahead c.self.inside.credit c.self.inside.settled c.char_count.result c.offset-at.result
credited c =
    settles_here c.self.inside.ahead c.range.result.now c.text.result.now c.self.inside.credit c.self.inside.settled c.offset-at.result c.char_count.result c.self.invariant c.text.ensures.same
    c.offset-at.ensures.offset c.offset-at.ensures.boundary c.range.ensures.value c.range.utf8 c.char_count.ensures.count

pub overflow_add-self : goal.overflow_add-self
overflow_add-self c = omega (arith, (credited c).settles.few)

pub invariant_of-self : goal.invariant_of-self
invariant_of-self c = (credited (goal.at.invariant_of-self c).After-char_count).settles

pub returns : goal.returns
returns c =
    record { same = ap (λ n. with_spare c.self.inside.ahead n) (credited (goal.at.returns c).After-char_count).same ∙ c.self.view_is }
