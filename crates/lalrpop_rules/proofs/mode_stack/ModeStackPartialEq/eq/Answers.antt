use Rattle.lalrpop_rules.proofs.SameStacks.{turned_decides}
use Rattle.lalrpop_rules.proofs.mode_stack.ModeStackPartialEq.eq.Goals as goal

pub returns-then-self-other : goal.returns-then-self-other
returns-then-self-other c =
    let i = c.self.inside in
    let j = c.other.inside in
    record { same = turned_decides i.top j.top i.below.items j.below.items c.self.view_is c.other.view_is c.if-self-other.true c.eq.result c.eq.ensures }
