use Rattle.std.proofs.lemmas.Bool.Decides.{same_from_decides}
use Rattle.lalrpop_rules.proofs.SameStacks.{stack_decides}
use Rattle.lalrpop_rules.proofs.mode_stack.ModeStackPartialEq.TheImpl.Goals as goal

pub eq-tells : goal.eq-tells
eq-tells c = same_from_decides _ _ c.ensures.same (stack_decides c.args.self.now c.args.other.now)
