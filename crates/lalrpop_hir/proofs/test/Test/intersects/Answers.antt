use Rattle.lalrpop_hir.proofs.Meeting.{Meet-by_ends}
use Rattle.lalrpop_hir.proofs.test.Test.intersects.Goals as goal

pub returns : goal.returns
returns c = record { answer = rw (← c.self.view_is, ← c.r.view_is) (Meet-by_ends _ _ _ _ c.max.ensures c.min.ensures) }
