use Rattle.std.proofs.Common.{ap}
use Rattle.lalrpop_emit.specs.Ahead.{Again}
use Rattle.lalrpop_emit.specs.Internal.Standings.{live_row}
use Rattle.lalrpop_emit.proofs.Standings.{one_more_of}
use Rattle.lalrpop_emit.proofs.regular_ahead.push_again.Goals as goal

pub loop-number-preserved : goal.loop-number-preserved
loop-number-preserved c =
    one_more_of (λ k. Again (live_row c.args.shape k)) c.args.standings.now.items c.loop-number.standings.items c.push.new.self.items (Again c.live_row.result) c.loop-number.number c.loop-number.invariant
    (ap Again c.live_row.ensures.row) c.in_ok-push.ensures.items
