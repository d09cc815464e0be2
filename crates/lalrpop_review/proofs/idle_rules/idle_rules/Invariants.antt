use Rattle.std.proofs.Common.{◌≡◌, length}
use Rattle.std.specs.Vec.Iter.{into_iter_items, into_iter_len}
use Rattle.lalrpop_review.specs.Internal.Idle.{AreIdleBelow, AreVerdictsFrom}
use Rattle.lalrpop_review.proofs.idle_rules.idle_rules.Given as goal

-- the rules before this one are looked at, and the verdicts on the others are left
abbrev pub invariant-loop-index : goal.invariant-loop-index
invariant-loop-index l =
    (into_iter_len l.verdicts ≡ length (into_iter_items l.verdicts))
    × AreVerdictsFrom l.lexer l.mode l.index (into_iter_items l.verdicts)
    × AreIdleBelow l.lexer l.mode l.index l.idle.items
