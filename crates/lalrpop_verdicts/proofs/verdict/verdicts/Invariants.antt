use Rattle.std.proofs.Common.{◌≡◌, length}
use Rattle.std.specs.Vec.Iter.{into_iter_items, into_iter_len}
use Rattle.lalrpop_verdicts.proofs.VerdictLaws.{AreVerdictsTo}
use Rattle.lalrpop_verdicts.proofs.verdict.verdicts.Given as goal

-- the patterns before this one have their verdicts
abbrev pub invariant-loop-least : goal.invariant-loop-least
invariant-loop-least l = (into_iter_len l.least-iterator ≡ length (into_iter_items l.least-iterator))
    × AreVerdictsTo l.dfa l.regexs l.found.items (into_iter_items l.least-iterator)
