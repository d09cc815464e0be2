use Rattle.std.proofs.Common.{◌≡◌, []}
use Rattle.lalrpop_verdicts.specs.Internal.Beside.{AreAhead}
use Rattle.lalrpop_verdicts.proofs.side_by_side.automaton_ahead.Given as goal

abbrev pub invariant-loop-number : goal.invariant-loop-number
invariant-loop-number l = AreAhead l.dfa l.fn.state l.number l.rows.rows × (l.rows.tests ≡ [])
