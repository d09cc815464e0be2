use Rattle.std.proofs.Common.{ℕ, List}
use Rattle.std.specs.Prelude.{Option, Some, None, IfSome}
use Rattle.lalrpop_dfa.specs.Dfa.{Row}
use Rattle.lalrpop_dfa.specs.Lookahead.{Accepted, IsLookahead, IsTrim, ReadsAtMost}
use Rattle.lalrpop_dfa.proofs.Trimming.{trimmed_trim}
use Rattle.uses_lexer.proofs.look_ahead_by_states.bounded.Goals as goal

reads : (d : List Row) (o : Option ℕ) → IsTrim d → IsLookahead (Accepted d) o → IfSome o (ReadsAtMost d)
reads d (Some n) trim h = (trim, h.0)
reads d None trim h = tt

pub returns-clause-past : goal.returns-clause-past
returns-clause-past c = reads c.in_ok-dfa.dfa c.in_ok-past.past (trimmed_trim c.args.dfa c.in_ok-dfa.dfa c.in_ok-dfa.ensures.trimmed) c.in_ok-past.ensures.answer
