use Rattle.std.proofs.Common.{ℕ, List, string_bytes}
use Rattle.lalrpop_re.specs.Internal.Views.{text, unread}
use Rattle.lalrpop_re.proofs.UnescapeSteps.{IsLeft}
use Rattle.lalrpop_re.proofs.unescape_text.parse_characters.Given as goal

abbrev pub invariant-loop-cursor : goal.invariant-loop-cursor
invariant-loop-cursor l = (seen : List ℕ) × IsLeft (text l.fn.cursor) seen (string_bytes l.said) (text l.cursor)

abbrev pub decreases-loop-cursor : goal.decreases-loop-cursor
decreases-loop-cursor l = unread l.cursor
