use Rattle.std.proofs.Common.{◌+◌, ◌*◌, ◌↔◌, [], drop}
use Rattle.lalrpop_hir.specs.Language.{MatchInTurn, SomeMatches}
use Rattle.lalrpop_hir.specs.Parts.{trees}
use Rattle.lalrpop_hir.specs.Internal.Depth.{depth, greatest_depth}
use Rattle.lalrpop_verdicts.proofs.empty.+matches_empty.Given as goal

abbrev pub decreases-matches_empty : goal.decreases-matches_empty
decreases-matches_empty l = 2 * depth l.tree.now + 1

abbrev pub decreases-all_match_empty : goal.decreases-all_match_empty
decreases-all_match_empty l = 2 * greatest_depth (trees l.parts.now) + 2

abbrev pub decreases-some_match_empty : goal.decreases-some_match_empty
decreases-some_match_empty l = 2 * greatest_depth (trees l.parts.now) + 2

abbrev pub invariant-all_match_empty-loop-part : goal.invariant-all_match_empty-loop-part
invariant-all_match_empty-loop-part l = MatchInTurn (trees (drop l.part-index l.parts)) [] ↔ MatchInTurn (trees l.parts) []

abbrev pub invariant-some_match_empty-loop-part : goal.invariant-some_match_empty-loop-part
invariant-some_match_empty-loop-part l = SomeMatches (trees (drop l.part-index l.parts)) [] ↔ SomeMatches (trees l.parts) []
