use Rattle.std.proofs.Common.{ap, ◌∙◌}
use Rattle.lalrpop_re.proofs.Passages.{IsTurns, Matches-turns}
use Rattle.lalrpop_re.proofs.elimination.turns.Goals as goal
use Rattle.lalrpop_re.proofs.elimination.turns.Goals.{in-None, in-Some+in_ok-part-in-Some}

pub returns-clause-words : goal.returns-clause-words
returns-clause-words c =
    let t : IsTurns c.in_ok-joined.field-0 c.match-branch-2.tree.0 =
    elim c.match-branch-2.branch [
      | in-None w ↦ rw w.in-None.is (ap (λ x. x.0) w.tree-is ∙ w.empty.ensures.tree)
      | in-Some+in_ok-part-in-Some w ↦ rw w.in-Some.is (ap (λ x. x.0) w.tree-is ∙ rw (w.new-in-Some.ensures.parts, w.in_ok-part-in-Some.ensures.ok) at w.repetition-tree.ensures.tree)
    ] in
    Matches-turns c.in_ok-joined.field-0 _ _ t c.in_ok-joined.ensures.words
