use Rattle.std.proofs.Common.{◌≤◌, ◌∙◌, ap, length, map, arith}
use Rattle.std.proofs.lemmas.List.{take_all}
use Rattle.lalrpop_verdicts.specs.Internal.Shortest.{start_of}
use Rattle.lalrpop_verdicts.proofs.ShortestLaws.{stored_starts}
use Rattle.lalrpop_verdicts.proofs.classes.shortest.starts.Goals as goal

pub returns : goal.returns
returns c =
    let states = c.states-state-items.result.now in
    let all : length states ≤ c.loop-state.state-index = omega arith in
    c.loop-state.invariant ∙ ap (map (λ s. start_of s.kind)) (take_all c.loop-state.state-index states all) ∙ stored_starts c.args.dfa.now states c.states-state-items.ensures.states
