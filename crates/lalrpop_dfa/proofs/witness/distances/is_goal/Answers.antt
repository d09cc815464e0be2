use Rattle.std.proofs.Common.{◌∙◌}
use Rattle.lalrpop_dfa.specs.Lookahead.{IsAccepting}
use Rattle.lalrpop_dfa.proofs.EdgeTargets.{the_some}
use Rattle.lalrpop_dfa.proofs.Ranked.{accepting_read, goal_told}
use Rattle.lalrpop_dfa.proofs.witness.distances.is_goal.Goals as goal

pub returns-else-count-eq0 : goal.returns-else-count-eq0
returns-else-count-eq0 c =
    let d = c.args.dfa.now in
    let p = c.args.state in
    let r = the_some _ _ c.state.ensures.at in
    let accepts : IsAccepting d p = accepting_read d p r.0 c.kind.result.now r.1.0 (c.kind.ensures.kind ∙ r.1.1.kind) c.in-Accepts.field-0 c.in-Accepts.is in
    goal_told d c.args.count p c.args.depths.now c.requires.depths c.requires.within c.least_value.ensures.well_formed c.if-count-eq0.false c.least_value.result c.is_some.result
    c.least_value.ensures.least c.is_some.ensures accepts
