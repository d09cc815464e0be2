use Rattle.std.proofs.Common.{◌∙◌}
use Rattle.lalrpop_build.specs.Internal.Subsets.{first_set_of}
use Rattle.lalrpop_build.proofs.ByPattern.{starts_by_pattern}
use Rattle.lalrpop_build.proofs.Adding.{starts_inside}
use Rattle.lalrpop_build.proofs.build.automata.Automata.first_set.Goals as goal

pub closure-requires-clause-inside : goal.closure-requires-clause-inside
closure-requires-clause-inside c =
    let i = starts_inside c.self.inside.nfas.now c.self.invariant.0 in
    rw (c.deref.ensures.value, c.in_ok-starts.ensures) i

pub closure-requires-clause-by_pattern : goal.closure-requires-clause-by_pattern
closure-requires-clause-by_pattern c = rw (c.deref.ensures.value, c.in_ok-starts.ensures) (starts_by_pattern 0 c.self.inside.nfas.now)

pub returns : goal.returns
unfolding first_set_of
returns c =
    let starts = c.deref.ensures.value ∙ c.in_ok-starts.ensures in
    rw (← c.self.view_is) (rw starts at c.closure.ensures)
