use Rattle.std.proofs.Common.{rules, ◌≡◌, false}
use Rattle.std.specs.Prelude.{replicate}
use Rattle.lalrpop_build.proofs.MarkedGroups.{marked_first}
use Rattle.lalrpop_build.proofs.build.scratch.Boundaries.new.Goals as goal

pub returns-clause-marked : goal.returns-clause-marked
returns-clause-marked c =
    let none : c.in_ok-vec.field-0.items ≡ replicate c.args.group_count false = search rules in
    marked_first c.args.group_count c.in_ok-vec.field-0.items c.new-2.result.items none c.new-2.ensures.items
