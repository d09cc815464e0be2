use Rattle.std.specs.List.{each_same}
use Rattle.lalrpop_build.proofs.build.scratch.TransitionsClone.clone.Goals as goal

pub returns : goal.returns
returns c = record { cases = each_same c.args.self.now.list.items c.in_ok-clone.field-0.items c.in_ok-clone.ensures.cases.0 }
