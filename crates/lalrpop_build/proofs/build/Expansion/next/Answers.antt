use Rattle.lalrpop_build.proofs.Adding.{clones_equal}
use Rattle.lalrpop_build.proofs.build.Expansion.next.Goals as goal

pub next-requires : goal.next-requires
next-requires c = record { clones = clones_equal }
