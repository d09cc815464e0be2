use Rattle.std.proofs.Common.{refl}
use Rattle.lalrpop_dfa.proofs.FullSets.{live_is_of}
use Rattle.lalrpop_dfa.proofs.items.ItemSet.live_patterns.Goals as goal

pub returns-clause-split : goal.returns-clause-split
returns-clause-split c =
    let own = live_is_of c.self.inside.patterns c.self.inside.live_patterns.items c.self.inside.live.items c.self.invariant.split in
    rw (c.deref.ensures.value, ← c.self.view_is, own) c.self.invariant.split

pub returns-clause-items : goal.returns-clause-items
returns-clause-items c =
    let own = live_is_of c.self.inside.patterns c.self.inside.live_patterns.items c.self.inside.live.items c.self.invariant.split in
    rw (c.deref.ensures.value, ← c.self.view_is, own) refl
