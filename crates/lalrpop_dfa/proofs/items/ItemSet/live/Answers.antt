use Rattle.std.proofs.Common.{ap, sym, ◌∙◌}
use Rattle.lalrpop_dfa.specs.LiveItems.{live_of}
use Rattle.lalrpop_dfa.proofs.FullSets.{live_is_of}
use Rattle.lalrpop_dfa.proofs.items.ItemSet.live.Goals as goal

pub returns : goal.returns
returns c =
    let own = live_is_of c.self.inside.patterns c.self.inside.live_patterns.items c.self.inside.live.items c.self.invariant.split in
    record { value = c.deref.ensures.value ∙ (sym own ∙ ap live_of c.self.view_is) }
