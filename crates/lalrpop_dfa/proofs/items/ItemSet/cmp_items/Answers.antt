use Rattle.std.proofs.Common.{◌∙◌, sym}
use Rattle.lalrpop_dfa.proofs.SetOrder.{cmp_apart, cmp_same}
use Rattle.lalrpop_dfa.proofs.items.ItemSet.cmp_items.Goals as goal

pub returns-in-Equal : goal.returns-in-Equal
returns-in-Equal c =
    cmp_same c.self.inside.patterns c.other.inside.patterns c.self.inside.live_patterns.items c.other.inside.live_patterns.items c.self.inside.live.items c.other.inside.live.items c.self.invariant.split c.other.invariant.split c.args.self.now c.args.other.now c.self.view_is c.other.view_is
    c.cmp_rejects.result (sym c.cmp.ensures ∙ c.in-Equal.is) c.cmp_rejects.ensures

pub returns-in_default : goal.returns-in_default
returns-in_default c =
    cmp_apart c.self.inside.patterns c.other.inside.patterns c.self.inside.live_patterns.items c.other.inside.live_patterns.items c.self.inside.live.items c.other.inside.live.items c.self.invariant.split c.other.invariant.split c.args.self.now c.args.other.now c.self.view_is c.other.view_is
    c.cmp.result c.cmp.ensures c.in_default.not-Equal
