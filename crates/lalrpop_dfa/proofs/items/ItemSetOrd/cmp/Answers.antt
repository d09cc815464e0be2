use Rattle.std.proofs.Common.{◌∙◌, sym}
use Rattle.lalrpop_dfa.proofs.SetOrder.{hashes_apart, hashes_same}
use Rattle.lalrpop_dfa.proofs.items.ItemSetOrd.cmp.Goals as goal

pub returns-in-Equal : goal.returns-in-Equal
returns-in-Equal c =
    hashes_same c.self.inside.patterns c.other.inside.patterns c.self.inside.live_patterns.items c.other.inside.live_patterns.items c.self.inside.live.items c.other.inside.live.items c.self.invariant.split c.other.invariant.split c.args.self.now c.args.other.now c.self.view_is c.other.view_is
    c.self.inside.hash c.other.inside.hash c.self.invariant.hashed c.other.invariant.hashed
    c.cmp_items.result (sym c.cmp.ensures ∙ c.in-Equal.is) c.cmp_items.ensures

pub returns-in_default : goal.returns-in_default
returns-in_default c =
    hashes_apart c.self.inside.patterns c.other.inside.patterns c.self.inside.live_patterns.items c.other.inside.live_patterns.items c.self.inside.live.items c.other.inside.live.items c.self.invariant.split c.other.invariant.split c.args.self.now c.args.other.now c.self.view_is c.other.view_is
    c.self.inside.hash c.other.inside.hash c.self.invariant.hashed c.other.invariant.hashed
    c.cmp.result c.cmp.ensures c.in_default.not-Equal
