-- Cases of specs/Walk.antt.
use Rattle.std.proofs.Common.{◌≡◌, true, false, refl}
use Rattle.lalrpop_nfa.specs.Path.{noop}
use Rattle.lalrpop_nfa.specs.Walk.{leaves}

-- an edge leaves the state that it comes from, not the one to which it leads
edge_leaves_a_state : (leaves 2 (noop 2 3) ≡ true) × (leaves 3 (noop 2 3) ≡ false)
edge_leaves_a_state = (refl, refl)
