use Rattle.std.proofs.Common.{◌≡◌, take}
use Rattle.lalrpop_dfa.specs.ItemOrder.{hash_of}
use Rattle.lalrpop_dfa.proofs.items.hash_items.Given as goal

abbrev pub invariant-loop-item : goal.invariant-loop-item
invariant-loop-item l = l.hash ≡ hash_of (take l.item-index l.items)
