use Rattle.std.proofs.Common.{◌∙◌, [], refl, arith}
use Rattle.std.specs.List.Sorted.{IsStrictlySortedBy}
use Rattle.lalrpop_dfa.specs.Split.{IsSplit, full}
use Rattle.lalrpop_verdicts.proofs.smallest.no_items.Goals as goal

nothing : IsSplit 0 [] []
unfolding IsStrictlySortedBy
nothing = record {
  ascending = tt;
  alive = λ x (k, l, e). absurd (omega arith);
  within = λ x (k, l, e). absurd (omega arith);
  rising = record { rising = tt; within = λ i (k, l, e). absurd (omega arith) };
}

pub new-requires-3 : goal.new-requires-3
new-requires-3 c = record { split = rw (c.new.ensures.items, c.new-2.ensures.items) nothing }

pub returns : goal.returns
unfolding full
returns c = c.new-3.ensures.items ∙ refl
