use Rattle.std.proofs.Common.{◌+◌, ◌-◌, ◌≤◌, ◌≡◌, length, take}
use Rattle.lalrpop_dense.proofs.Marking.{IsMarked}
use Rattle.lalrpop_dense.proofs.mark.mark_ends.Given as goal

-- the ends of tokens up to the place are marked, and each character is counted
abbrev pub invariant-marking : goal.invariant-marking
invariant-marking g l = record {
  marked : IsMarked l.fused l.layout l.engine.dfa.now l.text l.from l.at l.row (take l.count l.marks);
  kept : l.count ≤ length l.marks;
  read : l.fn.steps + l.count ≤ l.steps;
  cost : l.steps + l.fn.from ≤ l.fn.steps + l.at;
  limit : l.steps + l.fn.from ≤ l.fn.steps + l.end;
  room : length l.marks ≡ length l.fn.marks;
}

abbrev pub decreases-marking : goal.decreases-marking
decreases-marking g l = length l.text - l.at

abbrev pub invariant-eights : goal.invariant-eights
invariant-eights g l = record {
  marked : IsMarked l.fused l.layout l.engine.dfa.now l.text l.from l.at l.row (take l.count l.marks);
  kept : l.count ≤ length l.marks;
  read : l.fn.steps + l.count ≤ l.steps;
  cost : l.steps + l.fn.from ≤ l.fn.steps + l.at;
  room : length l.marks ≡ length l.fn.marks;
  on : l.initial.at ≤ l.at;
  within : l.at ≤ l.end;
}

abbrev pub decreases-eights : goal.decreases-eights
decreases-eights g l = length l.text - l.at

abbrev pub invariant-eight : goal.invariant-eight
invariant-eight g l = record {
  marked : IsMarked l.fused l.layout l.engine.dfa.now l.text l.from (l.at + l.step) l.row (take l.count l.marks);
  kept : l.count ≤ length l.marks;
  few : l.count ≤ l.initial.count + l.step;
  read : l.fn.steps + l.count ≤ l.steps;
  cost : l.steps + l.fn.from ≤ l.fn.steps + l.at + l.step;
  room : length l.marks ≡ length l.fn.marks;
}
