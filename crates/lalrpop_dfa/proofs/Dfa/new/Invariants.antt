use Rattle.std.proofs.Common.{◌≡◌, length}
use Rattle.lalrpop_dfa.proofs.StepLists.{TellSteps}
use Rattle.lalrpop_dfa.proofs.Dfa.new.Given as goal

abbrev pub invariant-loop-number : goal.invariant-loop-number
invariant-loop-number l = record {
  long : length l.places.items ≡ l.number;
  told : TellSteps l.fn.rows l.places.items l.lists.items;
}
