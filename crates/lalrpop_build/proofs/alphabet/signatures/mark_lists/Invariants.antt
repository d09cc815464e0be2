use Rattle.std.proofs.Common.{◌≡◌, ◌<◌, length}
use Rattle.lalrpop_build.specs.Internal.Signatures.{AreSigned, CoversIn, HaveNoClasses}
use Rattle.lalrpop_build.proofs.Marking.{HaveEndsBelow}
use Rattle.lalrpop_build.proofs.alphabet.signatures.mark_lists.Given as goal

abbrev pub invariant-loop-number : goal.invariant-loop-number
invariant-loop-number l = record {
  same_length : length l.groups.items ≡ l.number;
  signed : AreSigned l.boundaries l.signatures.items (λ v n. (n < l.number) × CoversIn l.lists n v);
  ends : HaveEndsBelow l.number l.lists l.boundaries l.groups.items;
  no_classes : HaveNoClasses l.groups.items;
}
