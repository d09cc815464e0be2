use Rattle.std.proofs.Common.{◌≡◌, ℕ, take}
use Rattle.std.specs.Prelude.{◌↔◌}
use Rattle.std.specs.List.{Contains}
use Rattle.lalrpop_build.specs.Internal.Signatures.{Gained, CoversAny, EndsAt}
use Rattle.lalrpop_build.proofs.alphabet.signatures.mark_list.Given as goal

abbrev pub invariant-loop-label : goal.invariant-loop-label
invariant-loop-label l = record {
  gained : Gained l.boundaries l.fn.signatures.items l.signatures.items (λ v n. (n ≡ l.number) × CoversAny (take l.label-index l.labels) v);
  ends : (k : ℕ) → Contains l.ends.items k ↔ EndsAt l.boundaries (take l.label-index l.labels) k;
}
