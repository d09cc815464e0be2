use Rattle.std.proofs.Common.{◌≡◌, false, take}
use Rattle.std.specs.List.{list_any}
use Rattle.lalrpop_rules.specs.Kinds.{is_kind}
use Rattle.lalrpop_rules.proofs.kinds.has_kind.Given as goal

abbrev pub invariant-loop-other : goal.invariant-loop-other
invariant-loop-other l = list_any (λ o. is_kind l.kind o) (take l.other-index l.kinds) ≡ false
