-- Two ranges share a value exactly if the later start is at most the earlier end.
use Rattle.std.proofs.Common.{◌≡◌, ℕ, ◌↔◌, ◌≤◌, min, max, arith, IsTrue, leb}
use Rattle.std.proofs.lemmas.Bool.{leb-true, le-leb}
use Rattle.lalrpop_hir.specs.Range.{Range}
use Rattle.lalrpop_hir.specs.Meet.{Meet}

pub Meet-by_ends : (r s : Range) (low high : ℕ) → low ≡ max r.start s.start → high ≡ min r.end s.end → IsTrue (leb low high) ↔ Meet r s
Meet-by_ends r s low high e f = (
  λ h. let l : low ≤ high = leb-true low high h in (low, ((omega arith, omega arith), (omega arith, omega arith))),
  λ (c, (a, b)). le-leb low high (omega (arith, a.0, a.1, b.0, b.1)),
)
