-- cases: proofs/Cases/Meet.antt
-- Whether two ranges have a value in common.
use Rattle.std.specs.Prelude.{ℕ}
use Rattle.lalrpop_hir.specs.Range.{Range, Covers}

-- some value lies in both
abbrev pub Meet : Range → Range → Type 0
Meet r s = (c : ℕ) × (Covers r c × Covers s c)
