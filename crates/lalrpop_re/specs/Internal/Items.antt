-- How the ranges of a bracket's items are gathered.
use Rattle.std.specs.Prelude.{◌↔◌, ◌⊎◌, ℕ, List}
use Rattle.lalrpop_hir.specs.Range.{Range, Covered}
use Rattle.lalrpop_hir.specs.Runs.{IsScalar}
use Rattle.lalrpop_re.specs.CharacterSet.{Set, Members}

-- the ranges cover the scalar values that they covered before, and those of the set
abbrev pub Gains : List Range → List Range → Set → Type 0
Gains before after s = (c : ℕ) → IsScalar c → Covered after c ↔ (Covered before c ⊎ Members s c)
