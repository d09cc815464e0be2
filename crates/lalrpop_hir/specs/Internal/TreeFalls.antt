-- Each part of a tree is less deep than the tree.
use Rattle.std.specs.Prelude.{ℕ, zero, suc, ◌<◌, length, ◌+◌, ◌≤◌, List, [], ◌∷◌}
use Rattle.std.proofs.Common.{arith, get_or}
use denote.Param.Weighed.{most}
use Rattle.lalrpop_hir.specs.Tree.{Tree}
use Rattle.lalrpop_hir.specs.Parts.{trees}
use Rattle.lalrpop_hir.specs.Internal.Depth.{depth, greatest_depth}
use Rattle.lalrpop_hir.specs.Level.{kind_tree}
use Rattle.lalrpop_hir.specs.declared.hir.HirKind.{HirKind}
use Rattle.lalrpop_hir.specs.declared.hir.HirKind.TheVariants.{Empty, Literal, Class as ClassOf, Look, Repetition, Capture, Concat, Alternation}
use Rattle.lalrpop_hir.specs.declared.hir.Capture.TheDeep.{deep-HirKind}

pub most-greatest_depth : (ts : List Tree) → most (λ t. depth t + 1) ts ≤ greatest_depth (trees ts) + 1
most-greatest_depth [] = omega arith
most-greatest_depth (t ∷ ts) = omega (arith, most-greatest_depth ts)

pub deep-le-depth : (k : HirKind) → deep-HirKind k ≤ depth (kind_tree k)
deep-le-depth Empty = omega arith
deep-le-depth (Literal l) = omega arith
deep-le-depth (ClassOf c) = omega arith
deep-le-depth (Look l) = omega arith
deep-le-depth (Repetition r) = omega arith
deep-le-depth (Capture c) = omega arith
deep-le-depth (Concat ts) = omega (arith, most-greatest_depth ts.items)
deep-le-depth (Alternation ts) = omega (arith, most-greatest_depth ts.items)

-- a tree of a list is at most as deep as the deepest one
pub depth-le-greatest : (ts : List Tree) (i : ℕ) (t : Tree) → i < length ts → depth (get_or ts i t) ≤ greatest_depth (trees ts)
depth-le-greatest [] i t h = absurd (omega arith)
depth-le-greatest (u ∷ ts) zero t h = omega arith
depth-le-greatest (u ∷ ts) (suc i) t h = omega (arith, depth-le-greatest ts i t (omega arith))
