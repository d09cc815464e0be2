-- Cases of specs/Internal/Depth.antt.
use Rattle.std.proofs.Common.{◌≡◌, [], ◌∷◌, true, None, refl}
use Rattle.lalrpop_hir.specs.Tree.{Tree, literal, look, repetition, capture, alternation, none, also}
use Rattle.lalrpop_hir.specs.Internal.Depth.{depth}
use Rattle.lalrpop_hir.specs.declared.look.Look.TheVariants.{Start}

abbrev a : Tree
a = literal (97 ∷ [])

abbrev b : Tree
b = literal (98 ∷ [])

-- a tree without parts has depth 0
depth_of_a_leaf : (depth (look Start) ≡ 0) × (depth a ≡ 0)
depth_of_a_leaf = (refl, refl)

-- `(a*|b)`: the deepest branch counts, two for each tree on the way
depth_of_a_group : depth (capture None (alternation (also (repetition 0 None true a) (also b none)))) ≡ 6
depth_of_a_group = refl
