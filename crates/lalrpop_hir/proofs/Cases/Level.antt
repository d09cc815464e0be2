-- Cases of specs/Level.antt.
use Rattle.std.proofs.Common.{◌≡◌, List, [], ◌∷◌, refl}
use Rattle.std.specs.Str.{chars}
use Rattle.lalrpop_hir.specs.Tree as tree
use Rattle.lalrpop_hir.specs.Level.{class_of, kind_tree}
use Rattle.lalrpop_hir.specs.Range.{Range}
use Rattle.lalrpop_hir.specs.declared.class.Class.TheVariants.{Unicode, Bytes}
use Rattle.lalrpop_hir.specs.declared.look.Look.TheVariants.{End}
use Rattle.lalrpop_hir.specs.declared.hir.HirKind.TheVariants.{Empty, Literal, Look}

-- a class keeps its kind and its ranges
class_keeps_its_kind : (rs : List Range) → (class_of (Unicode rs) ≡ tree.unicode rs) × (class_of (Bytes rs) ≡ tree.bytes rs)
class_keeps_its_kind rs = (refl, refl)

-- no parts
tree_of_no_part : kind_tree Empty ≡ tree.empty
tree_of_no_part = refl

-- a look keeps its kind
tree_of_a_look : kind_tree (Look End) ≡ tree.look End
tree_of_a_look = refl

-- a literal holds the characters of its text: the two bytes of `é` are one
tree_of_a_literal : kind_tree (Literal (0xC3 ∷ 0xA9 ∷ [])) ≡ tree.literal (0xE9 ∷ [])
unfolding chars
tree_of_a_literal = refl
