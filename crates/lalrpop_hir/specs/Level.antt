-- cases: proofs/Cases/Level.antt
-- One level of a tree's representation, with the trees of its parts.
use Rattle.std.specs.Str.{chars}
use Rattle.lalrpop_hir.specs.Tree as tree
use Rattle.lalrpop_hir.specs.Tree.{Tree}
use Rattle.lalrpop_hir.specs.Parts.{trees}
use Rattle.lalrpop_hir.specs.declared.class.Class.{Class}
use Rattle.lalrpop_hir.specs.declared.class.Class.TheVariants.{Unicode, Bytes}
use Rattle.lalrpop_hir.specs.declared.hir.HirKind.{HirKind}
use Rattle.lalrpop_hir.specs.declared.hir.HirKind.TheVariants.{Empty, Literal, Class as ClassOf, Look, Repetition, Capture, Concat, Alternation}

abbrev pub class_of : Class → tree.Class
class_of (Unicode c) = tree.unicode c
class_of (Bytes c) = tree.bytes c

-- the tree of a kind
abbrev pub kind_tree : HirKind → Tree
kind_tree Empty = tree.empty
kind_tree (Literal l) = tree.literal (chars l)
kind_tree (ClassOf c) = tree.class (class_of c)
kind_tree (Look l) = tree.look l
kind_tree (Repetition r) = tree.repetition r.min r.max r.greedy r.sub
kind_tree (Capture c) = tree.capture c.name c.sub
kind_tree (Concat ts) = tree.concat (trees ts.items)
kind_tree (Alternation ts) = tree.alternation (trees ts.items)
