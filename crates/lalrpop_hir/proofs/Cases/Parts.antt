-- Cases of specs/Parts.antt.
use Rattle.std.proofs.Common.{◌≡◌, [], ◌∷◌, refl}
use Rattle.std.specs.Str.{chars}
use Rattle.lalrpop_hir.specs.Tree.{Tree, empty, literal, none, also}
use Rattle.lalrpop_hir.specs.Parts.{trees, of_text}

abbrev a : Tree
a = literal (97 ∷ [])

abbrev b : Tree
b = literal (98 ∷ [])

-- a list of trees keeps their order
list_keeps_the_order : trees (a ∷ b ∷ []) ≡ also a (also b none)
list_keeps_the_order = refl

-- the empty text is the empty tree, not a literal
empty_text_is_the_empty_tree : of_text [] ≡ empty
empty_text_is_the_empty_tree = refl

-- the two bytes of `é` are one character
literal_holds_characters : of_text (0xC3 ∷ 0xA9 ∷ []) ≡ literal (0xE9 ∷ [])
unfolding chars
literal_holds_characters = refl
