-- cases: proofs/Cases/Parts.antt
-- Trees from their parts: repetitions and groups, lists of trees, texts.
use Rattle.std.specs.Prelude.{ℕ, List, [], ◌∷◌, Bool, Option}
use Rattle.std.specs.Str.{chars}
use Rattle.lalrpop_hir.specs.Tree.{Tree, empty, literal, Trees, none, also}

-- a repetition by its parts
pub record Repeated : Type 0 where
  pub min : ℕ
  pub max : Option ℕ
  pub greedy : Bool
  pub sub : Tree

-- a group by its parts: the bytes of its name, if it has one
pub record Captured : Type 0 where
  pub name : Option (List ℕ)
  pub sub : Tree

abbrev pub trees : List Tree → Trees
trees [] = none
trees (t ∷ ts) = also t (trees ts)

-- the tree of a text: its characters, or the empty tree
abbrev pub of_text : List ℕ → Tree
of_text [] = empty
of_text (b ∷ bs) = literal (chars (b ∷ bs))
