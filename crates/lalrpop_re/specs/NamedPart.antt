-- cases: proofs/Cases/NamedPart.antt
-- Parts: trees that have a name, for which `{NAME}` stands in a pattern.
use Rattle.std.specs.Prelude.{ℕ, Bool, false, ◌&&◌, ◌||◌, ◌==◌, List, [], ◌∷◌, Option, bytes_eq}
use Rattle.std.specs.List.{list_all, find}
use Rattle.std.specs.Char.{is_ascii_alphabetic, is_ascii_alphanumeric}
use Rattle.lalrpop_hir.specs.Tree.{Tree}

-- the characters of its name, its tree, and the nesting depth of the text that spelled the tree
pub record NamedPart : Type 0 where
  pub name : List ℕ
  pub tree : Tree
  pub levels : ℕ

-- an ASCII letter or `_`
abbrev pub begins_part : ℕ → Bool
begins_part c = is_ascii_alphabetic c || c == 95

-- these, and the ASCII digits
abbrev pub continues_part : ℕ → Bool
continues_part c = is_ascii_alphanumeric c || c == 95

abbrev pub is_part_name : List ℕ → Bool
is_part_name [] = false
is_part_name (c ∷ cs) = begins_part c && list_all continues_part cs

-- the first part of this name
abbrev pub part_named : List NamedPart → List ℕ → Option NamedPart
part_named parts name = find (λ p. bytes_eq p.name name) parts
