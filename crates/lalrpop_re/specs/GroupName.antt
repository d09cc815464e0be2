-- cases: proofs/Cases/GroupName.antt
-- The names of groups.
use Rattle.std.specs.Prelude.{ℕ, Bool, true, false, not, ◌&&◌, ◌||◌, IsTrue, List, [], ◌∷◌, ◌++◌, take, slice_get, Contains, Option, Some, None, IsSomeAnd, bytes_eq}
use Rattle.std.specs.List.{list_all, list_any}
use Rattle.unicode.specs.Binary.{is_alphabetic}
use Rattle.unicode.specs.GeneralCategory.{general_category}
use Rattle.unicode.specs.GeneralCategoryGroup.{in_group}
use Rattle.unicode.specs.declared.properties.GeneralCategoryGroup.TheVariants.{Number}
use Rattle.lalrpop_hir.specs.Tree.{Tree, empty, literal, class, look, repetition, capture, concat, alternation, Trees, none, also}
use Rattle.lalrpop_re.specs.CharacterSet.{is_one_of}

-- `_` or an Alphabetic character
abbrev pub begins_name : ℕ → Bool
begins_name c = is_one_of "_" c || is_alphabetic c

-- these, `.`, `[`, `]`, and the characters of the general categories Nd, Nl and No, which together are N
abbrev pub continues_name : ℕ → Bool
continues_name c = begins_name c || in_group Number (general_category c) || is_one_of ".[]" c

abbrev pub is_name : List ℕ → Bool
is_name [] = false
is_name (c ∷ cs) = begins_name c && list_all continues_name cs

-- ---- no two groups of a pattern have the same name

abbrev pub name_of : Option (List ℕ) → List (List ℕ)
name_of None = []
name_of (Some name) = name ∷ []

-- the names of a tree's groups, from left to right
unfoldable mutual
  pub names : Tree → List (List ℕ)
  names empty = []
  names (literal w) = []
  names (class c) = []
  names (look l) = []
  names (repetition min max greedy sub) = names sub
  names (capture name sub) = name_of name ++ names sub
  names (concat parts) = all_names parts
  names (alternation parts) = all_names parts

  pub all_names : Trees → List (List ℕ)
  all_names none = []
  all_names (also t ts) = names t ++ all_names ts

abbrev pub are_distinct : List (List ℕ) → Bool
are_distinct [] = true
are_distinct (n ∷ ns) = not (list_any (bytes_eq n) ns) && are_distinct ns

-- the index of the first name that repeats an earlier one: the names before it differ, and it is one of them
pub record IsFirstRepeated (ns : List (List ℕ)) (i : ℕ) : Type 0 where
  pub distinct : IsTrue (are_distinct (take i ns))
  pub repeats : IsSomeAnd (slice_get ns i) (λ name. Contains (take i ns) name)
