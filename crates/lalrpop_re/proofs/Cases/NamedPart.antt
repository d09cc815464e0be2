-- Cases of specs/NamedPart.antt.
use Rattle.std.proofs.Common.{◌≡◌, [], ◌∷◌, true, false, Some, None, codes, refl}
use Rattle.lalrpop_hir.specs.Tree.{empty, literal}
use Rattle.lalrpop_re.specs.NamedPart.{NamedPart, is_part_name, part_named}

-- a name has at least one character, and doesn't begin with a digit
names_of_parts : (is_part_name (codes "_") ≡ true) × (is_part_name (codes "d9_") ≡ true) × (is_part_name (codes "") ≡ false) × (is_part_name (codes "9d") ≡ false)
names_of_parts = (refl, refl, refl, refl)

-- white space, a comma and letters of other scripts are in no name
no_names_of_parts : (is_part_name (codes "a b") ≡ false) × (is_part_name (codes "a,") ≡ false) × (is_part_name (codes "ä") ≡ false)
no_names_of_parts = (refl, refl, refl)

abbrev first : NamedPart
first = record { name = codes "a"; tree = empty; levels = 0 }

abbrev second : NamedPart
second = record { name = codes "a"; tree = literal (codes "b"); levels = 1 }

-- of two with one name it is the first; another name has none
first_of_a_name : (part_named (first ∷ second ∷ []) (codes "a") ≡ Some first) × (part_named (first ∷ second ∷ []) (codes "ab") ≡ None)
first_of_a_name = (refl, refl)
