-- Cases of specs/RustSource.antt.
use Rattle.std.proofs.Common.{◌≡◌, ◌<◌, ℕ, zero, suc, List, [], ◌∷◌, codes, length, refl, ap, arith, lit<, subst}
use Rattle.std.specs.Prelude.{slice_get, Some}
use Rattle.std.proofs.lemmas.Option.{same_Some}
use Rattle.std.specs.Fmt.{digits}
use Rattle.lalrpop_dense.specs.DenseTable.{TableNumbers}
use Rattle.std.specs.List.{list_all}
use Rattle.lalrpop_emit.specs.Ahead.{AheadNumbers}
use Rattle.lalrpop_emit.specs.CSource.{is_narrow_ahead}
use Rattle.lalrpop_emit.specs.RustSource.{IsVariant, IsFirstBadVariant, IsRustError, ahead_text, cell_type, kind_enum, list_field, name_fields, number_field, table_text}
use Rattle.lalrpop_emit.specs.declared.error.EmitError.TheVariants.{BadPrefix}

-- a word of Rust's can be a variant
keyword : IsVariant (codes "if")
keyword = record { identifier = record { part = record { some = λ e. omega (arith, ap length e); bytes = refl }; first = refl }; free = refl }

no_path_word : ¬ IsVariant (codes "self")
no_path_word h = let bad = h.free in cc

no_digit_first : ¬ IsVariant (codes "2a")
no_digit_first h = let bad = h.identifier.first in cc

second_is_bad : IsFirstBadVariant (codes "if" ∷ codes "_" ∷ []) 1
second_is_bad = record { name = codes "_"; at = refl; bad = λ h. let bad = h.free in cc; before = first }
  where
    first : (j : ℕ) (n : List ℕ) → j < 1 → slice_get (codes "if" ∷ codes "_" ∷ []) j ≡ Some n → IsVariant n
    first zero n l e = subst IsVariant (same_Some (codes "if") n e) keyword
    first (suc j) n l e = absurd (omega (arith, l))

-- one before it is bad too
third_is_not_the_first : ¬ IsFirstBadVariant (codes "if" ∷ codes "_" ∷ codes "Self" ∷ []) 2
third_is_not_the_first h = let bad = (h.before 1 (codes "_") (lit< tt) refl).free in cc

no_prefix : ¬ IsRustError [] BadPrefix
no_prefix h = h

enum_of_two : kind_enum (codes "IF" ∷ codes "id" ∷ []) ≡ codes "pub enum Kind {\n    r#IF,\n    r#id,\n}\n"
unfolding kind_enum
enum_of_two = refl

names_of_one : name_fields (codes "IF" ∷ []) ≡ codes "    variants: &[\n        Kind::r#IF,\n    ],\n    names: &[\n        \"IF\",\n    ],\n"
unfolding name_fields
names_of_one = refl

a_number : number_field (codes "live") 31 ≡ codes "live: 31,\n"
unfolding number_field digits
a_number = refl

a_list : list_field (codes "pages") (0 ∷ 12 ∷ []) ≡ codes "pages: &[\n0, 12, ],\n"
unfolding list_field digits
a_list = refl

ahead_of_one_row : ahead_text (record { start = 0; width = 1; ends = 2; waiting = 0; before = 3; cells = 0 ∷ 65535 ∷ [] })
    ≡ codes "        Ahead {\n            start: 0,\n            width: 1,\n            ends: 2,\n            waiting: 0,\n            before: 3,\n            cells: &[\n0, 65535, ],\n        },\n"
unfolding ahead_text number_field list_field digits
ahead_of_one_row = refl

small : TableNumbers
small = record { blocks = 0 ∷ 1 ∷ []; pages = 0 ∷ []; start = 0; width = 1; live = 0; accept = 0; cells = 65535 ∷ [] }

table_of_one_page : table_text small ≡ codes "        Table {\n            blocks: &[\n0, 1, ],\n            pages: &[\n0, ],\n        },\n"
unfolding table_text list_field digits small
table_of_one_page = refl

ahead : AheadNumbers
ahead = record { start = 0; width = 1; ends = 65536; waiting = 0; before = 0; cells = 65535 ∷ [] }

-- 65,535 still fits 16 bits
narrow : cell_type (list_all is_narrow_ahead (ahead ∷ [])) ≡ codes "u16"
unfolding cell_type ahead
narrow = refl

-- one wide table of two
wide : cell_type (list_all is_narrow_ahead (ahead ∷ record ahead { cells = 0 ∷ 65536 ∷ [] } ∷ [])) ≡ codes "u32"
unfolding cell_type ahead
wide = refl
