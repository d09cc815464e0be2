-- Cases of specs/RuleClashes.antt.
use Rattle.std.proofs.Common.{◌≡◌, [], ◌∷◌, None, codes, refl}
use Rattle.std.specs.Fmt.{digits}
use Rattle.ucd_category.proofs.Computing.{ucd_category}
use Rattle.ucd_derived.proofs.Computing.{ucd_derived}
use Rattle.lalrpop_hir.specs.Clashes.{Entry}
use Rattle.reports_lib.specs.RuleClashes.{clash_lines, named_line}

abbrev on_if : Entry
on_if = record { match0 = 1; match1 = 0; word = 105 ∷ 102 ∷ [] }

abbrev on_a_surrogate : Entry
on_a_surrogate = record { match0 = 1; match1 = 0; word = 55296 ∷ [] }

-- the earlier rule comes first
line_of_if : named_line (codes "IF" ∷ codes "NAME" ∷ []) None on_if ≡ codes "IF NAME \"if\"\n"
unfolding lib.Utf8.encode ucd_category ucd_derived
line_of_if = refl

line_of_a_surrogate : named_line (codes "A" ∷ codes "B" ∷ []) None on_a_surrogate ≡ codes "A B \"\\u{d800}\"\n"
unfolding digits
line_of_a_surrogate = refl

-- of two modes the second has a clash
lines_of_two_modes : clash_lines (codes "A" ∷ codes "B" ∷ []) (codes "IF" ∷ codes "NAME" ∷ []) 0 ([] ∷ (on_if ∷ []) ∷ []) ≡ codes "B IF NAME \"if\"\n"
unfolding lib.Utf8.encode ucd_category ucd_derived
lines_of_two_modes = refl

-- one mode isn't named
lines_of_one_mode : clash_lines (codes "A" ∷ []) (codes "IF" ∷ codes "NAME" ∷ []) 0 ((on_if ∷ []) ∷ []) ≡ codes "IF NAME \"if\"\n"
unfolding lib.Utf8.encode ucd_category ucd_derived
lines_of_one_mode = refl
