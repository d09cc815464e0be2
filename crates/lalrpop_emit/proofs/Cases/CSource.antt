-- Cases of specs/CSource.antt.
use Rattle.std.proofs.Common.{◌≡◌, ◌++◌, [], ◌∷◌, codes, refl, true, false, ap, length, arith}
use Rattle.std.specs.Fmt.{digits}
use Rattle.std.specs.Str.{chars}
use Rattle.lalrpop_dense.specs.DenseTable.{TableNumbers}
use Rattle.std.specs.List.{list_all}
use Rattle.lalrpop_emit.specs.Ahead.{AheadNumbers}
use Rattle.lalrpop_emit.specs.CSource.{ahead_arrays, ahead_cells, ahead_row, array, cell_type, field, filled, flags, is_narrow_ahead, kind_enum, listed, listing, mode_array, mode_arrays, name_array, row_arrays, table_arrays, table_row, table_rows}

-- each `$` becomes the prefix
prefix_twice : filled (codes "lex") (codes "$_cell $_a") ≡ codes "lex_cell lex_a"
unfolding filled chars lib.Utf8.encode
prefix_twice = refl

two_numbers : listed 0 (7 ∷ 12 ∷ []) ≡ codes "7, 12, "
unfolding digits
two_numbers = refl

-- the sixteenth ends its line
sixteenth : listed 15 (7 ∷ 12 ∷ []) ≡ codes "7,\n12, "
unfolding digits
sixteenth = refl

-- one number more is another text
one_more : ¬ (listed 0 (7 ∷ []) ≡ listed 0 (7 ∷ 0 ∷ []))
unfolding digits
one_more e = omega (arith, ap length e)

array_of_two : array (codes "lex") (codes "uint8_t $_skipped") (flags (true ∷ false ∷ [])) ≡ codes "static const uint8_t lex_skipped[2] = {\n1, 0, };\n"
unfolding array filled listing digits chars lib.Utf8.encode
array_of_two = refl

names_of_two : name_array (codes "lex") (codes "IF" ∷ codes "ID" ∷ []) ≡ codes "#ifndef lex_header\nstatic const char *const lex_names[2] = {\n    \"IF\",\n    \"ID\",\n};\n"
unfolding name_array filled digits chars lib.Utf8.encode
names_of_two = refl

kinds_of_two : kind_enum (codes "lex") (codes "IF" ∷ codes "ID" ∷ []) ≡ codes "#endif\nenum {\n    lex_kind_IF = 0,\n    lex_kind_ID = 1,\n    lex_fault = -1\n};\n#ifndef lex_header\n"
unfolding kind_enum filled digits chars lib.Utf8.encode
kinds_of_two = refl

-- a table of one row, which is dead
abbrev small : TableNumbers
small = record { blocks = 0 ∷ []; pages = 0 ∷ []; start = 0; width = 1; live = 2; accept = 2; cells = 0 ∷ 0 ∷ [] }

classes_of_the_third : mode_arrays (codes "lex") 2 small ≡ codes "static const uint8_t lex_blocks_2[1] = {\n0, };\nstatic const uint16_t lex_pages_2[1] = {\n0, };\n"
unfolding mode_arrays mode_array filled listing digits chars lib.Utf8.encode
classes_of_the_third = refl

no_tables : table_arrays (codes "lex") 0 [] ≡ []
no_tables = refl

row_of_the_third : table_row (codes "lex") 2 small ≡ codes "    {lex_blocks_2, lex_pages_2, 0},\n"
unfolding table_row row_arrays field filled digits chars lib.Utf8.encode
row_of_the_third = refl

-- a table that runs ahead, of two rows
abbrev ahead : AheadNumbers
ahead = record { start = 2; width = 1; ends = 4; waiting = 0; before = 3; cells = 0 ∷ 65535 ∷ 0 ∷ 65535 ∷ [] }

-- the number that no rule has fits 16 bits, too
narrow : cell_type (list_all is_narrow_ahead (ahead ∷ ahead ∷ [])) ≡ codes "uint16_t"
unfolding cell_type
narrow = refl

-- where the ends begin needn't fit them
narrow_by_cells : is_narrow_ahead (record ahead { ends = 65536 }) ≡ true
narrow_by_cells = refl

-- one wide table makes the cells of all wide
wide : cell_type (list_all is_narrow_ahead (ahead ∷ (record ahead { cells = 65536 ∷ [] }) ∷ [])) ≡ codes "uint32_t"
unfolding cell_type
wide = refl

cells_of_the_third : ahead_cells (codes "lex") 2 ahead ≡ codes "static const lex_ahead_cell lex_ahead_cells_2[4] = {\n0, 65535, 0, 65535, };\n"
unfolding mode_array filled listing digits chars lib.Utf8.encode
cells_of_the_third = refl

none_ahead : ahead_arrays (codes "lex") 0 [] ≡ []
none_ahead = refl

ahead_of_the_third : ahead_row (codes "lex") 2 ahead ≡ codes "    {lex_ahead_cells_2, 2, 1, 4, 0, 3},\n"
unfolding ahead_row field filled digits chars lib.Utf8.encode
ahead_of_the_third = refl

-- each has the arrays of its own mode
rows_of_two : table_rows (codes "lex") 0 (small ∷ small ∷ []) ≡ table_row (codes "lex") 0 small ++ (table_row (codes "lex") 1 small ++ [])
rows_of_two = refl

-- pages stand in the file, cells don't
other_page : ¬ (mode_arrays (codes "lex") 2 small ≡ mode_arrays (codes "lex") 2 (record small { pages = 0 ∷ 0 ∷ [] }))
unfolding mode_arrays mode_array filled listing digits chars lib.Utf8.encode
other_page e = omega (arith, ap length e)

other_cells : mode_arrays (codes "lex") 2 small ≡ mode_arrays (codes "lex") 2 (record small { cells = [] })
unfolding mode_arrays
other_cells = refl
