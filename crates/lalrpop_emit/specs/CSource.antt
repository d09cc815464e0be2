-- cases: proofs/Cases/CSource.antt
-- The source file of a lexer in C.
use Rattle.std.specs.Prelude.{ℕ, ◌+◌, ◌-◌, ◌%◌, ◌==◌, Bool, List, [], ◌∷◌, ◌++◌, length, map, codes, decimal, flat_map, chars, encode_utf8, nat_lt, if◌then◌else◌}
use Rattle.std.specs.List.{list_all}
use Rattle.lalrpop_dense.specs.DenseTable.{TableNumbers}
use Rattle.lalrpop_emit.specs.Ahead.{AheadNumbers}
use Rattle.lalrpop_emit.specs.NumberedRules.{NumberedRules}
use Rattle.lalrpop_emit.specs.declared.c_text.TheConstants.{HEAD, TABLE, AHEAD, DRIVER}

-- a fixed text, with the prefix for each `$`
unfoldable pub filled : List ℕ → List ℕ → List ℕ
filled prefix text = flat_map (λ c. if c == 36 then prefix else encode_utf8 c) (chars text)

-- numbers from the place k of a list on, each with a comma after it, sixteen on a line
abbrev pub listed : ℕ → List ℕ → List ℕ
listed k [] = []
listed k (n ∷ ns) = decimal n ++ (44 ∷ ((if k % 16 == 15 then 10 else 32) ∷ listed (k + 1) ns))

-- how many numbers an array has, and which
unfoldable pub listing : List ℕ → List ℕ
listing ns = codes "[" ++ (decimal (length ns) ++ (codes "] = {\n" ++ (listed 0 ns ++ codes "};\n")))

-- an array of constants with this type and name
unfoldable pub array : List ℕ → List ℕ → List ℕ → List ℕ
array prefix head ns = codes "static const " ++ (filled prefix head ++ listing ns)

-- the names of the kinds
abbrev pub quoted_names : List (List ℕ) → List ℕ
quoted_names [] = []
quoted_names (name ∷ names) = codes "    \"" ++ (name ++ (codes "\",\n" ++ quoted_names names))

unfoldable pub name_array : List ℕ → List (List ℕ) → List ℕ
name_array prefix names =
    filled prefix (codes "#ifndef $_header\nstatic const char *const $_names[")
    ++ (decimal (length names) ++ (codes "] = {\n" ++ (quoted_names names ++ codes "};\n")))

-- an enumerator for each kind from the number k on
abbrev pub enumerators : List ℕ → ℕ → List (List ℕ) → List ℕ
enumerators prefix k [] = []
enumerators prefix k (name ∷ names) =
    filled prefix (codes "    $_kind_") ++ (name ++ (codes " = " ++ (decimal k ++ (codes ",\n" ++ enumerators prefix (k + 1) names))))

unfoldable pub kind_enum : List ℕ → List (List ℕ) → List ℕ
kind_enum prefix names = codes "#endif\nenum {\n" ++ (enumerators prefix 0 names ++ filled prefix (codes "    $_fault = -1\n};\n#ifndef $_header\n"))

-- 1 for true
abbrev pub flags : List Bool → List ℕ
flags bs = map (λ b. if b then 1 else 0) bs

-- the names of the rules, and their numbers
unfoldable pub rules_text : List ℕ → NumberedRules → List ℕ
rules_text prefix r =
    name_array prefix r.names
    ++ (kind_enum prefix r.names
    ++ (array prefix (codes "uint16_t $_kinds") r.kinds
    ++ (array prefix (codes "uint8_t $_skipped") (flags r.skips)
    ++ (array prefix (codes "uint32_t $_first_actions") r.first_actions
    ++ array prefix (codes "uint32_t $_actions") r.actions))))

-- the cells fit 16 bits
abbrev pub is_narrow_ahead : AheadNumbers → Bool
is_narrow_ahead a = list_all (λ n. nat_lt n 65536) a.cells

-- the type of cells: 16 bits if all fit
unfoldable pub cell_type : Bool → List ℕ
cell_type narrow = if narrow then codes "uint16_t" else codes "uint32_t"

unfoldable pub cell_typedef : List ℕ → Bool → List ℕ → List ℕ
cell_typedef prefix narrow name = codes "#endif\ntypedef " ++ (cell_type narrow ++ (codes " " ++ filled prefix name))

-- how many modes there are
unfoldable pub mode_count : List ℕ → ℕ → List ℕ
mode_count prefix n = filled prefix (codes "enum { $_modes = ") ++ (decimal n ++ codes " };\n")

-- an array whose name ends with the number k of a mode
unfoldable pub mode_array : List ℕ → List ℕ → ℕ → List ℕ → List ℕ
mode_array prefix head k ns = codes "static const " ++ (filled prefix head ++ (decimal k ++ listing ns))

-- the arrays of the table of mode k: of its numbers, those that tell the classes of characters
unfoldable pub mode_arrays : List ℕ → ℕ → TableNumbers → List ℕ
mode_arrays prefix k t =
    mode_array prefix (codes "uint8_t $_blocks_") k t.blocks
    ++ mode_array prefix (codes "uint16_t $_pages_") k t.pages

-- the arrays of the tables from mode k on
abbrev pub table_arrays : List ℕ → ℕ → List TableNumbers → List ℕ
table_arrays prefix k [] = []
table_arrays prefix k (t ∷ ts) = mode_arrays prefix k t ++ table_arrays prefix (k + 1) ts

-- a number after a comma
unfoldable pub field : ℕ → List ℕ
field n = codes ", " ++ decimal n

-- where the table of mode k begins: the names of its arrays
unfoldable pub row_arrays : List ℕ → ℕ → List ℕ
row_arrays prefix k =
    filled prefix (codes "    {$_blocks_") ++ (decimal k
    ++ (filled prefix (codes ", $_pages_") ++ decimal k))

-- the table of mode k: its arrays, and the index of its last page
unfoldable pub table_row : List ℕ → ℕ → TableNumbers → List ℕ
table_row prefix k t =
    row_arrays prefix k ++ (field (length t.pages - 1) ++ codes "},\n")

-- the tables from mode k on
abbrev pub table_rows : List ℕ → ℕ → List TableNumbers → List ℕ
table_rows prefix k [] = []
table_rows prefix k (t ∷ ts) = table_row prefix k t ++ table_rows prefix (k + 1) ts

-- the tables, after the type and arrays that they need
unfoldable pub tables_text : List ℕ → List TableNumbers → List ℕ
tables_text prefix ts =
    filled prefix TABLE.now
    ++ (mode_count prefix (length ts)
    ++ (table_arrays prefix 0 ts
    ++ (filled prefix (codes "static const $_table $_tables[$_modes] = {\n") ++ (table_rows prefix 0 ts ++ codes "};\n"))))

-- the cells of the table of mode k that runs ahead
abbrev pub ahead_cells : List ℕ → ℕ → AheadNumbers → List ℕ
ahead_cells prefix k a = mode_array prefix (codes "$_ahead_cell $_ahead_cells_") k a.cells

-- those from mode k on
abbrev pub ahead_arrays : List ℕ → ℕ → List AheadNumbers → List ℕ
ahead_arrays prefix k [] = []
ahead_arrays prefix k (a ∷ aheads) = ahead_cells prefix k a ++ ahead_arrays prefix (k + 1) aheads

-- the table of mode k that runs ahead: its cells, and its other numbers
unfoldable pub ahead_row : List ℕ → ℕ → AheadNumbers → List ℕ
ahead_row prefix k a =
    filled prefix (codes "    {$_ahead_cells_") ++ (decimal k ++ (field a.start ++ (field a.width ++ (field a.ends ++ (field a.waiting ++ (field a.before ++ codes "},\n"))))))

-- those from mode k on
abbrev pub ahead_rows : List ℕ → ℕ → List AheadNumbers → List ℕ
ahead_rows prefix k [] = []
ahead_rows prefix k (a ∷ aheads) = ahead_row prefix k a ++ ahead_rows prefix (k + 1) aheads

-- the tables that run ahead, after the types and arrays that they need
unfoldable pub ahead_text : List ℕ → List AheadNumbers → List ℕ
ahead_text prefix aheads =
    cell_typedef prefix (list_all is_narrow_ahead aheads) (codes "$_ahead_cell;\n")
    ++ (filled prefix AHEAD.now
    ++ (ahead_arrays prefix 0 aheads
    ++ (filled prefix (codes "static const $_ahead $_aheads[$_modes] = {\n") ++ (ahead_rows prefix 0 aheads ++ codes "};\n"))))

-- the whole file
unfoldable pub c_file : List ℕ → NumberedRules → List ℕ
c_file prefix r =
    codes "/* " ++ (prefix ++ (codes ":" ++ (HEAD.now ++ (rules_text prefix r ++ (tables_text prefix r.tables ++ (ahead_text prefix r.ahead ++ filled prefix DRIVER.now))))))
