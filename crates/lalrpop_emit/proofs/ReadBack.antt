-- The source file of a lexer has its numbers (of `tables` the blocks and pages alone): no others have the same file.
use Rattle.std.proofs.Common.{◌≡◌, ℕ, ◌+◌, ◌-◌, ◌<◌, ◌^◌, List, [], ◌∷◌, ◌++◌, append_assoc, length, refl, sym, ap, subst, ◌∙◌, arith, true, false, Bool, lit<}
use Rattle.std.specs.Prelude.{codes, decimal}
use Rattle.std.specs.Str.{chars}
use Rattle.std.specs.List.{All, list_all}
use Rattle.std.proofs.lemmas.List.{append_cancel_left}
use Rattle.std.proofs.lemmas.List.Elements.{All-head, All-tail}
use Rattle.lalrpop_dense.specs.DenseTable.{TableNumbers}
use Rattle.lalrpop_emit.specs.Names.{IsIdentifier}
use Rattle.lalrpop_emit.specs.NumberedRules.{AreSameInFile, NumberedRules, IsStorable, IsStorableAhead, IsStorableTable}
use Rattle.lalrpop_emit.specs.Ahead.{AheadNumbers}
use Rattle.lalrpop_emit.specs.CSource.{ahead_arrays, ahead_cells, ahead_row, ahead_rows, ahead_text, array, listing, mode_array, mode_arrays, table_arrays, field, row_arrays, table_row, table_rows, cell_typedef, mode_count, tables_text, name_array, kind_enum, flags, is_narrow_ahead, cell_type, rules_text, c_file, filled}
use Rattle.lalrpop_emit.specs.declared.c_text.TheConstants.{HEAD, TABLE, AHEAD, DRIVER}
use Rattle.lalrpop_emit.proofs.SameNumbers.{HaveSameLists, SameLists, below, count_flags, flags_below, flags_same, same_ahead, same_blocks, same_pages}
use Rattle.lalrpop_emit.proofs.Reading.{Lacks, cut_before, name_without, peel, skip, read_decimal, read_array, read_mode_array, read_name_array}

-- ---- the rules

abbrev actions_text : List ℕ → NumberedRules → List ℕ
actions_text p x = array p (codes "uint32_t $_actions") x.actions

abbrev firsts_text : List ℕ → NumberedRules → List ℕ
firsts_text p x = array p (codes "uint32_t $_first_actions") x.first_actions ++ actions_text p x

abbrev skips_text : List ℕ → NumberedRules → List ℕ
skips_text p x = array p (codes "uint8_t $_skipped") (flags x.skips) ++ firsts_text p x

abbrev kinds_text : List ℕ → NumberedRules → List ℕ
kinds_text p x = array p (codes "uint16_t $_kinds") x.kinds ++ skips_text p x

-- the numbers of the rules are the same, and so is the text after them
record RulesRead (x y : NumberedRules) (r s : List ℕ) : Type 0 where
  names : x.names ≡ y.names
  kinds : x.kinds ≡ y.kinds
  skips : x.skips ≡ y.skips
  first_actions : x.first_actions ≡ y.first_actions
  actions : x.actions ≡ y.actions
  rest : r ≡ s

read_rules : (p : List ℕ) (x y : NumberedRules) (r s : List ℕ) → IsStorable x → IsStorable y → rules_text p x ++ r ≡ rules_text p y ++ s → RulesRead x y r s
unfolding rules_text
read_rules p x y r s hx hy e =
    let behind_x = kind_enum p x.names ++ kinds_text p x in
    let behind_y = kind_enum p y.names ++ kinds_text p y in
    let names = read_name_array p x.names y.names (behind_x ++ r) (behind_y ++ s) hx.few_names hy.few_names hx.names hy.names
    (peel (name_array p x.names) behind_x (name_array p y.names) behind_y r s e) in
    let enums : (kind_enum p y.names ++ kinds_text p x) ++ r ≡ (kind_enum p y.names ++ kinds_text p y) ++ s =
    subst (λ (ns : List (List ℕ)). (kind_enum p ns ++ kinds_text p x) ++ r ≡ (kind_enum p y.names ++ kinds_text p y) ++ s) names.0 names.1 in
    let numbers = skip (kind_enum p y.names) (kinds_text p x) (kinds_text p y) r s enums in
    let kinds_head = codes "uint16_t $_kinds" in
    let kinds = read_array p kinds_head x.kinds y.kinds (skips_text p x ++ r) (skips_text p y ++ s) hx.all_kinds hy.all_kinds
    (below 16 x.kinds (lit< tt) hx.kinds) (below 16 y.kinds (lit< tt) hy.kinds)
    (peel (array p kinds_head x.kinds) (skips_text p x) (array p kinds_head y.kinds) (skips_text p y) r s numbers) in
    let skips_head = codes "uint8_t $_skipped" in
    let skips = read_array p skips_head (flags x.skips) (flags y.skips) (firsts_text p x ++ r) (firsts_text p y ++ s)
    (omega (arith, hx.skips, count_flags x.skips)) (omega (arith, hy.skips, count_flags y.skips)) (flags_below x.skips) (flags_below y.skips)
    (peel (array p skips_head (flags x.skips)) (firsts_text p x) (array p skips_head (flags y.skips)) (firsts_text p y) r s kinds.1) in
    let firsts_head = codes "uint32_t $_first_actions" in
    let firsts = read_array p firsts_head x.first_actions y.first_actions (actions_text p x ++ r) (actions_text p y ++ s) hx.all_first_actions hy.all_first_actions
    (below 32 x.first_actions (lit< tt) hx.first_actions) (below 32 y.first_actions (lit< tt) hy.first_actions)
    (peel (array p firsts_head x.first_actions) (actions_text p x) (array p firsts_head y.first_actions) (actions_text p y) r s skips.1) in
    let actions = read_array p (codes "uint32_t $_actions") x.actions y.actions r s hx.all_actions hy.all_actions
    (below 32 x.actions (lit< tt) hx.actions) (below 32 y.actions (lit< tt) hy.actions) firsts.1 in
    record { names = names.0; kinds = kinds.0; skips = flags_same x.skips y.skips skips.0; first_actions = firsts.0; actions = actions.0; rest = actions.1 }

-- ---- how many tables there are

type_lacks : (narrow : Bool) → Lacks 32 (cell_type narrow)
unfolding cell_type
type_lacks true = ((λ e. omega (arith, e)), ((λ e. omega (arith, e)), ((λ e. omega (arith, e)), ((λ e. omega (arith, e)), ((λ e. omega (arith, e)), ((λ e. omega (arith, e)), ((λ e. omega (arith, e)), ((λ e. omega (arith, e)), tt))))))))
type_lacks false = ((λ e. omega (arith, e)), ((λ e. omega (arith, e)), ((λ e. omega (arith, e)), ((λ e. omega (arith, e)), ((λ e. omega (arith, e)), ((λ e. omega (arith, e)), ((λ e. omega (arith, e)), ((λ e. omega (arith, e)), tt))))))))

-- the text after it is the same
read_typedef : (p name : List ℕ) (b c : Bool) (r s : List ℕ) → cell_typedef p b name ++ r ≡ cell_typedef p c name ++ s → r ≡ s
unfolding cell_typedef
read_typedef p name b c r s e =
    let text = filled p name in
    let type = skip (codes "#endif\ntypedef ") (cell_type b ++ (codes " " ++ text)) (cell_type c ++ (codes " " ++ text)) r s e in
    let cell = cut_before 32 (cell_type b) (cell_type c) [] (text ++ r) (text ++ s) (type_lacks b) (type_lacks c)
    (peel (cell_type b) (codes " " ++ text) (cell_type c) (codes " " ++ text) r s type) in
    append_cancel_left text r s cell.1

read_mode_count : (p : List ℕ) (m n : ℕ) (r s : List ℕ) → m < 2 ^ 16 → n < 2 ^ 16 → mode_count p m ++ r ≡ mode_count p n ++ s → (m ≡ n) × (r ≡ s)
unfolding mode_count
read_mode_count p m n r s small few e =
    let count = skip (filled p (codes "enum { $_modes = ")) (decimal m ++ codes " };\n") (decimal n ++ codes " };\n") r s e in
    read_decimal 32 m n (codes "};\n") r s refl (omega (arith, small)) (omega (arith, few)) (peel (decimal m) (codes " };\n") (decimal n) (codes " };\n") r s count)

-- ---- the arrays of the tables

abbrev pages_text : List ℕ → ℕ → TableNumbers → List ℕ
pages_text p k t = mode_array p (codes "uint16_t $_pages_") k t.pages

read_mode_arrays : (p : List ℕ) (k : ℕ) (t u : TableNumbers) (r s : List ℕ) → IsStorableTable t → IsStorableTable u → mode_arrays p k t ++ r ≡ mode_arrays p k u ++ s → SameLists t u × (r ≡ s)
unfolding mode_arrays
read_mode_arrays p k t u r s ht hu e =
    let blocks_head = codes "uint8_t $_blocks_" in
    let blocks = read_mode_array p blocks_head k t.blocks u.blocks (pages_text p k t ++ r) (pages_text p k u ++ s) ht.all_blocks hu.all_blocks
    (below 8 t.blocks (lit< tt) ht.blocks) (below 8 u.blocks (lit< tt) hu.blocks)
    (peel (mode_array p blocks_head k t.blocks) (pages_text p k t) (mode_array p blocks_head k u.blocks) (pages_text p k u) r s e) in
    let pages = read_mode_array p (codes "uint16_t $_pages_") k t.pages u.pages r s ht.all_pages hu.all_pages
    (below 16 t.pages (lit< tt) ht.pages) (below 16 u.pages (lit< tt) hu.pages) blocks.1 in
    (record { blocks = blocks.0; pages = pages.0 }, pages.1)

read_table_arrays : (p : List ℕ) (k : ℕ) (ts us : List TableNumbers) (r s : List ℕ) → length ts ≡ length us → All IsStorableTable ts → All IsStorableTable us
    → table_arrays p k ts ++ r ≡ table_arrays p k us ++ s → HaveSameLists ts us × (r ≡ s)
read_table_arrays p k [] [] r s l ats aus e = (tt, e)
read_table_arrays p k [] (u ∷ us) r s l ats aus e = absurd (omega (arith, l))
read_table_arrays p k (t ∷ ts) [] r s l ats aus e = absurd (omega (arith, l))
read_table_arrays p k (t ∷ ts) (u ∷ us) r s l ats aus e =
    let first = read_mode_arrays p k t u (table_arrays p (k + 1) ts ++ r) (table_arrays p (k + 1) us ++ s) (All-head IsStorableTable t ts ats) (All-head IsStorableTable u us aus)
    (peel (mode_arrays p k t) (table_arrays p (k + 1) ts) (mode_arrays p k u) (table_arrays p (k + 1) us) r s e) in
    let rest = read_table_arrays p (k + 1) ts us r s (omega (arith, l)) (All-tail IsStorableTable t ts ats) (All-tail IsStorableTable u us aus) first.1 in
    ((first.0, rest.0), rest.1)

-- ---- the tables

-- tables with the same pages have the same row
same_row : (p : List ℕ) (k : ℕ) (t u : TableNumbers) → t.pages ≡ u.pages → table_row p k t ≡ table_row p k u
unfolding table_row
same_row p k t u e = ap (λ (pages : List ℕ). row_arrays p k ++ (field (length pages - 1) ++ codes "},\n")) e

same_rows : (p : List ℕ) (k : ℕ) (ts us : List TableNumbers) → HaveSameLists ts us → table_rows p k ts ≡ table_rows p k us
same_rows p k [] [] same = refl
same_rows p k [] (u ∷ us) same = absurd same
same_rows p k (t ∷ ts) [] same = absurd same
same_rows p k (t ∷ ts) (u ∷ us) same =
    ap (λ (x : List ℕ). x ++ table_rows p (k + 1) ts) (same_row p k t u same.0.pages)
    ∙ ap (λ (x : List ℕ). table_row p k u ++ x) (same_rows p (k + 1) ts us same.1)

abbrev tables_head : List ℕ → List ℕ
tables_head p = filled p (codes "static const $_table $_tables[$_modes] = {\n")

abbrev rows_text : List ℕ → List TableNumbers → List ℕ
rows_text p ts = table_rows p 0 ts ++ codes "};\n"

abbrev arrays_text : List ℕ → List TableNumbers → List ℕ
arrays_text p ts = table_arrays p 0 ts ++ (tables_head p ++ rows_text p ts)

abbrev counted_text : List ℕ → List TableNumbers → List ℕ
counted_text p ts = mode_count p (length ts) ++ arrays_text p ts

-- the lists of the tables are the same, and so is the text after them
read_tables : (p : List ℕ) (x y : NumberedRules) (r s : List ℕ) → IsStorable x → IsStorable y → tables_text p x.tables ++ r ≡ tables_text p y.tables ++ s → HaveSameLists x.tables y.tables × (r ≡ s)
unfolding tables_text
read_tables p x y r s hx hy e =
    let ts = x.tables in
    let us = y.tables in
    let counted = skip (filled p TABLE.now) (counted_text p ts) (counted_text p us) r s e in
    let count = read_mode_count p (length ts) (length us) (arrays_text p ts ++ r) (arrays_text p us ++ s) hx.modes hy.modes
    (peel (mode_count p (length ts)) (arrays_text p ts) (mode_count p (length us)) (arrays_text p us) r s counted) in
    let lists = read_table_arrays p 0 ts us ((tables_head p ++ rows_text p ts) ++ r) ((tables_head p ++ rows_text p us) ++ s) count.0 hx.tables hy.tables
    (peel (table_arrays p 0 ts) (tables_head p ++ rows_text p ts) (table_arrays p 0 us) (tables_head p ++ rows_text p us) r s count.1) in
    let rows = skip (tables_head p) (rows_text p ts) (rows_text p us) r s lists.1 in
    let same : rows_text p us ++ r ≡ rows_text p us ++ s =
    subst (λ (x : List ℕ). (x ++ codes "};\n") ++ r ≡ rows_text p us ++ s) (same_rows p 0 ts us lists.0) rows in
    (lists.0, append_cancel_left (rows_text p us) r s same)

-- ---- the tables that run ahead

abbrev ahead_cells_head : List ℕ
ahead_cells_head = codes "$_ahead_cell $_ahead_cells_"

abbrev aheads_head : List ℕ → List ℕ
aheads_head p = filled p (codes "static const $_ahead $_aheads[$_modes] = {\n")

-- what follows the prefix where an array of cells begins, and where the array of the tables does
abbrev behind_cells : List ℕ → List ℕ
behind_cells p = codes "_ahead_cell " ++ (p ++ codes "_ahead_cells_")

abbrev behind_aheads : List ℕ → List ℕ
behind_aheads p = codes "_ahead " ++ (p ++ (codes "_aheads[" ++ (p ++ codes "_modes] = {\n")))

cells_begin : (p : List ℕ) → filled p ahead_cells_head ≡ p ++ behind_cells p
unfolding filled chars lib.Utf8.encode
cells_begin p = refl

aheads_begin : (p : List ℕ) → aheads_head p ≡ codes "static const " ++ (p ++ behind_aheads p)
unfolding filled chars lib.Utf8.encode
aheads_begin p = refl

abbrev first_of_text : List ℕ → ℕ
first_of_text [] = 0
first_of_text (x ∷ xs) = x

-- where an array of cells begins the tables don't
no_cells : (p : List ℕ) (k : ℕ) (ns r s : List ℕ) → mode_array p ahead_cells_head k ns ++ r ≡ aheads_head p ++ s → ⊥
unfolding mode_array
no_cells p k ns r s e =
    let start = codes "static const " in
    let rest = decimal k ++ listing ns in
    let begun : (start ++ ((p ++ behind_cells p) ++ rest)) ++ r ≡ (start ++ (p ++ behind_aheads p)) ++ s =
    subst (λ (x : List ℕ). (start ++ (x ++ rest)) ++ r ≡ (start ++ (p ++ behind_aheads p)) ++ s) (cells_begin p)
    (subst (λ (x : List ℕ). (start ++ (filled p ahead_cells_head ++ rest)) ++ r ≡ x ++ s) (aheads_begin p) e) in
    let named = skip start ((p ++ behind_cells p) ++ rest) (p ++ behind_aheads p) r s begun in
    let behind = skip p (behind_cells p ++ rest) (behind_aheads p) r s (ap (λ (x : List ℕ). x ++ r) (sym (append_assoc p (behind_cells p) rest)) ∙ named) in
    omega (arith, ap first_of_text (append_cancel_left (codes "_ahead") _ _ behind))

abbrev HaveSameCells : List AheadNumbers → List AheadNumbers → Type 0
HaveSameCells [] [] = Unit {0}
HaveSameCells [] (b ∷ bs) = ⊥
HaveSameCells (a ∷ xs) [] = ⊥
HaveSameCells (a ∷ xs) (b ∷ bs) = (a.cells ≡ b.cells) × HaveSameCells xs bs

read_ahead_arrays : (p : List ℕ) (k : ℕ) (xs bs : List AheadNumbers) (r s : List ℕ) → All IsStorableAhead xs → All IsStorableAhead bs
    → ahead_arrays p k xs ++ (aheads_head p ++ r) ≡ ahead_arrays p k bs ++ (aheads_head p ++ s) → HaveSameCells xs bs × (r ≡ s)
read_ahead_arrays p k [] [] r s ha hb e = (tt, append_cancel_left (aheads_head p) r s e)
read_ahead_arrays p k [] (b ∷ bs) r s ha hb e =
    absurd (no_cells p k b.cells _ r (sym (append_assoc (ahead_cells p k b) (ahead_arrays p (k + 1) bs) (aheads_head p ++ s)) ∙ sym e))
read_ahead_arrays p k (a ∷ xs) [] r s ha hb e =
    absurd (no_cells p k a.cells _ s (sym (append_assoc (ahead_cells p k a) (ahead_arrays p (k + 1) xs) (aheads_head p ++ r)) ∙ e))
read_ahead_arrays p k (a ∷ xs) (b ∷ bs) r s ha hb e =
    let la = All-head IsStorableAhead a xs ha in
    let lb = All-head IsStorableAhead b bs hb in
    let behind_x = ahead_arrays p (k + 1) xs ++ (aheads_head p ++ r) in
    let behind_b = ahead_arrays p (k + 1) bs ++ (aheads_head p ++ s) in
    let first = read_mode_array p ahead_cells_head k a.cells b.cells behind_x behind_b la.all_cells lb.all_cells
    (below 32 a.cells (lit< tt) la.cells) (below 32 b.cells (lit< tt) lb.cells)
    (peel (ahead_cells p k a) (ahead_arrays p (k + 1) xs) (ahead_cells p k b) (ahead_arrays p (k + 1) bs) (aheads_head p ++ r) (aheads_head p ++ s) e) in
    let rest = read_ahead_arrays p (k + 1) xs bs r s (All-tail IsStorableAhead a xs ha) (All-tail IsStorableAhead b bs hb) first.1 in
    ((first.0, rest.0), rest.1)

abbrev before_text : AheadNumbers → List ℕ
before_text a = decimal a.before ++ codes "},\n"

abbrev waiting_text : AheadNumbers → List ℕ
waiting_text a = decimal a.waiting ++ (field a.before ++ codes "},\n")

abbrev ends_text : AheadNumbers → List ℕ
ends_text a = decimal a.ends ++ (field a.waiting ++ (field a.before ++ codes "},\n"))

abbrev ahead_width_text : AheadNumbers → List ℕ
ahead_width_text a = decimal a.width ++ (field a.ends ++ (field a.waiting ++ (field a.before ++ codes "},\n")))

abbrev ahead_start_text : AheadNumbers → List ℕ
ahead_start_text a = decimal a.start ++ (field a.width ++ (field a.ends ++ (field a.waiting ++ (field a.before ++ codes "},\n"))))

-- a number up to the comma after it
read_field : (m n : ℕ) (r s : List ℕ) → m < 2 ^ 64 → n < 2 ^ 64 → decimal m ++ (44 ∷ 32 ∷ r) ≡ decimal n ++ (44 ∷ 32 ∷ s) → (m ≡ n) × (r ≡ s)
read_field m n r s small few e = read_decimal 44 m n (32 ∷ []) r s refl small few e

read_ahead_row : (p : List ℕ) (k : ℕ) (a b : AheadNumbers) (r s : List ℕ) → a.cells ≡ b.cells → IsStorableAhead a → IsStorableAhead b → ahead_row p k a ++ r ≡ ahead_row p k b ++ s → (a ≡ b) × (r ≡ s)
unfolding ahead_row field
read_ahead_row p k a b r s same ha hb e =
    let row = skip (filled p (codes "    {$_ahead_cells_")) (decimal k ++ (codes ", " ++ ahead_start_text a)) (decimal k ++ (codes ", " ++ ahead_start_text b)) r s e in
    let numbers = skip (decimal k) (codes ", " ++ ahead_start_text a) (codes ", " ++ ahead_start_text b) r s row in
    let start = read_field a.start b.start (ahead_width_text a ++ r) (ahead_width_text b ++ s) ha.start hb.start
    (peel (decimal a.start) (codes ", " ++ ahead_width_text a) (decimal b.start) (codes ", " ++ ahead_width_text b) r s (append_cancel_left (codes ", ") (ahead_start_text a ++ r) (ahead_start_text b ++ s) numbers)) in
    let width = read_field a.width b.width (ends_text a ++ r) (ends_text b ++ s) ha.width hb.width
    (peel (decimal a.width) (codes ", " ++ ends_text a) (decimal b.width) (codes ", " ++ ends_text b) r s start.1) in
    let ends = read_field a.ends b.ends (waiting_text a ++ r) (waiting_text b ++ s) ha.ends hb.ends
    (peel (decimal a.ends) (codes ", " ++ waiting_text a) (decimal b.ends) (codes ", " ++ waiting_text b) r s width.1) in
    let waiting = read_field a.waiting b.waiting (before_text a ++ r) (before_text b ++ s) (omega (arith, ha.waiting)) (omega (arith, hb.waiting))
    (peel (decimal a.waiting) (codes ", " ++ before_text a) (decimal b.waiting) (codes ", " ++ before_text b) r s ends.1) in
    let before = read_decimal 125 a.before b.before (codes ",\n") r s refl ha.before hb.before
    (peel (decimal a.before) (codes "},\n") (decimal b.before) (codes "},\n") r s waiting.1) in
    (same_ahead a b start.0 width.0 ends.0 waiting.0 before.0 same, before.1)

read_ahead_rows : (p : List ℕ) (k : ℕ) (xs bs : List AheadNumbers) (r s : List ℕ) → HaveSameCells xs bs → All IsStorableAhead xs → All IsStorableAhead bs
    → ahead_rows p k xs ++ r ≡ ahead_rows p k bs ++ s → xs ≡ bs
read_ahead_rows p k [] [] r s same ha hb e = refl
read_ahead_rows p k [] (b ∷ bs) r s same ha hb e = absurd same
read_ahead_rows p k (a ∷ xs) [] r s same ha hb e = absurd same
read_ahead_rows p k (a ∷ xs) (b ∷ bs) r s same ha hb e =
    let first = read_ahead_row p k a b (ahead_rows p (k + 1) xs ++ r) (ahead_rows p (k + 1) bs ++ s) same.0 (All-head IsStorableAhead a xs ha) (All-head IsStorableAhead b bs hb)
    (peel (ahead_row p k a) (ahead_rows p (k + 1) xs) (ahead_row p k b) (ahead_rows p (k + 1) bs) r s e) in
    let rest = read_ahead_rows p (k + 1) xs bs r s same.1 (All-tail IsStorableAhead a xs ha) (All-tail IsStorableAhead b bs hb) first.1 in
    ap (λ (x : AheadNumbers). x ∷ xs) first.0 ∙ ap (λ (zs : List AheadNumbers). b ∷ zs) rest

abbrev ahead_rows_text : List ℕ → List AheadNumbers → List ℕ
ahead_rows_text p xs = ahead_rows p 0 xs ++ codes "};\n"

abbrev ahead_arrays_text : List ℕ → List AheadNumbers → List ℕ
ahead_arrays_text p xs = ahead_arrays p 0 xs ++ (aheads_head p ++ ahead_rows_text p xs)

abbrev ahead_struct_text : List ℕ → List AheadNumbers → List ℕ
ahead_struct_text p xs = filled p AHEAD.now ++ ahead_arrays_text p xs

-- the parts of the arrays and of the tables after them
three_parts : (p : List ℕ) (xs : List AheadNumbers) (r : List ℕ) → ahead_arrays_text p xs ++ r ≡ ahead_arrays p 0 xs ++ (aheads_head p ++ (ahead_rows_text p xs ++ r))
three_parts p xs r =
    append_assoc (ahead_arrays p 0 xs) (aheads_head p ++ ahead_rows_text p xs) r
    ∙ ap (λ (x : List ℕ). ahead_arrays p 0 xs ++ x) (append_assoc (aheads_head p) (ahead_rows_text p xs) r)

read_ahead : (p : List ℕ) (x y : NumberedRules) (r s : List ℕ) → IsStorable x → IsStorable y → ahead_text p x.ahead ++ r ≡ ahead_text p y.ahead ++ s → x.ahead ≡ y.ahead
unfolding ahead_text
read_ahead p x y r s hx hy e =
    let xs = x.ahead in
    let bs = y.ahead in
    let name = codes "$_ahead_cell;\n" in
    let bx = list_all is_narrow_ahead xs in
    let by = list_all is_narrow_ahead bs in
    let struct = read_typedef p name bx by (ahead_struct_text p xs ++ r) (ahead_struct_text p bs ++ s) (peel (cell_typedef p bx name) (ahead_struct_text p xs) (cell_typedef p by name) (ahead_struct_text p bs) r s e) in
    let arrays = skip (filled p AHEAD.now) (ahead_arrays_text p xs) (ahead_arrays_text p bs) r s struct in
    let cells = read_ahead_arrays p 0 xs bs (ahead_rows_text p xs ++ r) (ahead_rows_text p bs ++ s) hx.ahead hy.ahead (sym (three_parts p xs r) ∙ arrays ∙ three_parts p bs s) in
    let end = codes "};\n" in
    read_ahead_rows p 0 xs bs (end ++ r) (end ++ s) cells.0 hx.ahead hy.ahead (peel (ahead_rows p 0 xs) end (ahead_rows p 0 bs) end r s cells.1)

-- ---- the whole file

abbrev behind_tables : List ℕ → NumberedRules → List ℕ
behind_tables p x = ahead_text p x.ahead ++ filled p DRIVER.now

abbrev behind_rules : List ℕ → NumberedRules → List ℕ
behind_rules p x = tables_text p x.tables ++ behind_tables p x

abbrev behind_prefix : List ℕ → NumberedRules → List ℕ
behind_prefix p x = HEAD.now ++ (rules_text p x ++ behind_rules p x)

read_prefix : (p q : List ℕ) (x y : NumberedRules) → IsIdentifier p → IsIdentifier q → c_file p x ≡ c_file q y → (p ≡ q) × (behind_prefix p x ≡ behind_prefix q y)
unfolding c_file
read_prefix p q x y ip iq e =
    cut_before 58 p q [] (behind_prefix p x) (behind_prefix q y) (name_without 58 p refl ip.part) (name_without 58 q refl iq.part) (append_cancel_left (codes "/* ") _ _ e)

pub only_numbers : (p q : List ℕ) (x y : NumberedRules) → IsIdentifier p → IsIdentifier q → IsStorable x → IsStorable y → c_file p x ≡ c_file q y → (p ≡ q) × AreSameInFile x y
only_numbers p q x y ip iq hx hy e =
    let parts = read_prefix p q x y ip iq e in
    let same : behind_prefix q x ≡ behind_prefix q y = subst (λ (z : List ℕ). behind_prefix z x ≡ behind_prefix q y) parts.0 parts.1 in
    let rules = read_rules q x y (behind_rules q x) (behind_rules q y) hx hy (append_cancel_left HEAD.now _ _ same) in
    let tables = read_tables q x y (behind_tables q x) (behind_tables q y) hx hy rules.rest in
    let numbers : AreSameInFile x y = record {
      names = rules.names;
      kinds = rules.kinds;
      skips = rules.skips;
      first_actions = rules.first_actions;
      actions = rules.actions;
      blocks = same_blocks x.tables y.tables tables.0;
      pages = same_pages x.tables y.tables tables.0;
      ahead = read_ahead q x y (filled q DRIVER.now) (filled q DRIVER.now) hx hy tables.1;
    } in
    (parts.0, numbers)
