-- The source file of a lexer in Rust has its numbers (of `tables` the blocks and pages alone): no others have the same file.
use Rattle.std.proofs.Common.{◌≡◌, ℕ, List, [], ◌∷◌, ◌++◌, append_assoc, refl, sym, ap, subst, ◌∙◌, arith, true, false, Bool, lit<}
use Rattle.std.specs.Prelude.{codes}
use Rattle.std.specs.List.{All, list_all}
use Rattle.std.proofs.lemmas.List.{append_cancel_left}
use Rattle.std.proofs.lemmas.List.Elements.{All-head, All-tail}
use Rattle.lalrpop_dense.specs.DenseTable.{TableNumbers}
use Rattle.lalrpop_emit.specs.NumberedRules.{AreSameInFile, NumberedRules, IsStorable, IsStorableAhead, IsStorableTable}
use Rattle.lalrpop_emit.specs.Ahead.{AheadNumbers}
use Rattle.lalrpop_emit.specs.CSource.{flags, is_narrow_ahead}
use Rattle.lalrpop_emit.specs.RustSource.{ahead_text, ahead_texts, cell_type, list_field, name_fields, number_field, numbers_text, rust_file, table_text, table_texts}
use Rattle.lalrpop_emit.specs.declared.rust_text.TheConstants.{HEAD, INTERFACE, DRIVER}
use Rattle.lalrpop_emit.proofs.SameNumbers.{HaveSameLists, SameLists, below, flags_below, flags_same, same_ahead, same_blocks, same_pages}
use Rattle.lalrpop_emit.proofs.Reading.{peel}
use Rattle.lalrpop_emit.proofs.RustReading.{read_kind_enum, read_list_field, read_number_field}

abbrev first_of_text : List ℕ → ℕ
first_of_text [] = 0
first_of_text (x ∷ xs) = x

-- ---- tables

abbrev pages_end : TableNumbers → List ℕ
pages_end t = list_field (codes "            pages") t.pages ++ codes "        },\n"

abbrev blocks_end : TableNumbers → List ℕ
blocks_end t = list_field (codes "            blocks") t.blocks ++ pages_end t

read_table : (t u : TableNumbers) (r s : List ℕ) → IsStorableTable t → IsStorableTable u → table_text t ++ r ≡ table_text u ++ s → SameLists t u × (r ≡ s)
unfolding table_text
read_table t u r s ht hu e =
    let head = codes "        Table {\n" in
    let blocks = read_list_field (codes "            blocks") t.blocks u.blocks (pages_end t ++ r) (pages_end u ++ s) (below 8 t.blocks (lit< tt) ht.blocks) (below 8 u.blocks (lit< tt) hu.blocks)
    (peel (list_field (codes "            blocks") t.blocks) (pages_end t) (list_field (codes "            blocks") u.blocks) (pages_end u) r s
    (append_cancel_left head _ _ (peel head (blocks_end t) head (blocks_end u) r s e))) in
    let tail = codes "        },\n" in
    let pages = read_list_field (codes "            pages") t.pages u.pages (tail ++ r) (tail ++ s) (below 16 t.pages (lit< tt) ht.pages) (below 16 u.pages (lit< tt) hu.pages)
    (peel (list_field (codes "            pages") t.pages) tail (list_field (codes "            pages") u.pages) tail r s blocks.1) in
    (record { blocks = blocks.0; pages = pages.0 }, append_cancel_left tail r s pages.1)

-- a table begins with eight blanks, and what ends the list of them with four
no_table : (t : TableNumbers) (r s : List ℕ) → table_text t ++ r ≡ codes "    ]" ++ s → ⊥
unfolding table_text
no_table t r s e = omega (arith, ap first_of_text (append_cancel_left (codes "    ") _ _ e))

read_tables : (ts us : List TableNumbers) (r s : List ℕ) → All IsStorableTable ts → All IsStorableTable us → table_texts ts ++ (codes "    ]" ++ r) ≡ table_texts us ++ (codes "    ]" ++ s) → HaveSameLists ts us × (r ≡ s)
read_tables [] [] r s ht hu e = (tt, append_cancel_left (codes "    ]") r s e)
read_tables [] (u ∷ us) r s ht hu e = absurd (no_table u (table_texts us ++ (codes "    ]" ++ s)) r (sym (append_assoc (table_text u) (table_texts us) (codes "    ]" ++ s)) ∙ sym e))
read_tables (t ∷ ts) [] r s ht hu e = absurd (no_table t (table_texts ts ++ (codes "    ]" ++ r)) s (sym (append_assoc (table_text t) (table_texts ts) (codes "    ]" ++ r)) ∙ e))
read_tables (t ∷ ts) (u ∷ us) r s ht hu e =
    let end = codes "    ]" in
    let first = read_table t u (table_texts ts ++ (end ++ r)) (table_texts us ++ (end ++ s)) (All-head IsStorableTable t ts ht) (All-head IsStorableTable u us hu) (peel (table_text t) (table_texts ts) (table_text u) (table_texts us) (end ++ r) (end ++ s) e) in
    let rest = read_tables ts us r s (All-tail IsStorableTable t ts ht) (All-tail IsStorableTable u us hu) first.1 in
    ((first.0, rest.0), rest.1)

-- ---- tables that run ahead

abbrev ahead_cells_end : AheadNumbers → List ℕ
ahead_cells_end a = list_field (codes "            cells") a.cells ++ codes "        },\n"

abbrev before_end : AheadNumbers → List ℕ
before_end a = number_field (codes "            before") a.before ++ ahead_cells_end a

abbrev waiting_end : AheadNumbers → List ℕ
waiting_end a = number_field (codes "            waiting") a.waiting ++ before_end a

abbrev ends_end : AheadNumbers → List ℕ
ends_end a = number_field (codes "            ends") a.ends ++ waiting_end a

abbrev ahead_width_end : AheadNumbers → List ℕ
ahead_width_end a = number_field (codes "            width") a.width ++ ends_end a

abbrev ahead_start_end : AheadNumbers → List ℕ
ahead_start_end a = number_field (codes "            start") a.start ++ ahead_width_end a

read_ahead : (a b : AheadNumbers) (r s : List ℕ) → IsStorableAhead a → IsStorableAhead b → ahead_text a ++ r ≡ ahead_text b ++ s → (a ≡ b) × (r ≡ s)
unfolding ahead_text
read_ahead a b r s ha hb e =
    let head = codes "        Ahead {\n" in
    let start = read_number_field (codes "            start") a.start b.start (ahead_width_end a ++ r) (ahead_width_end b ++ s) ha.start hb.start
    (peel (number_field (codes "            start") a.start) (ahead_width_end a) (number_field (codes "            start") b.start) (ahead_width_end b) r s
    (append_cancel_left head _ _ (peel head (ahead_start_end a) head (ahead_start_end b) r s e))) in
    let width = read_number_field (codes "            width") a.width b.width (ends_end a ++ r) (ends_end b ++ s) ha.width hb.width
    (peel (number_field (codes "            width") a.width) (ends_end a) (number_field (codes "            width") b.width) (ends_end b) r s start.1) in
    let ends = read_number_field (codes "            ends") a.ends b.ends (waiting_end a ++ r) (waiting_end b ++ s) ha.ends hb.ends
    (peel (number_field (codes "            ends") a.ends) (waiting_end a) (number_field (codes "            ends") b.ends) (waiting_end b) r s width.1) in
    let waiting = read_number_field (codes "            waiting") a.waiting b.waiting (before_end a ++ r) (before_end b ++ s) (omega (arith, ha.waiting)) (omega (arith, hb.waiting))
    (peel (number_field (codes "            waiting") a.waiting) (before_end a) (number_field (codes "            waiting") b.waiting) (before_end b) r s ends.1) in
    let before = read_number_field (codes "            before") a.before b.before (ahead_cells_end a ++ r) (ahead_cells_end b ++ s) ha.before hb.before
    (peel (number_field (codes "            before") a.before) (ahead_cells_end a) (number_field (codes "            before") b.before) (ahead_cells_end b) r s waiting.1) in
    let tail = codes "        },\n" in
    let cells = read_list_field (codes "            cells") a.cells b.cells (tail ++ r) (tail ++ s) (below 32 a.cells (lit< tt) ha.cells) (below 32 b.cells (lit< tt) hb.cells)
    (peel (list_field (codes "            cells") a.cells) tail (list_field (codes "            cells") b.cells) tail r s before.1) in
    (same_ahead a b start.0 width.0 ends.0 waiting.0 before.0 cells.0, append_cancel_left tail r s cells.1)

no_ahead : (a : AheadNumbers) (r s : List ℕ) → ahead_text a ++ r ≡ codes "    ]" ++ s → ⊥
unfolding ahead_text
no_ahead a r s e = omega (arith, ap first_of_text (append_cancel_left (codes "    ") _ _ e))

read_aheads : (xs bs : List AheadNumbers) (r : List ℕ) → All IsStorableAhead xs → All IsStorableAhead bs → ahead_texts xs ++ (codes "    ]" ++ r) ≡ ahead_texts bs ++ (codes "    ]" ++ r) → xs ≡ bs
read_aheads [] [] r ha hb e = refl
read_aheads [] (b ∷ bs) r ha hb e = absurd (no_ahead b (ahead_texts bs ++ (codes "    ]" ++ r)) r (sym (append_assoc (ahead_text b) (ahead_texts bs) (codes "    ]" ++ r)) ∙ sym e))
read_aheads (a ∷ xs) [] r ha hb e = absurd (no_ahead a (ahead_texts xs ++ (codes "    ]" ++ r)) r (sym (append_assoc (ahead_text a) (ahead_texts xs) (codes "    ]" ++ r)) ∙ e))
read_aheads (a ∷ xs) (b ∷ bs) r ha hb e =
    let end = codes "    ]" ++ r in
    let first = read_ahead a b (ahead_texts xs ++ end) (ahead_texts bs ++ end) (All-head IsStorableAhead a xs ha) (All-head IsStorableAhead b bs hb) (peel (ahead_text a) (ahead_texts xs) (ahead_text b) (ahead_texts bs) end end e) in
    ap (λ (x : AheadNumbers). x ∷ xs) first.0 ∙ ap (λ (zs : List AheadNumbers). b ∷ zs) (read_aheads xs bs r (All-tail IsStorableAhead a xs ha) (All-tail IsStorableAhead b bs hb) first.1)

-- ---- the whole file

abbrev behind_kinds : NumberedRules → List ℕ
behind_kinds x =
    list_field (codes "    skipped") (flags x.skips)
    ++ (list_field (codes "    first_actions") x.first_actions
    ++ (list_field (codes "    actions") x.actions ++ (codes "    tables: &[\n" ++ (table_texts x.tables ++ (codes "    ],\n    ahead: &[\n" ++ (ahead_texts x.ahead ++ codes "    ],\n};\n"))))))

-- the numbers, where the names are known
read_numbers : (x y : NumberedRules) → IsStorable x → IsStorable y → x.names ≡ y.names → numbers_text x ≡ numbers_text y → AreSameInFile x y
unfolding numbers_text
read_numbers x y hx hy n e =
    let behind : name_fields y.names ++ (list_field (codes "    kinds") x.kinds ++ behind_kinds x) ≡ name_fields y.names ++ (list_field (codes "    kinds") y.kinds ++ behind_kinds y) =
    subst (λ (ns : List (List ℕ)). name_fields ns ++ (list_field (codes "    kinds") x.kinds ++ behind_kinds x) ≡ name_fields y.names ++ (list_field (codes "    kinds") y.kinds ++ behind_kinds y)) n
    (append_cancel_left (codes "#[rustfmt::skip]\nstatic NUMBERS: Numbers = Numbers {\n") _ _ e) in
    let kinds = read_list_field (codes "    kinds") x.kinds y.kinds (behind_kinds x) (behind_kinds y) (below 16 x.kinds (lit< tt) hx.kinds) (below 16 y.kinds (lit< tt) hy.kinds)
    (append_cancel_left (name_fields y.names) _ _ behind) in
    let skips = read_list_field (codes "    skipped") (flags x.skips) (flags y.skips) _ _ (flags_below x.skips) (flags_below y.skips) kinds.1 in
    let firsts = read_list_field (codes "    first_actions") x.first_actions y.first_actions _ _ (below 32 x.first_actions (lit< tt) hx.first_actions) (below 32 y.first_actions (lit< tt) hy.first_actions) skips.1 in
    let actions = read_list_field (codes "    actions") x.actions y.actions _ _ (below 32 x.actions (lit< tt) hx.actions) (below 32 y.actions (lit< tt) hy.actions) firsts.1 in
    let tables = read_tables x.tables y.tables _ _ hx.tables hy.tables (append_cancel_left (codes "    tables: &[\n") _ _ actions.1) in
    let aheads = read_aheads x.ahead y.ahead (codes ",\n};\n") hx.ahead hy.ahead (append_cancel_left (codes ",\n    ahead: &[\n") _ _ tables.1) in
    record {
      names = n;
      kinds = kinds.0;
      skips = flags_same x.skips y.skips skips.0;
      first_actions = firsts.0;
      actions = actions.0;
      blocks = same_blocks x.tables y.tables tables.0;
      pages = same_pages x.tables y.tables tables.0;
      ahead = aheads;
    }

-- the type of the cells has three letters, and one semicolon ends it
read_type : (b c : Bool) (r s : List ℕ) → cell_type b ++ (codes ";\n" ++ r) ≡ cell_type c ++ (codes ";\n" ++ s) → r ≡ s
unfolding cell_type
read_type true true r s e = append_cancel_left (codes "u16;\n") r s e
read_type false false r s e = append_cancel_left (codes "u32;\n") r s e
read_type true false r s e = absurd (omega (arith, ap first_of_text (append_cancel_left (codes "u") _ _ e)))
read_type false true r s e = absurd (omega (arith, ap first_of_text (append_cancel_left (codes "u") _ _ e)))

abbrev typed : NumberedRules → List ℕ
typed x = cell_type (list_all is_narrow_ahead x.ahead) ++ (codes ";\n" ++ (codes "\n" ++ numbers_text x))

pub only_numbers : (x y : NumberedRules) → IsStorable x → IsStorable y → rust_file x ≡ rust_file y → AreSameInFile x y
unfolding rust_file
only_numbers x y hx hy e =
    let names = read_kind_enum x.names y.names (INTERFACE.now ++ (DRIVER.now ++ (codes "\ntype AheadCell = " ++ typed x))) (INTERFACE.now ++ (DRIVER.now ++ (codes "\ntype AheadCell = " ++ typed y))) hx.names hy.names
    (append_cancel_left HEAD.now _ _ e) in
    let typed_same = append_cancel_left (codes "\ntype AheadCell = ") (typed x) (typed y) (append_cancel_left DRIVER.now _ _ (append_cancel_left INTERFACE.now _ _ names.1)) in
    let numbers = read_type (list_all is_narrow_ahead x.ahead) (list_all is_narrow_ahead y.ahead) _ _ typed_same in
    read_numbers x y hx hy names.0 (append_cancel_left (codes "\n") (numbers_text x) (numbers_text y) numbers)
