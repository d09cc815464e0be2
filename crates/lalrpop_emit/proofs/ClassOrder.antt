-- A table whose classes have other numbers has the same rows.
use Rattle.std.proofs.Common.{◌≡◌, ℕ, ◌+◌, ◌*◌, ◌/◌, ◌%◌, ◌-◌, ◌<◌, ◌≤◌, ◌^◌, List, [], ◌∷◌, length, get_or, min, refl, sym, ap, subst, ◌∙◌, arith}
use Rattle.std.specs.Prelude.{slice_get, Option, Some, None, IsSomeAnd, IsTrue, nat_eq}
use Rattle.std.specs.List.{All}
use Rattle.std.proofs.Math.Nat.{le-div_iff_mul-le}
use Rattle.std.proofs.lemmas.Bool.Decides.{nat_tests}
use Rattle.std.proofs.lemmas.List.Elements.{All-cons, All-head, All-tail, All-from_get_or}
use Rattle.lalrpop_dfa.specs.Dfa.{Row, after}
use Rattle.lalrpop_dfa.specs.declared.Kind.{Kind}
use Rattle.lalrpop_dfa.specs.declared.Kind.TheVariants.{Accepts, Reject, Neither}
use Rattle.lalrpop_dense.specs.DenseTable.{TableNumbers, AreClasses, IsRowLike, IsTableFor, block_of_page, character_class, next_row, row_after}
use Rattle.lalrpop_emit.specs.NumberedRules.{IsStorableTable}
use Rattle.lalrpop_emit.specs.Internal.ClassOrder.{AreMovedCells, IsMovedRow, IsRenumbered, IsRowPlace, renumbered}
use Rattle.lalrpop_emit.specs.Internal.Walking.{AreRulesBelow, IsWalkable}
use Rattle.lalrpop_emit.proofs.Walks.{class_below}

-- ---- what is checked

pub row_place : (t : TableNumbers) (place : ℕ) → IsTrue (nat_eq (place % (t.width + 1)) 0) → IsRowPlace t place
row_place t place test =
    let whole : place % (t.width + 1) ≡ 0 = grind (arith, nat_tests) in
    (place / (t.width + 1), omega arith)

row_number : (width number cells : ℕ) → number * (width + 1) + width < cells → number < cells / (width + 1)
row_number width number cells within =
    let some : 0 < width + 1 = omega arith in
    let row : (number + 1) * (width + 1) ≤ cells = omega arith in
    let more : number + 1 ≤ cells / (width + 1) = (le-div_iff_mul-le some).1 row in
    omega arith

-- if as many rows are the same as the cells have, all are
pub cells_moved : (t : TableNumbers) (cells numbers : List ℕ) → length cells ≡ length t.cells
    → ((k : ℕ) → k < length cells / (t.width + 1) → IsMovedRow t cells numbers (k * (t.width + 1))) → AreMovedCells t cells numbers
cells_moved t cells numbers size rows = record {
  size = size;
  each = λ row place within.
      subst (λ (r : ℕ). IsMovedRow t cells numbers r) (sym place.1)
      (rows place.0 (row_number t.width place.0 (length cells) (omega (arith, place.1, within, size))));
}

-- ---- classes

-- where the class of the character stands is within the blocks
class_place : (t : TableNumbers) (c : ℕ) → AreClasses t → block_of_page t (c / 128) * 128 + c % 128 < length t.blocks
class_place t c h =
    let place = min (c / 128) (length t.pages - 1) in
    let page : place < length t.pages = omega (arith, h.some_page) in
    omega (arith, h.whole_blocks place page)

class_moved : (t : TableNumbers) (blocks cells numbers : List ℕ) → IsRenumbered t blocks cells numbers → AreClasses t → (c : ℕ)
    → character_class (renumbered t blocks cells) c ≡ get_or numbers (character_class t c) 0
class_moved t blocks cells numbers h classes c = (h.classes.each (block_of_page t (c / 128) * 128 + c % 128) (class_place t c classes)).moved

classes_moved : (t : TableNumbers) (blocks cells numbers : List ℕ) → IsRenumbered t blocks cells numbers → AreClasses t → AreClasses (renumbered t blocks cells)
classes_moved t blocks cells numbers h classes = record {
  some_page = classes.some_page;
  ascii = classes.ascii;
  whole_blocks = λ k within. omega (arith, classes.whole_blocks k within, h.classes.size);
  below = λ k within. (h.classes.each k (omega (arith, within, h.classes.size))).below;
}

-- ---- rows

-- each word leads from the row to one within the cells
abbrev IsWithinFrom : TableNumbers → ℕ → Type 0
IsWithinFrom t row = (w : List ℕ) → All (λ c. c < 1114112) w → row_after t row w + t.width < length t.cells

-- the character leads from the row to the same row, which begins where one may
next_moved : (t : TableNumbers) (blocks cells numbers : List ℕ) → IsRenumbered t blocks cells numbers → AreClasses t → (row c : ℕ) → IsRowPlace t row
    → row + t.width < length t.cells → (next_row (renumbered t blocks cells) row c ≡ next_row t row c) × IsRowPlace t (next_row t row c)
next_moved t blocks cells numbers h classes row c place within =
    let moved = (h.rows.each row place within).leads (character_class t c) (class_below t c classes) in
    (ap (λ (n : ℕ). get_or cells (row + n) 0) (class_moved t blocks cells numbers h classes c) ∙ moved.0, moved.1)

-- the word leads from the row to the same row, which begins where one may
rows_moved : (t : TableNumbers) (blocks cells numbers : List ℕ) → IsRenumbered t blocks cells numbers → AreClasses t → (w : List ℕ) (row : ℕ) → IsRowPlace t row
    → IsWithinFrom t row → All (λ c. c < 1114112) w
    → (row_after (renumbered t blocks cells) row w ≡ row_after t row w) × IsRowPlace t (row_after t row w)
rows_moved t blocks cells numbers h classes [] row place within word = (refl, place)
rows_moved t blocks cells numbers h classes (c ∷ w) row place within word =
    let next = next_moved t blocks cells numbers h classes row c place (within [] (λ k d l. absurd (omega (arith, l)))) in
    let rest = rows_moved t blocks cells numbers h classes w (next_row t row c) next.1
    (λ v all. within (c ∷ v) (All-cons (λ n. n < 1114112) c v (All-head (λ n. n < 1114112) c w word) all)) (All-tail (λ n. n < 1114112) c w word) in
    (ap (λ (n : ℕ). row_after (renumbered t blocks cells) n w) next.0 ∙ rest.0, rest.1)

-- what is known of the row that a word leads to
record IsSameRow (t : TableNumbers) (blocks cells : List ℕ) (w : List ℕ) : Type 0 where
  row : row_after (renumbered t blocks cells) t.start w ≡ row_after t t.start w
  rule : get_or cells (row_after t t.start w + t.width) 0 ≡ get_or t.cells (row_after t t.start w + t.width) 0

same_row : (t : TableNumbers) (blocks cells numbers : List ℕ) → IsRenumbered t blocks cells numbers → AreClasses t → IsWithinFrom t t.start → (w : List ℕ)
    → All (λ c. c < 1114112) w → IsSameRow t blocks cells w
same_row t blocks cells numbers h classes within w word =
    let moved = rows_moved t blocks cells numbers h classes w t.start h.begins within word in
    record {
      row = moved.0;
      rule = (h.rows.each (row_after t t.start w) moved.1 (within w word)).rule;
    }

-- ---- the automaton

like_moved : (t : TableNumbers) (blocks cells : List ℕ) (row : ℕ) (k : Kind) → get_or cells (row + t.width) 0 ≡ get_or t.cells (row + t.width) 0 → IsRowLike t row k
    → IsRowLike (renumbered t blocks cells) row k
like_moved t blocks cells row (Accepts i) rule h = (h.0, h.1, rule ∙ h.2)
like_moved t blocks cells row Reject rule h = h
like_moved t blocks cells row Neither rule h = h

some_more : (found : Option Row) (P Q : Row → Type 0) → ((r : Row) → P r → Q r) → IsSomeAnd found P → IsSomeAnd found Q
some_more None P Q more h = h
some_more (Some r) P Q more h = more r h

pub table_moved : (t : TableNumbers) (blocks cells numbers : List ℕ) → IsRenumbered t blocks cells numbers → (d : List Row) → IsTableFor t d
    → IsTableFor (renumbered t blocks cells) d
table_moved t blocks cells numbers h d table = record {
  classes = classes_moved t blocks cells numbers h table.classes;
  within = λ w word. omega (arith, (same_row t blocks cells numbers h table.classes table.within w word).row, table.within w word, h.rows.size);
  alike = λ w word.
      let same = same_row t blocks cells numbers h table.classes table.within w word in
      some_more (slice_get d (after d w)) (λ r. IsRowLike t (row_after t t.start w) r.kind)
      (λ r. IsRowLike (renumbered t blocks cells) (row_after (renumbered t blocks cells) t.start w) r.kind)
      (λ r like. subst (λ (row : ℕ). IsRowLike (renumbered t blocks cells) row r.kind) (sym same.row) (like_moved t blocks cells (row_after t t.start w) r.kind same.rule like))
      (table.alike w word);
  one_row = λ u w us ws one.
      (same_row t blocks cells numbers h table.classes table.within u us).row ∙ table.one_row u w us ws one
      ∙ sym (same_row t blocks cells numbers h table.classes table.within w ws).row;
}

-- ---- rules and numbers

pub rules_moved : (t : TableNumbers) (blocks cells numbers : List ℕ) → IsRenumbered t blocks cells numbers → (count : ℕ) → IsWalkable t → AreRulesBelow t count
    → AreRulesBelow (renumbered t blocks cells) count
rules_moved t blocks cells numbers h count walkable below w word live accept =
    let same = same_row t blocks cells numbers h walkable.classes walkable.within w word in
    let rule : get_or cells (row_after (renumbered t blocks cells) t.start w + t.width) 0 ≡ get_or t.cells (row_after t t.start w + t.width) 0 =
    ap (λ (row : ℕ). get_or cells (row + t.width) 0) same.row ∙ same.rule in
    let there : t.live ≤ row_after t t.start w = omega (arith, live, same.row) in
    let accepts : t.accept ≤ row_after t t.start w = omega (arith, accept, same.row) in
    subst (λ (n : ℕ). n < count) (sym rule) (below w word there accepts)

pub storable_moved : (t : TableNumbers) (blocks cells numbers : List ℕ) → IsRenumbered t blocks cells numbers → IsStorableTable t
    → IsStorableTable (renumbered t blocks cells)
storable_moved t blocks cells numbers h s = record {
  blocks = All-from_get_or (λ n. n < 2 ^ 8) blocks 0 (λ i within. omega (arith, (h.classes.each i (omega (arith, within, h.classes.size))).small));
  all_blocks = omega (arith, h.classes.size, s.all_blocks);
  pages = s.pages;
  all_pages = s.all_pages;
}
