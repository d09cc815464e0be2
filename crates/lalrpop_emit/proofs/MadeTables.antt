-- The table that is made from the classes of characters runs the automaton.
use Rattle.std.proofs.Common.{◌≡◌, ℕ, ◌<◌, ◌≤◌, ◌+◌, ◌-◌, ◌*◌, ◌/◌, ◌%◌, ◌^◌, ◌∙◌, inl, inr, List, [], ◌∷◌, length, map, get_or, refl, sym, ap, subst, arith, min}
use Rattle.std.specs.Prelude.{slice_get, IsSomeAnd}
use Rattle.std.specs.List.{All}
use Rattle.std.proofs.lemmas.List.{get_or_append_left, get_or-append_right, get_or-map, length-map}
use Rattle.std.proofs.lemmas.List.Elements.{All-head, All-tail, All-from_get_or}
use Rattle.std.proofs.lemmas.Nat.{mod-mul-add}
use Rattle.std.proofs.lemmas.Option.{slice_get_cases}
use Rattle.std.proofs.Math.Nat.{mul-le-mul_right}
use Rattle.lalrpop_dfa.specs.Dfa.{Row, step, run, after, IsWellFormed}
use Rattle.lalrpop_dfa.proofs.AfterLaws.{run_within}
use Rattle.lalrpop_dfa.proofs.EdgeTargets.{step_within}
use Rattle.lalrpop_dfa.specs.declared.Kind.{Kind}
use Rattle.lalrpop_dfa.specs.declared.Kind.TheVariants.{Accepts, Reject, Neither}
use Rattle.lalrpop_dense.specs.DenseTable.{TableNumbers, AreClasses, IsRowLike, IsTableFor, character_class, next_row, row_after}
use Rattle.lalrpop_emit.specs.Internal.Classes.{AreClassesOf}
use Rattle.lalrpop_emit.specs.Internal.Lists.{AreBelow}
use Rattle.lalrpop_emit.specs.Internal.MadeRows.{AreRows, kind_at, kind_or_reject, pattern_of, row_cells, row_number, third_of}
use Rattle.lalrpop_emit.specs.Internal.Regular.{IsRegular}
use Rattle.lalrpop_emit.specs.NumberedRules.{IsStorableTable}
use Rattle.lalrpop_emit.specs.declared.classes.CharacterClasses.{CharacterClasses}
use Rattle.lalrpop_emit.proofs.RowLists.{row_before}

third_small : (k : Kind) → third_of k ≤ 2
third_small Reject = omega arith
third_small Neither = omega arith
third_small (Accepts i) = omega arith

-- each page has its own block
abbrev pub AreAllPages : List ℕ → Type 0
AreAllPages pages = (length pages ≡ 8704) × ((k : ℕ) → k < 8704 → get_or pages k 0 ≡ k)

abbrev pub made_numbers : List Row → CharacterClasses → List ℕ → List ℕ → TableNumbers
made_numbers d c pages cells = record {
  blocks = c.classes.items;
  pages = pages;
  start = row_number d 0 * (length c.firsts.items + 1);
  width = length c.firsts.items;
  live = length d * (length c.firsts.items + 1);
  accept = 2 * length d * (length c.firsts.items + 1);
  cells = cells;
}

module _ (d : List Row) (c : CharacterClasses) (pages cells : List ℕ) (h : AreClassesOf d c) (p_are : AreAllPages pages) (rows : AreRows d c.firsts.items cells (3 * length d)) (wf : IsWellFormed d) where
  abbrev firsts : List ℕ
  firsts = c.firsts.items

  abbrev w : ℕ
  w = length c.firsts.items

  abbrev t : TableNumbers
  t = made_numbers d c pages cells

  -- where the row of the state begins
  abbrev row_of : ℕ → ℕ
  row_of p = row_number d p * (w + 1)

  row_small : (p : ℕ) → p < length d → row_number d p < 3 * length d
  row_small p l =
      let thirds : third_of (kind_at d p) * length d ≤ 2 * length d = mul-le-mul_right (length d) (third_small (kind_at d p)) in
      omega (arith, thirds, l)

  cell : (p k : ℕ) → p < length d → k ≤ w → get_or cells (row_of p + k) 0 ≡ get_or (row_cells d firsts p) k 0
  cell p k l small = rows.each (row_number d p) k (row_small p l) small ∙ ap (λ (q : ℕ). get_or (row_cells d firsts q) k 0) (mod-mul-add (third_of (kind_at d p)) (length d) p l)

  abbrev leads_to : ℕ → ℕ → ℕ
  leads_to p v = row_number d (step d p v) * (w + 1)

  class_cell : (p k : ℕ) → k < w → get_or (row_cells d firsts p) k 0 ≡ leads_to p (get_or firsts k 0)
  class_cell p k l =
      get_or_append_left (map (leads_to p) firsts) (pattern_of (kind_at d p) ∷ []) 0 k (omega (arith, l, length-map firsts (leads_to p)))
      ∙ get_or-map (leads_to p) firsts k 0 0 l

  pattern_cell : (p : ℕ) → get_or (row_cells d firsts p) w 0 ≡ pattern_of (kind_at d p)
  pattern_cell p =
      let none : w - w ≡ 0 = omega arith in
      get_or-append_right (map (leads_to p) firsts) (pattern_of (kind_at d p) ∷ []) w w 0 (length-map firsts (leads_to p)) (omega arith)
      ∙ ap (λ (n : ℕ). get_or (pattern_of (kind_at d p) ∷ []) n 0) none

  class_is : (v : ℕ) → v < 1114112 → character_class t v ≡ get_or c.classes.items v 0
  class_is v l =
      let last : min (v / 128) (length pages - 1) ≡ v / 128 = omega (arith, l, p_are.0) in
      let page : get_or pages (min (v / 128) (length pages - 1)) 0 ≡ v / 128 = ap (λ (n : ℕ). get_or pages n 0) last ∙ p_are.1 (v / 128) (omega (arith, l)) in
      let place : get_or pages (min (v / 128) (length pages - 1)) 0 * 128 + v % 128 ≡ v = omega (arith, page) in
      ap (λ (n : ℕ). get_or c.classes.items n 0) place

  next_is : (p v : ℕ) → p < length d → v < 1114112 → next_row t (row_of p) v ≡ row_of (step d p v)
  next_is p v l character =
      let class = get_or c.classes.items v 0 in
      let there = h.within v character in
      ap (λ (k : ℕ). get_or cells (row_of p + k) 0) (class_is v character) ∙ cell p class l (omega (arith, there)) ∙ class_cell p class there
      ∙ ap (λ (q : ℕ). row_number d q * (w + 1)) (sym (h.alike v character p l))

  follow : (p : ℕ) (word : List ℕ) → p < length d → All (λ v. v < 1114112) word → row_after t (row_of p) word ≡ row_of (run d p word)
  follow p [] l all = refl
  follow p (v ∷ word) l all =
      ap (λ (row : ℕ). row_after t row word) (next_is p v l (All-head (λ n. n < 1114112) v word all))
      ∙ follow (step d p v) word (step_within d p v wf l) (All-tail (λ n. n < 1114112) v word all)

  like : (k : Kind) (p row : ℕ) → p < length d → row ≡ (third_of k * length d + p) * (w + 1) → get_or cells (row + w) 0 ≡ pattern_of k → IsRowLike t row k
  like Reject p row l is pattern =
      let first : 0 * length d + p ≡ p = omega arith in
      omega (arith, is, ap (λ (n : ℕ). n * (w + 1)) first, row_before p (length d) 0 w l (omega arith))
  like Neither p row l is pattern =
      let second : 1 * length d + p ≡ length d + p = omega arith in
      let from : length d * (w + 1) ≤ (length d + p) * (w + 1) = mul-le-mul_right (w + 1) (omega arith) in
      let place = ap (λ (n : ℕ). n * (w + 1)) second in
      (omega (arith, is, place, from), omega (arith, is, place, row_before (length d + p) (2 * length d) 0 w (omega (arith, l)) (omega arith)))
  like (Accepts i) p row l is pattern =
      let from : 2 * length d * (w + 1) ≤ (2 * length d + p) * (w + 1) = mul-le-mul_right (w + 1) (omega arith) in
      let before : length d * (w + 1) ≤ 2 * length d * (w + 1) = mul-le-mul_right (w + 1) (omega arith) in
      (omega (arith, is, from, before), omega (arith, is, from), pattern)

  state_like : (p row : ℕ) → p < length d → row ≡ row_of p → IsSomeAnd (slice_get d p) (λ r. IsRowLike t row r.kind)
  state_like p row l e =
      elim (slice_get_cases d p).1 [
        | inl x ↦
            let kind : kind_at d p ≡ x.0.kind = ap kind_or_reject x.2 in
            let pattern : get_or cells (row + w) 0 ≡ pattern_of x.0.kind =
            ap (λ (n : ℕ). get_or cells (n + w) 0) e ∙ cell p w l (omega arith) ∙ pattern_cell p ∙ ap pattern_of kind in
            let place : row ≡ (third_of x.0.kind * length d + p) * (w + 1) = e ∙ ap (λ (k : Kind). (third_of k * length d + p) * (w + 1)) kind in
            subst (λ o. IsSomeAnd o (λ (r : Row). IsRowLike t row r.kind)) (sym x.2) (like x.0.kind p row l place pattern)
        | inr past ↦ absurd (omega (arith, past.0, l))
      ]

  classes_are : AreClasses t
  classes_are = record {
    some_page = omega (arith, p_are.0);
    ascii = p_are.1 0 (omega arith);
    whole_blocks = λ k l. omega (arith, p_are.0, p_are.1 k (omega (arith, l, p_are.0)), h.all);
    below = λ k l. h.within k (omega (arith, l, h.all));
  }

  pub made_right : IsTableFor t d
  made_right = record {
    classes = classes_are;
    within = λ word all.
        omega (arith, follow 0 word wf.some all, rows.size, row_before (row_number d (after d word)) (3 * length d) w w (row_small (after d word) (run_within d 0 word wf wf.some)) (omega arith));
    alike = λ word all. state_like (after d word) (row_after t (row_of 0) word) (run_within d 0 word wf wf.some) (follow 0 word wf.some all);
    one_row = λ u v us vs same. follow 0 u wf.some us ∙ ap row_of same ∙ sym (follow 0 v wf.some vs);
  }

  -- ---- it is regular

  pattern_below : (k : Kind) (p : ℕ) → AreBelow d 65535 → k ≡ kind_at d p → pattern_of k < 65535
  pattern_below (Accepts i) p below is =
      elim (slice_get_cases d p).1 [
        | inl x ↦ below p i x.0 x.2 (sym (is ∙ ap kind_or_reject x.2))
        | inr past ↦ (let none : Accepts i ≡ Reject = is ∙ ap kind_or_reject past.1 in cc)
      ]
  pattern_below Reject p below is = omega arith
  pattern_below Neither p below is = omega arith

  state_there : (j : ℕ) → j % length d < length d
  state_there j = omega (arith, wf.some)

  pub made_regular : AreBelow d 65535 → IsRegular t (length d) (3 * length d)
  made_regular below = record {
    classes = classes_are;
    live = refl;
    some = omega arith;
    size = rows.size;
    start = (row_number d 0, row_small 0 wf.some, refl);
    leads = λ j class l small.
        let p = j % length d in
        let q = step d p (get_or firsts class 0) in
        (row_number d q, row_small q (step_within d p (get_or firsts class 0) wf (state_there j)), rows.each j class l (omega (arith, small)) ∙ class_cell p class small);
    rules = λ j l.
        let p = j % length d in
        omega (arith, rows.each j w l (omega arith), pattern_cell p, pattern_below (kind_at d p) p below refl);
  }

  pub made_storable : IsStorableTable t
  made_storable = record {
    blocks = All-from_get_or (λ n. n < 2 ^ 8) c.classes.items 0 (λ i l. omega (arith, h.within i (omega (arith, l, h.all)), h.few));
    all_blocks = omega (arith, h.all);
    pages = All-from_get_or (λ n. n < 2 ^ 16) pages 0 (λ i l. omega (arith, p_are.1 i (omega (arith, l, p_are.0)), l, p_are.0));
    all_pages = omega (arith, p_are.0);
  }

-- the same numbers, each known by an equation
abbrev pub numbers_by : CharacterClasses → List ℕ → List ℕ → ℕ → ℕ → ℕ → TableNumbers
numbers_by c pages cells width count start = record {
  blocks = c.classes.items;
  pages = pages;
  start = start * (width + 1);
  width = width;
  live = count * (width + 1);
  accept = 2 * count * (width + 1);
  cells = cells;
}

pub same_numbers : (d : List Row) (c : CharacterClasses) (pages cells : List ℕ) (width count start : ℕ) → width ≡ length c.firsts.items → count ≡ length d → start ≡ row_number d 0
    → made_numbers d c pages cells ≡ numbers_by c pages cells width count start
same_numbers d c pages cells width count start width_is count_is start_is =
    sym (ap (λ (n : ℕ). numbers_by c pages cells n count start) width_is ∙ ap (λ (n : ℕ). numbers_by c pages cells (length c.firsts.items) n start) count_is
    ∙ ap (λ (n : ℕ). numbers_by c pages cells (length c.firsts.items) (length d) n) start_is)
