-- The construction, step by step.
use Rattle.std.proofs.Common.{◌≡◌, ℕ, zero, suc, ◌+◌, ◌<◌, ◌≤◌, inl, inr, List, [], ◌∷◌, ◌++◌, length, map, take, get_or, refl, ap, sym, ◌∙◌, subst, arith, Option, Some, None, MatchOption, ◌^◌, length-append, sum_by}
use Rattle.std.specs.Prelude.{slice_get}
use Rattle.std.specs.List.{Contains}
use Rattle.std.proofs.lemmas.List.{take_more, take_all, length_push, map-append}
use Rattle.std.proofs.Math.Pow.{pow_mono}
use Rattle.std.proofs.lemmas.Option.{slice_get_cases, slice_get_within, slice_get-get_or, get_or_from_slice_get}
use Rattle.lalrpop_hir.specs.Range.{Range}
use Rattle.lalrpop_hir.specs.Tree.{Tree}
use Rattle.lalrpop_hir.specs.Size.{size}
use Rattle.lalrpop_nfa.specs.Graph.{Graph}
use Rattle.lalrpop_nfa.specs.Partition.{IsPartition}
use Rattle.lalrpop_dfa.specs.Dfa.{Row, RecognizesAll, IsWellFormed}
use Rattle.lalrpop_hir.specs.Clash.{NoClash, IsClash}
use Rattle.lalrpop_nfa.specs.Automata.{AreCompiled}
use Rattle.lalrpop_dfa.specs.Ascending.{Item, AreAscendingItems}
use Rattle.lalrpop_build.specs.Items.{IsLeaving, HoldsItems, OthersReject, IsInWordOrder}
use Rattle.lalrpop_build.specs.Internal.Subsets.{move, all_items}
use Rattle.lalrpop_build.specs.Internal.BreadthFirst.{AreEarlier, Automaton, IsBreadthFirst, Added, nth, value_of, from_of, word}
use Rattle.lalrpop_build.specs.Internal.Built.{subset_automaton, IsKindOf, IsRowOf, IsTied}
use Rattle.lalrpop_build.specs.Internal.Given.{AreAutomata, AreItemsOf}
use Rattle.lalrpop_build.specs.Internal.Expansion.{AddedTo, AreSmall, AreTested, Keep, IsEdging, IsEdged, IsBuiltTo, IsTieOf, IsClashAt, IsClashOf}
use Rattle.lalrpop_hir.specs.declared.error.DfaConstructionError.{DfaConstructionError}
use Rattle.lalrpop_hir.specs.declared.error.DfaConstructionError.TheVariants.{NfaConstructionError as Refused, Ambiguity, OutOfMemory}
use Rattle.lalrpop_build.proofs.Sets.{first_set_ascends, first_set_items, move_ascends, move_items}
use Rattle.lalrpop_build.proofs.RowSteps.{added_keeps, added_is, taken_range, taken_other, tests_lead_more, tests_lead_kept, run_small}
use Rattle.lalrpop_build.proofs.BuiltTable.{built_stands}
use Rattle.lalrpop_build.proofs.TiedClash.{tied_is_clash_after_rows}
use Rattle.lalrpop_dfa.specs.Counts.{state_bound}
use Rattle.lalrpop_build.proofs.StateCount.{states_bound, items_bound}
use Rattle.lalrpop_hir.proofs.Pushed.{pushed_cases}

pub added_from : (m : Automaton (List Item)) (sets : List (List Item)) (origins : List (ℕ × ℕ)) (n v : ℕ) (t : List Item) (j : ℕ) (sets2 : List (List Item)) (origins2 : List (ℕ × ℕ))
    → AddedTo sets origins n v t j sets2 origins2 → Added m sets origins n v t j sets2 origins2
added_from m sets origins n v t j sets2 origins2 (inl (e, a, b)) = inl (slice_get_within sets j t e, get_or_from_slice_get sets j t m.start e, a, b)
added_from m sets origins n v t j sets2 origins2 (inr (none, e, a, b)) = inr (λ k l is. none k (slice_get-get_or sets k m.start l ∙ ap (λ s. Some s) is), e, a, b)

small_push : (origins : List (ℕ × ℕ)) (n v : ℕ) → v ≤ 4294967295 → AreSmall origins → AreSmall (origins ++ (n, v) ∷ [])
small_push [] n v l f zero = l
small_push [] n v l f (suc k) = omega arith
small_push (o ∷ origins) n v l f zero = f 0
small_push (o ∷ origins) n v l f (suc k) = small_push origins n v l (λ i. f (suc i)) k

small_added : (sets : List (List Item)) (origins : List (ℕ × ℕ)) (n v : ℕ) (t : List Item) (j : ℕ) (sets2 : List (List Item)) (origins2 : List (ℕ × ℕ)) → v ≤ 4294967295
    → AddedTo sets origins n v t j sets2 origins2 → AreSmall origins → AreSmall origins2
small_added sets origins n v t j sets2 origins2 l (inl (e, a, b)) f = rw b f
small_added sets origins n v t j sets2 origins2 l (inr (none, e, a, b)) f = rw b (small_push origins n v l f)

-- ---- one number
module _ (ns : List Graph) (a : AreAutomata ns) (sets0 : List (List Item)) (origins0 : List (ℕ × ℕ)) (n : ℕ) (s : List Item) (xs : List Range) (partition : IsPartition (IsLeaving ns s) xs)
    (here : slice_get sets0 n ≡ Some s) where
  within0 : n < length sets0
  within0 = slice_get_within sets0 n s here

  is0 : nth (subset_automaton ns) sets0 n ≡ s
  is0 = get_or_from_slice_get sets0 n s (subset_automaton ns).start here

  pub edging_more : (k j v : ℕ) (t : List Item) (r label : Range) (sets : List (List Item)) (origins : List (ℕ × ℕ)) (tests tests2 : List (Range × ℕ)) (sets2 : List (List Item)) (origins2 : List (ℕ × ℕ))
      → IsEdging ns sets0 origins0 n s xs k sets origins tests → k < length xs → r ≡ get_or xs k r → v ≡ r.start → t ≡ move ns s v → label ≡ r
      → AddedTo sets origins n v t j sets2 origins2 → tests2 ≡ tests ++ (label, j) ∷ [] → IsEdging ns sets0 origins0 n s xs (k + 1) sets2 origins2 tests2
  edging_more k j v t r label sets origins tests tests2 sets2 origins2 h l read low to same add more =
      let m : Automaton (List Item) = subset_automaton ns in
      let at : slice_get xs k ≡ Some r = slice_get-get_or xs k r l ∙ ap (λ x. Some x) (sym read) in
      let member : Contains xs r = (k, l, sym read) in
      let toward : t ≡ move ns s r.start = to ∙ ap (move ns s) low in
      let add2 : AddedTo sets origins n r.start (move ns s r.start) j sets2 origins2 = (rw (toward, low) at add) in
      let added : Added m sets origins n r.start (move ns s r.start) j sets2 origins2 = added_from m sets origins n r.start (move ns s r.start) j sets2 origins2 add2 in
      let kept = h.kept n within0 in
      let low_small : r.start ≤ 4294967295 = omega (arith, run_small a.0 ns a.1 s xs partition r member, (partition.are_blocks r member).uniform.holds_one) in
      record {
        breadth_first = taken_range a.0 ns a.1 s xs partition sets origins n k j r sets2 origins2 h.breadth_first kept.0 (kept.1 ∙ is0) at added;
        ranges = rw (more, same) (map-append (λ (u : Range × ℕ). u.0) tests ((r, j) ∷ []) ∙ (ap (λ ys. ys ++ r ∷ []) h.ranges ∙ sym (take_more xs k r l ∙ ap (λ y. take k xs ++ y ∷ []) (sym read))));
        leads = rw (more, same) (tests_lead_more a.0 ns a.1 s xs partition sets origins n j r sets2 origins2 tests added member h.leads);
        kept = λ i il. (let b = h.kept i il in let d = added_keeps m sets origins n r.start (move ns s r.start) j sets2 origins2 added i b.0 in (d.0, d.1 ∙ b.1));
        small = λ f. small_added sets origins n r.start (move ns s r.start) j sets2 origins2 low_small add2 (h.small f);
      }

  pub edging_done : (k j : ℕ) (t : List Item) (sets : List (List Item)) (origins : List (ℕ × ℕ)) (tests : List (Range × ℕ)) (sets2 : List (List Item)) (origins2 : List (ℕ × ℕ))
      → IsEdging ns sets0 origins0 n s xs k sets origins tests → k ≡ length xs → t ≡ move ns s 4294967295 → AddedTo sets origins n 4294967295 t j sets2 origins2
      → IsEdged ns sets0 origins0 n s sets2 origins2 tests j
  edging_done k j t sets origins tests sets2 origins2 h end to add =
      let m : Automaton (List Item) = subset_automaton ns in
      let add2 : AddedTo sets origins n 4294967295 (move ns s 4294967295) j sets2 origins2 = (rw to at add) in
      let added : Added m sets origins n 4294967295 (move ns s 4294967295) j sets2 origins2 = added_from m sets origins n 4294967295 (move ns s 4294967295) j sets2 origins2 add2 in
      let kept = h.kept n within0 in
      record {
        breadth_first = taken_other a.0 ns a.1 s xs partition sets origins n j sets2 origins2 (rw end at h.breadth_first) kept.0 (kept.1 ∙ is0) added;
        ranges = subst (IsPartition (IsLeaving ns s)) (sym (h.ranges ∙ take_all k xs (omega (arith, end)))) partition;
        leads = tests_lead_kept a.0 ns a.1 s xs partition sets origins n 4294967295 j (move ns s 4294967295) sets2 origins2 tests added h.leads;
        otherwise = added_is m sets origins n 4294967295 (move ns s 4294967295) j sets2 origins2 added;
        kept = λ i il. (let b = h.kept i il in let d = added_keeps m sets origins n 4294967295 (move ns s 4294967295) j sets2 origins2 added i b.0 in (d.0, d.1 ∙ b.1));
        small = λ f. small_added sets origins n 4294967295 (move ns s 4294967295) j sets2 origins2 (omega arith) add2 (h.small f);
      }

-- ---- the table
-- the numbered sets hold items, and ascend
module _ (ns : List Graph) (sets : List (List Item)) (origins : List (ℕ × ℕ)) (n v : ℕ) (num : IsBreadthFirst (subset_automaton ns) sets origins n v) where
  pub nth_holds : (k : ℕ) → k < length sets → AreItemsOf ns (nth (subset_automaton ns) sets k) × AreAscendingItems (nth (subset_automaton ns) sets k)
  nth_holds zero l = subst (λ s. AreItemsOf ns s × AreAscendingItems s) (sym num.first) (first_set_items ns, first_set_ascends ns)
  nth_holds (suc k) l =
      let o : ℕ = from_of origins (suc k) in
      let c : ℕ = value_of origins (suc k) in
      subst (λ s. AreItemsOf ns s × AreAscendingItems s) (num.reached (suc k) (omega arith) l) (move_items ns (nth (subset_automaton ns) sets o) c, move_ascends ns (nth (subset_automaton ns) sets o) c)

pub set_holds : (ns : List Graph) (sets : List (List Item)) (origins : List (ℕ × ℕ)) (n v k : ℕ) (s : List Item) → IsBreadthFirst (subset_automaton ns) sets origins n v → slice_get sets k ≡ Some s → AreItemsOf ns s × AreAscendingItems s
set_holds ns sets origins n v k s num at =
    subst (λ s. AreItemsOf ns s × AreAscendingItems s) (get_or_from_slice_get sets k s (subset_automaton ns).start at) (nth_holds ns sets origins n v num k (slice_get_within sets k s at))

-- rows stay right while sets keep their numbers
row_on : (ns : List Graph) (ps : List ℕ) (sets sets2 : List (List Item)) (k : ℕ) (r : Row) → Keep ns sets sets2 → k < length sets → IsRowOf ns ps sets k r → IsRowOf ns ps sets2 k r
row_on ns ps sets sets2 k r kept l row =
    let same : nth (subset_automaton ns) sets2 k ≡ nth (subset_automaton ns) sets k = (kept k l).1 in
    record {
      items = row.items ∙ sym same;
      kind = subst (λ (s : List Item). IsKindOf ps s r.kind) (sym same) row.kind;
      ranges = subst (λ (s : List Item). IsPartition (IsLeaving ns s) (map (λ t. t.0) r.tests)) (sym same) row.ranges;
      leads = λ t c m a. (let b = row.leads t c m a in let keeps = kept t.1 b.0 in (keeps.0, keeps.1 ∙ b.1 ∙ ap (λ (s : List Item). move ns s c) (sym same)));
      otherwise = (let b = row.otherwise in let keeps = kept r.other b.0 in (keeps.0, keeps.1 ∙ b.1 ∙ ap (λ (s : List Item). move ns s 4294967295) (sym same)));
    }

pub built_more : (ns : List Graph) (ps : List ℕ) (sets : List (List Item)) (origins : List (ℕ × ℕ)) (rows : List Row) (n : ℕ) (s : List Item) (sets2 : List (List Item)) (origins2 : List (ℕ × ℕ)) (row : Row) (rows2 : List Row)
    → IsBuiltTo ns ps sets origins rows n → slice_get sets n ≡ Some s → IsEdged ns sets origins n s sets2 origins2 row.tests row.other → IsKindOf ps s row.kind → row.items ≡ s → rows2 ≡ rows ++ row ∷ []
    → IsBuiltTo ns ps sets2 origins2 rows2 (n + 1)
built_more ns ps sets origins rows n s sets2 origins2 row rows2 h at e kind items more = record {
  breadth_first = e.breadth_first;
  within = omega (arith, (e.kept n within0).0);
  counted = omega (arith, ap length more, length-append rows (row ∷ []), h.counted);
  rows_are = λ k r g. elim (pushed_cases rows row k r (rw more at g)) [
    | inl was ↦ row_on ns ps sets sets2 k r e.kept (omega (arith, slice_get_within rows k r was, h.counted, within0)) (h.rows_are k r was)
    | inr new ↦ subst (λ i. IsRowOf ns ps sets2 i r) (sym (new.0 ∙ h.counted)) (subst (IsRowOf ns ps sets2 n) (sym new.1) here)
  ];
  small = e.small h.small;
}
  where
    within0 : n < length sets
    within0 = slice_get_within sets n s at

    same : nth (subset_automaton ns) sets2 n ≡ s
    same = (e.kept n within0).1 ∙ get_or_from_slice_get sets n s (subset_automaton ns).start at

    here : IsRowOf ns ps sets2 n row
    here = record {
      items = items ∙ sym same;
      kind = subst (λ (u : List Item). IsKindOf ps u row.kind) (sym same) kind;
      ranges = subst (λ (u : List Item). IsPartition (IsLeaving ns u) (map (λ t. t.0) row.tests)) (sym same) e.ranges;
      leads = λ t c m k. (let b = e.leads t c m k in (b.0, b.1 ∙ ap (λ (u : List Item). move ns u c) (sym same)));
      otherwise = (e.otherwise.0, e.otherwise.1 ∙ ap (λ (u : List Item). move ns u 4294967295) (sym same));
    }

-- the same, with what the calls of one iteration promise
pub built_pushed : (ns : List Graph) (ps : List ℕ) (sets : List (List Item)) (origins : List (ℕ × ℕ)) (rows : List Row) (n : ℕ) (s : List Item) (sets1 : List (List Item)) (origins1 : List (ℕ × ℕ)) (rows1 : List Row) (row : Row)
    (sets2 : List (List Item)) (origins2 : List (ℕ × ℕ)) (rows2 : List Row)
    → IsBuiltTo ns ps sets origins rows (length rows) → slice_get sets (length rows) ≡ Some s → n ≡ length rows → IsEdged ns sets origins n s sets1 origins1 row.tests row.other → row.items ≡ s
    → rows1 ≡ rows → rows2 ≡ rows1 ++ row ∷ [] → sets2 ≡ sets1 → origins2 ≡ origins1 → IsKindOf ps s row.kind → IsBuiltTo ns ps sets2 origins2 rows2 (length rows2)
built_pushed ns ps sets origins rows n s sets1 origins1 rows1 row sets2 origins2 rows2 h at number e items old more same_sets same_origins kind =
    let pushed : rows2 ≡ rows ++ row ∷ [] = more ∙ ap (λ rs. rs ++ row ∷ []) old in
    let e2 : IsEdged ns sets origins (length rows) s sets1 origins1 row.tests row.other = subst (λ k. IsEdged ns sets origins k s sets1 origins1 row.tests row.other) number e in
    let done : IsBuiltTo ns ps sets1 origins1 rows2 (length rows + 1) = built_more ns ps sets origins rows (length rows) s sets1 origins1 row rows2 h at e2 kind items pushed in
    let long : length rows + 1 ≡ length rows2 = sym (ap length pushed ∙ length_push rows row) in
    rw (same_sets, same_origins) (subst (IsBuiltTo ns ps sets1 origins1 rows2) long done)

-- ---- the end
-- no number is left: the table is finished
pub built_end : (ns : List Graph) (ps : List ℕ) (sets : List (List Item)) (origins : List (ℕ × ℕ)) (rows : List Row) (place : ℕ) → IsBuiltTo ns ps sets origins rows (length rows) → place ≡ length rows → slice_get sets place ≡ None → IsBuiltTo ns ps sets origins rows (length sets)
built_end ns ps sets origins rows place h same none =
    let end : length rows ≡ length sets = elim (slice_get_cases sets (length rows)).1 [
      | inl more ↦ (let clash : None ≡ Some more.0 = sym (rw same at none) ∙ more.2 in cc)
      | inr past ↦ omega (arith, past.0, h.within)
    ] in
    subst (IsBuiltTo ns ps sets origins rows) end h

pub built_all : (ns : List Graph) (ps : List ℕ) (sets : List (List Item)) (origins : List (ℕ × ℕ)) (rows : List Row) → IsBuiltTo ns ps sets origins rows (length sets)
    → (ts : List Tree) → AreCompiled ts ns → NoClash ts ps × RecognizesAll rows ts ps × IsWellFormed rows × HoldsItems ns rows × OthersReject rows × IsInWordOrder rows
built_all ns ps sets origins rows h ts k = built_stands ts ps ns sets origins rows k h.breadth_first h.counted h.rows_are h.small

-- the number of sets is bounded
pub built_few : (ns : List Graph) (ps : List ℕ) (sets : List (List Item)) (origins : List (ℕ × ℕ)) (rows : List Row) (s : List Item) → IsBuiltTo ns ps sets origins rows (length rows) → slice_get sets (length rows) ≡ Some s → length rows < 2 ^ length (all_items ns)
built_few ns ps sets origins rows s h at = omega (arith, states_bound ns sets origins (length rows) 0 h.breadth_first, slice_get_within sets (length rows) s at)

pub built_bound : (ns : List Graph) (ps : List ℕ) (sets : List (List Item)) (origins : List (ℕ × ℕ)) (rows : List Row) (n : ℕ) → IsBuiltTo ns ps sets origins rows n → (ts : List Tree) → AreCompiled ts ns → length rows ≤ state_bound ts
built_bound ns ps sets origins rows n h ts k =
    omega (arith, h.counted, h.within, states_bound ns sets origins n 0 h.breadth_first, pow_mono {i = length (all_items ns)} {j = sum_by (λ t. 3 + size t) ts} (items_bound ts ns k))

-- a tie is a clash
pub built_clash : (ns : List Graph) (ps : List ℕ) (sets : List (List Item)) (origins : List (ℕ × ℕ)) (rows : List Row) (s : List Item) (e : DfaConstructionError) → IsBuiltTo ns ps sets origins rows (length rows) → slice_get sets (length rows) ≡ Some s
    → IsTieOf ps s (word origins (length rows)) e → (ts : List Tree) → AreCompiled ts ns → IsClashOf ts ps e
built_clash ns ps sets origins rows s (Refused i f) h at t ts k = t
built_clash ns ps sets origins rows s (Ambiguity i j w) h at t ts k =
    let here : nth (subset_automaton ns) sets (length rows) ≡ s = get_or_from_slice_get sets (length rows) s (subset_automaton ns).start at in
    subst (λ v. IsClash ts ps v i j) (sym t.1) (tied_is_clash_after_rows ts ps ns sets origins rows (length rows) i j k h.breadth_first (slice_get_within sets (length rows) s at) refl h.rows_are (subst (λ u. IsTied ps u i j) (sym here) t.0) h.small)
built_clash ns ps sets origins rows s OutOfMemory h at t ts k = tt

-- what the next kernel is
-- the row of a number: its blocks, then all other values
pub row_built : (ns : List Graph) → AreAutomata ns → (ps : List ℕ) (sets : List (List Item)) (origins : List (ℕ × ℕ)) (rows : List Row) (n : ℕ) (s : List Item) (sets1 : List (List Item)) (origins1 : List (ℕ × ℕ)) (tests1 : List (Range × ℕ))
    (sets2 : List (List Item)) (origins2 : List (ℕ × ℕ)) (row : Row) (rows2 : List Row)
    → IsBuiltTo ns ps sets origins rows (length rows) → slice_get sets (length rows) ≡ Some s → n ≡ length rows → AreTested ns sets origins n s sets1 origins1 tests1 → AddedTo sets1 origins1 n 4294967295 (move ns s 4294967295) row.other sets2 origins2
    → row.tests ≡ tests1 → row.items ≡ s → IsKindOf ps s row.kind → rows2 ≡ rows ++ row ∷ [] → IsBuiltTo ns ps sets2 origins2 rows2 (length rows2)
row_built ns automata ps sets origins rows n s sets1 origins1 tests1 sets2 origins2 row rows2 built here number (xs, (partition, edging)) added tests items kind more =
    let edged : IsEdged ns sets origins n s sets2 origins2 tests1 row.other =
    edging_done ns automata sets origins n s xs partition (rw number here) (length xs) row.other (move ns s 4294967295) sets1 origins1 tests1 sets2 origins2 edging refl refl added in
    built_pushed ns ps sets origins rows n s sets2 origins2 rows row sets2 origins2 rows2 built here number (rw tests edged) items refl more refl refl kind

pub next_given : (o : Option (List Item)) (s : List Item) (A : Type 0) (P : List Item → Type 0) → MatchOption o A P → o ≡ Some s → P s
next_given None s A P h e = cc
next_given (Some t) s A P h e = let same : t ≡ s = cc in subst P same h

pub next_none : (o : Option (List Item)) (A : Type 0) (P : List Item → Type 0) → MatchOption o A P → ((s : List Item) → o ≡ Some s → ⊥) → A
next_none None A P h never = h
next_none (Some t) A P h never = absurd (never t refl)

pub at_rows : (list : List (List Item)) (place n : ℕ) (s : List Item) → slice_get list place ≡ Some s → place ≡ n → slice_get list n ≡ Some s
at_rows list place n s at is = rw (← is) at

-- a tie of a set, with its word
pub tie_told : (ps : List ℕ) (s : List Item) (v : List ℕ) (i j : ℕ) (e : DfaConstructionError) → IsTied ps s i j → IsClashAt v i j e → IsTieOf ps s v e
tie_told ps s v i j (Refused k f) t c = c
tie_told ps s v i j (Ambiguity k l w) t c = (rw (c.0, c.1) t, c.2)
tie_told ps s v i j OutOfMemory t c = tt

-- each number was first met from an earlier one
pub built_earlier : (ns : List Graph) (ps : List ℕ) (sets : List (List Item)) (origins : List (ℕ × ℕ)) (rows : List Row) (n : ℕ) → IsBuiltTo ns ps sets origins rows n → AreEarlier origins
built_earlier ns ps sets origins rows n h = λ k a l. h.breadth_first.earlier k a (omega (arith, h.breadth_first.same_length))
