-- All clashes, found set by set.
use Rattle.std.proofs.Common.{◌≡◌, ℕ, ◌+◌, ◌<◌, ◌≤◌, ◌↔◌, inl, ⊎_elim, List, [], ◌∷◌, ◌++◌, length, ap, sym, ◌∙◌, subst, arith}
use Rattle.std.specs.Prelude.{slice_get, slice_index, Some}
use Rattle.std.specs.List.{Contains}
use Rattle.std.proofs.lemmas.Option.{slice_get_within}
use Rattle.std.proofs.lemmas.List.{length_push, get_or_push, get_or_append_left}
use Rattle.std.proofs.lemmas.Bool.{cases_lt}
use Rattle.lalrpop_hir.specs.Tree.{Tree}
use Rattle.lalrpop_nfa.specs.Graph.{Graph}
use Rattle.lalrpop_hir.specs.Clash.{NoClash}
use Rattle.lalrpop_hir.specs.Clashes.{Entry, AreTied, AreClashes}
use Rattle.lalrpop_nfa.specs.Automata.{AreCompiled}
use Rattle.lalrpop_dfa.specs.Ascending.{Item, AreAscendingItems}
use Rattle.lalrpop_build.specs.Internal.Given.{AreItemsOf}
use Rattle.lalrpop_build.proofs.Builds.{nth_holds}
use Rattle.lalrpop_dfa.specs.Dfa.{Row}
use Rattle.lalrpop_build.specs.Internal.BreadthFirst.{IsBreadthFirst, nth, value_of, word}
use Rattle.lalrpop_build.specs.Internal.Expansion.{IsBuiltTo, IsClashOf}
use Rattle.lalrpop_hir.specs.Report.{IsFaultOf}
use Rattle.lalrpop_hir.specs.declared.error.DfaConstructionError.{DfaConstructionError}
use Rattle.lalrpop_hir.specs.declared.error.DfaConstructionError.TheVariants.{NfaConstructionError as Refused, Ambiguity, OutOfMemory}
use Rattle.lalrpop_build.specs.Internal.Built.{subset_automaton, IsStrongestIn}
use Rattle.lalrpop_build.proofs.Origins.{word_is_word}
use Rattle.lalrpop_build.proofs.Dead.{dead_stays}
use Rattle.lalrpop_build.proofs.SetWinners.{dead_accepts_none, strongest_iff}
use Rattle.lalrpop_hir.proofs.Members.{has_from, contains_from, has_at, at_has, has_cases}
use Rattle.lalrpop_build.specs.Internal.Ties.{AreAscending, AreTiesTo, HasTiesTo, AreOwn}
use Rattle.lalrpop_build.proofs.ClashListLaws.{order_from, clashes_from}
use Rattle.lalrpop_build.proofs.ClashLists.{AreClashesOf, AreListedTo, AreNew, listed_all, listed_more}

-- tree i and the lower tree j are two of the strongest that the set accepts
abbrev pub AreTiedIn : List ℕ → List Item → ℕ → ℕ → Type 0
AreTiedIn ps s i j = (j < i) × IsStrongestIn ps s i × IsStrongestIn ps s j

module _ (ts : List Tree) (ps : List ℕ) where
  -- the list of the ties of all sets is the list of all clashes
  pub all_listed : (ns : List Graph) → AreCompiled ts ns → (sets : List (List Item)) (origins : List (ℕ × ℕ)) → IsBreadthFirst (subset_automaton ns) sets origins (length sets) 0
      → ((k : ℕ) → value_of origins k ≤ 4294967295)
      → (cs : List Entry) → AreListedTo (subset_automaton ns) sets origins (AreTiedIn ps) (length sets) cs → AreClashesOf (AreTied ts ps) cs
  all_listed ns h sets origins b small cs listed =
      listed_all (subset_automaton ns) sets origins (AreTiedIn ps) (AreTied ts ps) (dead_stays ts ns h) b
      (λ s i j d t. dead_accepts_none s d i t.1.0)
      (λ w i j. (
        λ t. (t.0, (strongest_iff ts ns h ps w i).1 t.1, (strongest_iff ts ns h ps w j).1 t.2),
        λ t. (t.0, (strongest_iff ts ns h ps w i).0 t.1, (strongest_iff ts ns h ps w j).0 t.2),
      ))
      (λ k. word_is_word origins small k) cs listed

-- if each tree has a precedence of its own there is no clash: so a builder with such precedences makes all sets
pub apart_no_clash : (ts : List Tree) (ps : List ℕ) → ((i : ℕ) → i < length ts → slice_index ps i ≡ i) → NoClash ts ps
apart_no_clash ts ps apart w (i, j, (less, a, b)) =
    let il : i < length ts = slice_get_within ts i a.0.0 a.0.1.0 in
    let jl : j < length ts = slice_get_within ts j b.0.0 b.0.1.0 in
    omega (arith, apart i il, apart j jl, b.1 i a.0)

-- ---- from set to set
module _ (ps : List ℕ) (ns : List Graph) (sets : List (List Item)) (origins : List (ℕ × ℕ)) (b : IsBreadthFirst (subset_automaton ns) sets origins (length sets) 0) where
  module _ (n : ℕ) (strongest : List ℕ) (cs es : List Entry) (ascending : AreAscending strongest)
      (all : (i : ℕ) → Contains strongest i ↔ IsStrongestIn ps (nth (subset_automaton ns) sets n) i) (t : AreTiesTo strongest (word origins n) cs es 0 0) where
    strong : (p i : ℕ) → slice_get strongest p ≡ Some i → IsStrongestIn ps (nth (subset_automaton ns) sets n) i
    strong p i e = (all i).0 (contains_from strongest i (has_at strongest p i e))

    -- the greater of two is at the greater place
    in_places : (p q i j : ℕ) → j < i → slice_get strongest p ≡ Some i → slice_get strongest q ≡ Some j → q < p
    in_places p q i j l x y = ⊎_elim
        (λ (a : q < p). a)
        (λ (a : p ≤ q). ⊎_elim
        (λ (d : p < q). absurd (omega (arith, ascending q p j i d y x)))
        (λ (d : q ≤ p). (let e : p ≡ q = omega arith in let f : Some i ≡ Some j = sym x ∙ (rw e y) in let g : i ≡ j = cc in absurd (omega (arith, g))))
        (cases_lt p q))
        (cases_lt q p)

    new_ties : AreNew (subset_automaton ns) sets origins (AreTiedIn ps) n cs es
    new_ties = record {
      each = λ c x. (let f = t.each c (contains_from es c x) in let r = f.1.2 in
          (f.0, (ascending f.1.0 f.1.1 c.match0 c.match1 r.0 r.1 r.2, strong f.1.0 c.match0 r.1, strong f.1.1 c.match1 r.2)));
      fresh = λ c d x y e f. t.fresh c (contains_from es c x) (d, (contains_from cs d y, e, f));
      all = λ i j q.
          (let (x, e) = at_has strongest i (has_from strongest i ((all i).1 q.1)) in
          let (y, f) = at_has strongest j (has_from strongest j ((all j).1 q.2)) in
          let l : y < x = in_places x y i j q.0 e f in
          let (c, (m, g, s)) = t.all x y i j l e f (inl (omega arith)) in (c, (has_cases cs es c (has_from (cs ++ es) c m), g, s)));
      in_order = order_from es t.in_order;
    }

  pub listed_one : (n : ℕ) → n < length sets → (strongest : List ℕ) → AreAscending strongest → ((i : ℕ) → Contains strongest i ↔ IsStrongestIn ps (nth (subset_automaton ns) sets n) i)
      → (cs cs2 : List Entry) → AreListedTo (subset_automaton ns) sets origins (AreTiedIn ps) n cs → HasTiesTo strongest (word origins n) cs cs2 0 0
      → AreListedTo (subset_automaton ns) sets origins (AreTiedIn ps) (n + 1) cs2
  listed_one n l strongest ascending all cs cs2 h (es, (more, t)) =
      rw more (listed_more (subset_automaton ns) sets origins (AreTiedIn ps) (length sets) 0 n cs es b l h (new_ties n strongest cs es ascending all t))

-- the items of a row are the set of its number
pub row_set : (ns : List Graph) (ps : List ℕ) (sets : List (List Item)) (origins : List (ℕ × ℕ)) (rows : List Row) → IsBuiltTo ns ps sets origins rows (length sets)
    → (k : ℕ) (r : Row) (s : List Item) → slice_get rows k ≡ Some r → s ≡ r.items
    → (k < length sets) × (s ≡ nth (subset_automaton ns) sets k) × AreItemsOf ns s × AreAscendingItems s
row_set ns ps sets origins rows h k r s at is =
    let same : s ≡ nth (subset_automaton ns) sets k = is ∙ (h.rows_are k r at).items in
    let l : k < length sets = omega (arith, slice_get_within rows k r at, h.counted) in
    let holds = nth_holds ns sets origins (length sets) 0 h.breadth_first k l in
    (l, same, subst (AreItemsOf ns) (sym same) holds.0, subst AreAscendingItems (sym same) holds.1)

-- all sets were visited
pub all_found : (ns : List Graph) (apart ps : List ℕ) (sets : List (List Item)) (origins : List (ℕ × ℕ)) (rows : List Row) → IsBuiltTo ns apart sets origins rows (length sets)
    → (n : ℕ) → n ≡ length rows → (cs : List Entry) → AreListedTo (subset_automaton ns) sets origins (AreTiedIn ps) n cs → (ts : List Tree) → AreCompiled ts ns → AreClashes ts ps cs
all_found ns apart ps sets origins rows h n e cs listed ts k =
    clashes_from ts ps cs (all_listed ts ps ns k sets origins h.breadth_first h.small cs
    (subst (λ i. AreListedTo (subset_automaton ns) sets origins (AreTiedIn ps) i cs) (e ∙ h.counted) listed))

-- with precedences that are all different there is no clash, so the only error is refused memory
pub distinct_fault : (ts : List Tree) (ps : List ℕ) (e : DfaConstructionError) → AreOwn (length ts) ps → IsClashOf ts ps e → IsFaultOf ts e
distinct_fault ts ps (Refused i f) own c = absurd c
distinct_fault ts ps (Ambiguity i j w) own c = apart_no_clash ts ps own.1 w.items (i, j, (c.less, c.greatest, c.second))
distinct_fault ts ps OutOfMemory own c = tt

-- ---- precedences that are all different
pub own_none : (ps : List ℕ) → ps ≡ [] → AreOwn 0 ps
own_none ps e = (ap length e, λ i l. absurd (omega arith))

own_push : (ps : List ℕ) (k i : ℕ) → length ps ≡ k → ((j : ℕ) → j < k → slice_index ps j ≡ j) → i < k + 1 → slice_index (ps ++ k ∷ []) i ≡ i
own_push ps k i e f l = ⊎_elim
    (λ (a : i < k). get_or_append_left ps (k ∷ []) 0 i (omega (arith, e)) ∙ f i a)
    (λ (a : k ≤ i). get_or_push ps k 0 i (omega (arith, e)) ∙ omega arith)
    (cases_lt i k)

pub own_more : (ps ps2 : List ℕ) (k : ℕ) → AreOwn k ps → ps2 ≡ ps ++ k ∷ [] → AreOwn (k + 1) ps2
own_more ps ps2 k h more = rw more (length_push ps k ∙ ap (λ n. n + 1) h.0, λ i l. own_push ps k i h.0 h.1 l)
