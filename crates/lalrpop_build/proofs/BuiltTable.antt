-- The finished table is well formed, and its states hold what words lead to.
use Rattle.std.proofs.Common.{◌≡◌, ℕ, ◌<◌, ◌≤◌, ◌↔◌, ◌⊎◌, inl, inr, List, [], ◌∷◌, length, map, refl, ap, sym, subst, ◌∙◌, arith, Bool, true, false, ◌&&◌, nat_le, leb-true, le-leb, Some, None, Option, IsSomeAnd}
use Rattle.std.specs.List.{Contains, slice_get}
use Rattle.std.proofs.lemmas.Bool.{and_parts, and_from}
use Rattle.std.proofs.lemmas.Option.{slice_get_cases, slice_get_within}
use Rattle.lalrpop_hir.specs.Range.{Range, Covers}
use Rattle.lalrpop_hir.specs.Tree.{Tree}
use Rattle.lalrpop_nfa.specs.Graph.{Graph}
use Rattle.lalrpop_nfa.specs.Partition.{IsCovered, AreAscending, IsPartition}
use Rattle.lalrpop_hir.specs.Clash.{NoClash}
use Rattle.lalrpop_dfa.specs.Dfa.{Row, edge_target, step, run, after as state_after, IsRightKind, IsReject, RecognizesAll, AreAscendingTests, IsWellFormed}
use Rattle.lalrpop_nfa.specs.Automata.{AreCompiled}
use Rattle.lalrpop_dfa.specs.Ascending.{Item, AreAscendingItems}
use Rattle.lalrpop_build.specs.Items.{IsReached, IsLeaving, HoldsItems, OthersReject, IsInWordOrder}
use Rattle.lalrpop_build.specs.Internal.Subsets.{first_set_of, move, is_dead}
use Rattle.lalrpop_build.specs.Internal.BreadthFirst.{IsBreadthFirst, nth, value_of, after, word}
use Rattle.lalrpop_build.specs.Internal.Built.{subset_automaton, IsKindOf, IsRowOf}
use Rattle.lalrpop_dfa.specs.declared.Kind.TheVariants.{Reject}
use Rattle.lalrpop_hir.proofs.Members.{Has, has_from, contains_from, has_map, map_has}
use Rattle.lalrpop_build.proofs.Origins.{word_is_word}
use Rattle.lalrpop_build.proofs.BreadthFirst.{word_reaches, in_order}
use Rattle.lalrpop_build.proofs.Sets.{same_items}
use Rattle.lalrpop_build.proofs.ReachedItems.{after_ascends, reached_items}
use Rattle.lalrpop_build.proofs.Moved.{dead_states, dead_from}
use Rattle.lalrpop_build.proofs.Dead.{dead_stays, large_uncovered, large_dead, uncovered_same}
use Rattle.lalrpop_build.proofs.LeavingBlocks.{outside_blocks}
use Rattle.lalrpop_build.proofs.SetWinners.{dead_kind, reject_kind, kind_says, kind_not_ambiguous}

is_some_and : {A : Type 0} (o : Option A) (P : A → Type 0) (x : A) → o ≡ Some x → P x → IsSomeAnd o P
is_some_and o P x e p = rw e p

-- where a value leads: to the target of a test that covers it, or by the other edge if none does
abbrev LeadsBy : List (Range × ℕ) → ℕ → ℕ → Type 0
LeadsBy tests other c = ((t : Range × ℕ) × (Has tests t × Covers t.0 c × (edge_target tests other c ≡ t.1)))
    ⊎ (((t : Range × ℕ) → Has tests t → Covers t.0 c → ⊥) × (edge_target tests other c ≡ other))

leads_step : (t : Range × ℕ) (ts : List (Range × ℕ)) (other c : ℕ) → LeadsBy ts other c → (b : Bool) → (nat_le t.0.start c && nat_le c t.0.end) ≡ b → LeadsBy (t ∷ ts) other c
leads_step t ts other c ih true e =
    let k = and_parts (nat_le t.0.start c) (nat_le c t.0.end) e in
    inl (t, (inl refl, (leb-true t.0.start c k.0, leb-true c t.0.end k.1), rw e))
leads_step t ts other c (inl u) false e = inl (u.0, (inr u.1.0, u.1.1, rw e u.1.2))
leads_step t ts other c (inr none) false e = inr (out, rw e none.1)
  where
    out : (v : Range × ℕ) → Has (t ∷ ts) v → Covers v.0 c → ⊥
    out v (inl same) k =
        let here : Covers t.0 c = rw same k in
        let yes : (nat_le t.0.start c && nat_le c t.0.end) ≡ true = and_from (nat_le t.0.start c) (nat_le c t.0.end) (le-leb t.0.start c here.0) (le-leb c t.0.end here.1) in
        cc
    out v (inr later) k = none.0 v later k

leads_cases : (tests : List (Range × ℕ)) (other c : ℕ) → LeadsBy tests other c
leads_cases [] other c = inr ((λ t h k. absurd h), refl)
leads_cases (t ∷ ts) other c = leads_step t ts other c (leads_cases ts other c) (nat_le t.0.start c && nat_le c t.0.end) refl

-- the tests of runs are nonempty and ascend
tests_ascend : (tests : List (Range × ℕ)) → AreAscending (map (λ t. t.0) tests) → ((t : Range × ℕ) → Has tests t → t.0.start ≤ t.0.end) → AreAscendingTests tests
tests_ascend [] a f = tt
tests_ascend (t ∷ []) a f = f t (inl refl)
tests_ascend (t ∷ u ∷ ts) a f = (f t (inl refl), a.0, tests_ascend (u ∷ ts) a.1 (λ v h. f v (inr h)))

module _ (ts : List Tree) (ps : List ℕ) (ns : List Graph) (h : AreCompiled ts ns) (sets : List (List Item)) (origins : List (ℕ × ℕ))
    (num : IsBreadthFirst (subset_automaton ns) sets origins (length sets) 0) (d : List Row) (long : length d ≡ length sets)
    (rows : (k : ℕ) (r : Row) → slice_get d k ≡ Some r → IsRowOf ns ps sets k r) (small : (k : ℕ) → value_of origins k ≤ 4294967295) where
  abbrev set_of : ℕ → List Item
  set_of k = nth (subset_automaton ns) sets k

  abbrev set_after : List ℕ → List Item
  set_after w = after (subset_automaton ns) (first_set_of ns) w

  row_at : (k : ℕ) → k < length sets → (r : Row) × (slice_get d k ≡ Some r)
  row_at k l = elim (slice_get_cases d k).1 [
    | inl x ↦ (x.0, x.2)
    | inr past ↦ absurd (omega (arith, long, past.0))
  ]

  within : (k : ℕ) (r : Row) → slice_get d k ≡ Some r → k < length sets
  within k r e = omega (arith, long, slice_get_within d k r e)

  abbrev GoesTo : ℕ → ℕ → ℕ → Type 0
  GoesTo k c q = (q < length sets) × (set_of q ≡ move ns (set_of k) c)

  -- a value that no test covers leads where the other edge does
  otherwise_by : (k c : ℕ) (r : Row) → IsRowOf ns ps sets k r → ((t : Range × ℕ) → Has r.tests t → Covers t.0 c → ⊥) → GoesTo k c r.other
  otherwise_by k c r a none = (a.otherwise.0, a.otherwise.1 ∙ uncovered_same ns (set_of k) 4294967295 c (large_uncovered ts ns h (set_of k) 4294967295 (omega arith)) out)
    where
      out : IsCovered (IsLeaving ns (set_of k)) c → ⊥
      out = outside_blocks ns (set_of k) (map (λ t. t.0) r.tests) a.ranges c (λ x m n.
          let b : (t : Range × ℕ) × (Has r.tests t × (t.0 ≡ x)) = map_has (λ (t : Range × ℕ). t.0) r.tests x (has_from (map (λ t. t.0) r.tests) x m) in
          none b.0 b.1.0 (rw b.1.1 n))

  goes : (k c : ℕ) (r : Row) → IsRowOf ns ps sets k r → LeadsBy r.tests r.other c → GoesTo k c (edge_target r.tests r.other c)
  goes k c r a (inl t) = rw t.1.2 (a.leads t.0 c (contains_from r.tests t.0 t.1.0) t.1.1)
  goes k c r a (inr none) = rw none.1 (otherwise_by k c r a none.0)

  step_goes : (k c : ℕ) → k < length sets → GoesTo k c (step d k c)
  step_goes k c l = (let r = row_at k l in rw r.1 (goes k c r.0 (rows k r.0 r.1) (leads_cases r.0.tests r.0.other c)))

  run_goes : (w : List ℕ) (k : ℕ) → k < length sets → (run d k w < length sets) × (set_of (run d k w) ≡ after (subset_automaton ns) (set_of k) w)
  run_goes [] k l = (l, refl)
  run_goes (c ∷ w) k l =
      let g : GoesTo k c (step d k c) = step_goes k c l in
      let r = run_goes w (step d k c) g.0 in
      (r.0, r.1 ∙ ap (λ (s : List Item). after (subset_automaton ns) s w) g.1)

  -- the number after a word, and its row
  number_of : (w : List ℕ) → (state_after d w < length sets) × (set_of (state_after d w) ≡ set_after w)
  number_of w = (let r = run_goes w 0 num.some in (r.0, r.1 ∙ ap (λ (s : List Item). after (subset_automaton ns) s w) num.first))

  row_after : (w : List ℕ) → (r : Row) × ((slice_get d (state_after d w) ≡ Some r) × IsKindOf ps (set_after w) r.kind)
  row_after w =
      let n = number_of w in
      let r = row_at (state_after d w) n.0 in
      (r.0, (r.1, subst (λ (s : List Item). IsKindOf ps s r.0.kind) n.1 (rows (state_after d w) r.0 r.1).kind))

  kind_at : (k : ℕ) (r : Row) → slice_get d k ≡ Some r → IsKindOf ps (set_of k) r.kind
  kind_at k r e = (rows k r e).kind

  pub built_no_clash : NoClash ts ps
  built_no_clash w a = (let r = row_after w in kind_not_ambiguous ts ns h ps w r.0.kind r.1.1 a)

  reject_dead : (k : ℕ) (r : Row) → slice_get d k ≡ Some r → r.kind ≡ Reject → is_dead (set_of k) ≡ true
  reject_dead k r e t = reject_kind ps (set_of k) r.kind (kind_at k r e) t

  dead_reject : (k : ℕ) (r : Row) → slice_get d k ≡ Some r → is_dead (set_of k) ≡ true → r.kind ≡ Reject
  dead_reject k r e t = dead_kind ps (set_of k) r.kind (kind_at k r e) t

  stays_at : (p c : ℕ) (o : Option Row) → slice_get d p ≡ o → IsSomeAnd o (λ r. r.kind ≡ Reject) → IsReject d (step d p c)
  stays_at p c None e i = absurd i
  stays_at p c (Some r) e i =
      let g : GoesTo p c (step d p c) = step_goes p c (within p r e) in
      let n = row_at (step d p c) g.0 in
      let dead : is_dead (set_of (step d p c)) ≡ true = rw g.1 (dead_stays ts ns h (set_of p) c (reject_dead p r e i)) in
      is_some_and (slice_get d (step d p c)) (λ r. r.kind ≡ Reject) n.0 n.1 (dead_reject (step d p c) n.0 n.1 dead)

  pub built_stands_alone : RecognizesAll d ts ps
  built_stands_alone = record {
    kinds = λ w. (let r = row_after w in is_some_and (slice_get d (state_after d w)) (λ r. IsRightKind ts ps w r.kind) r.0 r.1.0 (kind_says ts ns h ps w r.0.kind r.1.1));
    stays = λ p c i. stays_at p c (slice_get d p) refl i;
  }

  not_empty : (k : ℕ) (r : Row) → slice_get d k ≡ Some r → (t : Range × ℕ) → Has r.tests t → t.0.start ≤ t.0.end
  not_empty k r e t m =
      ((rows k r e).ranges.are_blocks t.0 (contains_from (map (λ t. t.0) r.tests) t.0 (has_map (λ (t : Range × ℕ). t.0) r.tests t m))).uniform.holds_one

  pub built_table : IsWellFormed d
  built_table = record {
    some = omega (arith, long, num.some);
    ascending = λ p r e. tests_ascend r.tests (rows p r e).ranges.ascending (not_empty p r e);
    tests_in = λ p r t e m.
        let full : t.0.start ≤ t.0.end = not_empty p r e t (has_from r.tests t m) in
        let l : t.1 < length sets = ((rows p r e).leads t t.0.start m (omega arith, full)).0 in
        omega (arith, long);
    others_in = λ p r e. (let l : r.other < length sets = (rows p r e).otherwise.0 in omega (arith, long));
  }

  set_reached : (p : ℕ) → p < length sets → set_of p ≡ set_after (word origins p)
  set_reached p l = sym (word_reaches (subset_automaton ns) sets origins (length sets) 0 num p l)

  pub word_arrives : (p : ℕ) → p < length sets → state_after d (word origins p) ≡ p
  word_arrives p l = (let n = number_of (word origins p) in num.distinct (state_after d (word origins p)) p n.0 l (n.1 ∙ sym (set_reached p l)))

  set_ascends : (p : ℕ) → p < length sets → AreAscendingItems (set_of p)
  set_ascends p l = rw (set_reached p l) (after_ascends ns (word origins p))

  pub built_items : HoldsItems ns d
  built_items = record {
    reached = λ p l. (word origins p, (word_is_word origins small p, word_arrives p (omega (arith, long))));
    items = λ w r x e.
        let n = number_of w in
        let same : r.items ≡ set_after w = (rows (state_after d w) r e).items ∙ n.1 in
        subst (λ (s : List Item). Contains s x ↔ IsReached ns w x) (sym same) (reached_items ts ns h w x);
    labels = λ p r e. subst (λ (s : List Item). IsPartition (IsLeaving ns s) (map (λ t. t.0) r.tests)) (sym (rows p r e).items) (rows p r e).ranges;
    distinct = λ p q r s e f same.
        let pl : p < length sets = within p r e in
        let ql : q < length sets = within q s f in
        let a : r.items ≡ set_of p = (rows p r e).items in
        let b : s.items ≡ set_of q = (rows q s f).items in
        num.distinct p q pl ql (same_items (set_of p) (set_of q) (set_ascends p pl) (set_ascends q ql) (subst (λ (u : List Item). (x : Item) → Contains u x ↔ Contains (set_of q) x) a
        (subst (λ (u : List Item). (x : Item) → Contains r.items x ↔ Contains u x) b same)));
    rejects = λ p r e.
        let a : r.items ≡ set_of p = (rows p r e).items in (
          λ t x m. dead_states (set_of p) (reject_dead p r e t) x (has_from (set_of p) x (rw a at m)),
          λ f. dead_reject p r e (dead_from (set_of p) (λ x m. f x (rw a (contains_from (set_of p) x m)))),
        );
  }

  pub built_others : OthersReject d
  built_others p r s e f =
      let g = (rows p r e).otherwise in
      dead_reject r.other s f (rw g.1 (large_dead ts ns h (set_of p) 4294967295 (omega arith)))

  pub built_order : IsInWordOrder d
  built_order p q r s l e f a b = (
    word origins p,
    (
      word_is_word origins small p,
      word_arrives p (within p r e),
      λ w arrives.
          let n = number_of w in
          let there : after (subset_automaton ns) (first_set_of ns) w ≡ set_of q = sym n.1 ∙ ap (λ (k : ℕ). set_of k) arrives in
          in_order (subset_automaton ns) (dead_stays ts ns h) sets origins num p q l (within q s f) (λ dead. b (dead_reject q s f dead)) w there,
    ),
  )

-- the table of a finished numbering
pub built_stands : (ts : List Tree) (ps : List ℕ) (ns : List Graph) (sets : List (List Item)) (origins : List (ℕ × ℕ)) (d : List Row) → AreCompiled ts ns
    → IsBreadthFirst (subset_automaton ns) sets origins (length sets) 0 → length d ≡ length sets
    → ((k : ℕ) (r : Row) → slice_get d k ≡ Some r → IsRowOf ns ps sets k r) → ((k : ℕ) → value_of origins k ≤ 4294967295)
    → NoClash ts ps × RecognizesAll d ts ps × IsWellFormed d × HoldsItems ns d × OthersReject d × IsInWordOrder d
built_stands ts ps ns sets origins d h num long rows small = (
  built_no_clash ts ps ns h sets origins num d long rows small,
  built_stands_alone ts ps ns h sets origins num d long rows small,
  built_table ts ps ns h sets origins num d long rows small,
  built_items ts ps ns h sets origins num d long rows small,
  built_others ts ps ns h sets origins num d long rows small,
  built_order ts ps ns h sets origins num d long rows small,
)
