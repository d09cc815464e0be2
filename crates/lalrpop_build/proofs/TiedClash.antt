-- The first set in which two trees tie: its word is the least ambiguous one.
use Rattle.std.proofs.Common.{◌≡◌, ℕ, ◌<◌, ◌≤◌, inl, inr, List, length, map, filter, refl, sym, subst, arith, Bool, true, ◌&&◌, ◌==◌, nat_le, nat_lt, ltb-true, lt-ltb, leb-true, le-leb, eqb-true, Some, slice_index}
use Rattle.std.specs.List.{Contains, slice_get, list_any, list_all}
use Rattle.std.proofs.lemmas.Bool.{and_parts, and_from}
use Rattle.std.proofs.lemmas.Option.{slice_get_cases}
use Rattle.lalrpop_hir.specs.Tree.{Tree}
use Rattle.lalrpop_nfa.specs.Graph.{Graph}
use Rattle.lalrpop_hir.specs.States.{accept_state}
use Rattle.lalrpop_hir.specs.Winners.{IsStrongest}
use Rattle.lalrpop_hir.specs.Clash.{IsClash}
use Rattle.lalrpop_dfa.specs.Dfa.{Row}
use Rattle.lalrpop_nfa.specs.Automata.{AreCompiled}
use Rattle.lalrpop_dfa.specs.Ascending.{Item}
use Rattle.lalrpop_build.specs.Internal.Subsets.{first_set_of, is_dead}
use Rattle.lalrpop_build.specs.Internal.BreadthFirst.{IsBreadthFirst, IsLeast, nth, after, word, value_of}
use Rattle.lalrpop_build.specs.Internal.Built.{subset_automaton, IsStrongestIn, IsKindOf, IsTied, IsRowOf}
use Rattle.lalrpop_dfa.specs.declared.Kind.{Kind}
use Rattle.lalrpop_hir.proofs.Members.{Has, has_from, contains_from, has_map, map_has, has_filter, filter_has, all_has, all_from_has, any_from_has, has_from_any}
use Rattle.lalrpop_build.proofs.Origins.{word_is_word}
use Rattle.lalrpop_build.proofs.BreadthFirst.{word_reaches, first_is_least}
use Rattle.lalrpop_build.proofs.Dead.{dead_stays}
use Rattle.lalrpop_build.proofs.SetWinners.{dead_accepts_none, kind_not_tied, strongest_iff}

-- a test for two strongest trees in a set
module _ (ps : List ℕ) (s : List Item) where
  abbrev accepted : List ℕ
  accepted = map (λ (x : Item). x.0) (filter (λ (x : Item). x.1 == accept_state) s)

  abbrev is_strongest : ℕ → Bool
  is_strongest i = list_all (λ j. nat_le (slice_index ps j) (slice_index ps i)) accepted

  abbrev ties_with : ℕ → ℕ → Bool
  ties_with i j = nat_lt j i && is_strongest j

  abbrev ties : ℕ → Bool
  ties i = is_strongest i && list_any (ties_with i) accepted

  abbrev is_tied : Bool
  is_tied = list_any ties accepted

  accepted_has : (i : ℕ) → Contains s (i, accept_state) → Has accepted i
  accepted_has i h =
      has_map (λ (x : Item). x.0) (filter (λ (x : Item). x.1 == accept_state) s) (i, accept_state)
      (has_filter (λ (x : Item). x.1 == accept_state) s (i, accept_state) (has_from s (i, accept_state) h) refl)

  has_accepted : (i : ℕ) → Has accepted i → Contains s (i, accept_state)
  has_accepted i h =
      let m : (x : Item) × (Has (filter (λ (x : Item). x.1 == accept_state) s) x × (x.0 ≡ i)) = map_has (λ (x : Item). x.0) (filter (λ (x : Item). x.1 == accept_state) s) i h in
      let x : Item = m.0 in
      let f : Has s x × ((x.1 == accept_state) ≡ true) = filter_has (λ (x : Item). x.1 == accept_state) s x m.1.0 in
      let state : x.1 ≡ accept_state = eqb-true x.1 accept_state f.1 in
      contains_from s (i, accept_state) (subst (λ (k : ℕ). Has s (i, k)) state (subst (λ (k : ℕ). Has s (k, x.1)) m.1.1 f.0))

  strongest_true : (i : ℕ) → IsStrongestIn ps s i → is_strongest i ≡ true
  strongest_true i h = all_from_has (λ j. nat_le (slice_index ps j) (slice_index ps i)) accepted (λ j k. le-leb (slice_index ps j) (slice_index ps i) (h.1 j (has_accepted j k)))

  true_strongest : (i : ℕ) → Has accepted i → is_strongest i ≡ true → IsStrongestIn ps s i
  true_strongest i m t = (has_accepted i m, λ j k. leb-true (slice_index ps j) (slice_index ps i) (all_has (λ j. nat_le (slice_index ps j) (slice_index ps i)) accepted t j (accepted_has j k)))

  pub tied_true : (i j : ℕ) → j < i → IsStrongestIn ps s i → IsStrongestIn ps s j → is_tied ≡ true
  tied_true i j l a b =
      any_from_has ties accepted i (accepted_has i a.0)
      (and_from (is_strongest i) (list_any (ties_with i) accepted) (strongest_true i a)
      (any_from_has (ties_with i) accepted j (accepted_has j b.0) (and_from (nat_lt j i) (is_strongest j) (lt-ltb j i l) (strongest_true j b))))

  pub true_tied : is_tied ≡ true → (i j : ℕ) × ((j < i) × IsStrongestIn ps s i × IsStrongestIn ps s j)
  true_tied t =
      let a = has_from_any ties accepted t in
      let b = and_parts (is_strongest a.0) (list_any (ties_with a.0) accepted) a.1.1 in
      let e = has_from_any (ties_with a.0) accepted b.1 in
      let f = and_parts (nat_lt e.0 a.0) (is_strongest e.0) e.1.1 in
      (a.0, e.0, (ltb-true e.0 a.0 f.0, true_strongest a.0 a.1.0 b.0, true_strongest e.0 e.1.0 f.1))

  pub dead_not_tied : is_dead s ≡ true → is_tied ≡ true → ⊥
  dead_not_tied d t = (let a = true_tied t in dead_accepts_none s d a.0 a.2.1.0)

  pub kind_not_tied_true : (k : Kind) → IsKindOf ps s k → is_tied ≡ true → ⊥
  kind_not_tied_true k a t = (let b = true_tied t in let e : b.0 ≡ b.1 = kind_not_tied ps s k a b.0 b.1 b.2.1 b.2.2 in omega (arith, b.2.0))

-- the first number whose set is tied has the least ambiguous word
pub tied_is_clash : (ts : List Tree) (ps : List ℕ) (ns : List Graph) (sets : List (List Item)) (origins : List (ℕ × ℕ)) (n i j : ℕ) → AreCompiled ts ns
    → IsBreadthFirst (subset_automaton ns) sets origins n 0 → n < length sets
    → ((k : ℕ) → k < n → (kind : Kind) × IsKindOf ps (nth (subset_automaton ns) sets k) kind)
    → IsTied ps (nth (subset_automaton ns) sets n) i j
    → ((k : ℕ) → value_of origins k ≤ 4294967295)
    → IsClash ts ps (word origins n) i j
tied_is_clash ts ps ns sets origins n i j h num l kinds tied small = record {
  word = word_is_word origins small n;
  least = λ v less a. first.least v less (tied_true ps (set_after v) a.0 a.1 a.2.0 ((strongest_iff ts ns h ps v a.0).1 a.2.1) ((strongest_iff ts ns h ps v a.1).1 a.2.2));
  greatest = top i tied.greatest;
  second = top j tied.second;
  less = tied.less;
  others = λ k t m. tied.others k (strong k t) m;
  above = λ k t. tied.above k (strong k t);
}
  where
    set_after : List ℕ → List Item
    set_after w = after (subset_automaton ns) (first_set_of ns) w

    here : set_after (word origins n) ≡ nth (subset_automaton ns) sets n
    here = word_reaches (subset_automaton ns) sets origins n 0 num n l

    top : (k : ℕ) → IsStrongestIn ps (nth (subset_automaton ns) sets n) k → IsStrongest ts ps (word origins n) k
    top k s = (strongest_iff ts ns h ps (word origins n) k).0 (subst (λ (u : List Item). IsStrongestIn ps u k) (sym here) s)

    strong : (k : ℕ) → IsStrongest ts ps (word origins n) k → IsStrongestIn ps (nth (subset_automaton ns) sets n) k
    strong k t = subst (λ (u : List Item). IsStrongestIn ps u k) here ((strongest_iff ts ns h ps (word origins n) k).1 t)

    first : IsLeast (subset_automaton ns) (is_tied ps) (word origins n)
    first = first_is_least (subset_automaton ns) (dead_stays ts ns h) sets origins n num l (is_tied ps) (λ s d t. dead_not_tied ps s d t)
        (tied_true ps (nth (subset_automaton ns) sets n) i j tied.less tied.greatest tied.second)
        (λ k m t. let a = kinds k m in kind_not_tied_true ps (nth (subset_automaton ns) sets k) a.0 a.1 t)

-- the same, if each number below has its row
pub tied_is_clash_after_rows : (ts : List Tree) (ps : List ℕ) (ns : List Graph) (sets : List (List Item)) (origins : List (ℕ × ℕ)) (d : List Row) (n i j : ℕ) → AreCompiled ts ns
    → IsBreadthFirst (subset_automaton ns) sets origins n 0 → n < length sets → length d ≡ n
    → ((k : ℕ) (r : Row) → slice_get d k ≡ Some r → IsRowOf ns ps sets k r)
    → IsTied ps (nth (subset_automaton ns) sets n) i j
    → ((k : ℕ) → value_of origins k ≤ 4294967295)
    → IsClash ts ps (word origins n) i j
tied_is_clash_after_rows ts ps ns sets origins d n i j h num l long rows tied small = tied_is_clash ts ps ns sets origins n i j h num l kinds tied small
  where
    kinds : (k : ℕ) → k < n → (kind : Kind) × IsKindOf ps (nth (subset_automaton ns) sets k) kind
    kinds k m = elim (slice_get_cases d k).1 [
      | inl x ↦ (x.0.kind, (rows k x.0 x.2).kind)
      | inr past ↦ absurd (omega (arith, long, past.0))
    ]
