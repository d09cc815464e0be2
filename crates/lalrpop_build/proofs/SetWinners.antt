-- What a set of items says of the words that lead to it.
use Rattle.std.proofs.Common.{◌≡◌, ℕ, ◌↔◌, List, refl, ap, sym, subst, ◌∙◌, arith, true, false, Some}
use Rattle.std.specs.List.{Contains, slice_get}
use Rattle.lalrpop_hir.specs.Tree.{Tree}
use Rattle.lalrpop_nfa.specs.Graph.{Graph}
use Rattle.lalrpop_hir.specs.States.{accept_state, reject_state}
use Rattle.lalrpop_nfa.specs.Compiled.{IsCompiled}
use Rattle.lalrpop_hir.specs.Winners.{TreeMatches, IsStrongest, Ambiguous}
use Rattle.lalrpop_dfa.specs.Dfa.{IsRightKind}
use Rattle.lalrpop_nfa.specs.Automata.{AreCompiled}
use Rattle.lalrpop_dfa.specs.Ascending.{Item}
use Rattle.lalrpop_build.specs.Items.{IsReached}
use Rattle.lalrpop_build.specs.Internal.Subsets.{first_set_of, is_dead}
use Rattle.lalrpop_build.specs.Internal.BreadthFirst.{after}
use Rattle.lalrpop_build.specs.Internal.Built.{subset_automaton, IsStrongestIn, IsKindOf}
use Rattle.lalrpop_dfa.specs.declared.Kind.{Kind}
use Rattle.lalrpop_dfa.specs.declared.Kind.TheVariants.{Accepts, Reject, Neither}
use Rattle.lalrpop_hir.proofs.Members.{has_from}
use Rattle.lalrpop_build.proofs.Targets.{compiled_at, compiled_of}
use Rattle.lalrpop_build.proofs.ReachedItems.{reached_items}
use Rattle.lalrpop_build.proofs.Moved.{dead_states}

-- a dead set accepts nothing
pub dead_accepts_none : (s : List Item) → is_dead s ≡ true → (i : ℕ) → Contains s (i, accept_state) → ⊥
dead_accepts_none s d i h = let e : accept_state ≡ reject_state = dead_states s d (i, accept_state) (has_from s (i, accept_state) h) in omega arith

-- a set has only one kind
pub kinds_same : (ps : List ℕ) (s : List Item) (k l : Kind) → IsKindOf ps s k → IsKindOf ps s l → k ≡ l
kinds_same ps s (Accepts i) (Accepts j) a b = ap (λ (n : ℕ). Accepts n) (b.1 i a.0)
kinds_same ps s (Accepts i) Reject a b = absurd (dead_accepts_none s b i a.0.0)
kinds_same ps s (Accepts i) Neither a b = absurd (b.1 i a.0.0)
kinds_same ps s Reject (Accepts i) a b = absurd (dead_accepts_none s a i b.0.0)
kinds_same ps s Reject Reject a b = refl
kinds_same ps s Reject Neither a b = let e : is_dead s ≡ false = b.0 in cc
kinds_same ps s Neither (Accepts i) a b = absurd (a.1 i b.0.0)
kinds_same ps s Neither Reject a b = let e : is_dead s ≡ false = a.0 in cc
kinds_same ps s Neither Neither a b = refl

-- a set is of kind Reject exactly if it is dead
pub dead_kind : (ps : List ℕ) (s : List Item) (k : Kind) → IsKindOf ps s k → is_dead s ≡ true → k ≡ Reject
dead_kind ps s k a d = kinds_same ps s k Reject a d

pub reject_kind : (ps : List ℕ) (s : List Item) (k : Kind) → IsKindOf ps s k → k ≡ Reject → is_dead s ≡ true
reject_kind ps s k a e = subst (λ (l : Kind). IsKindOf ps s l) e a

-- a set with a kind has no two strongest trees
pub kind_not_tied : (ps : List ℕ) (s : List Item) (k : Kind) → IsKindOf ps s k → (i j : ℕ) → IsStrongestIn ps s i → IsStrongestIn ps s j → i ≡ j
kind_not_tied ps s (Accepts n) a i j b c = a.1 i b ∙ sym (a.1 j c)
kind_not_tied ps s Reject a i j b c = absurd (dead_accepts_none s a i b.0)
kind_not_tied ps s Neither a i j b c = absurd (a.1 i b.0)

module _ (ts : List Tree) (ns : List Graph) (h : AreCompiled ts ns) where
  -- the set after a word accepts the trees that match the word
  pub accepts_iff : (w : List ℕ) (i : ℕ) → Contains (after (subset_automaton ns) (first_set_of ns) w) (i, accept_state) ↔ TreeMatches ts w i
  accepts_iff w i = (
    λ k.
        let r : IsReached ns w (i, accept_state) = (reached_items ts ns h w (i, accept_state)).0 k in
        let c : (t : Tree) × ((slice_get ts i ≡ Some t) × IsCompiled t r.0) = compiled_at ts ns h i r.0 r.1.0 in
        (c.0, (c.1.0, (c.1.1.reads w).0 r.1.1)),
    λ who.
        let c : (g : Graph) × ((slice_get ns i ≡ Some g) × IsCompiled who.0 g) = compiled_of ts ns h i who.0 who.1.0 in
        (reached_items ts ns h w (i, accept_state)).1 (c.0, (c.1.0, (c.1.1.reads w).1 who.1.1)),
  )

  pub strongest_iff : (ps w : List ℕ) (i : ℕ) → IsStrongestIn ps (after (subset_automaton ns) (first_set_of ns) w) i ↔ IsStrongest ts ps w i
  strongest_iff ps w i = (
    λ s. ((accepts_iff w i).0 s.0, λ j k. s.1 j ((accepts_iff w j).1 k)),
    λ t. ((accepts_iff w i).1 t.0, λ j k. t.1 j ((accepts_iff w j).0 k)),
  )

  -- the kind of the set says what matches the word
  pub kind_says : (ps w : List ℕ) (k : Kind) → IsKindOf ps (after (subset_automaton ns) (first_set_of ns) w) k → IsRightKind ts ps w k
  kind_says ps w (Accepts i) a = ((strongest_iff ps w i).0 a.0, λ j t. a.1 j ((strongest_iff ps w j).1 t))
  kind_says ps w Reject a = λ m. dead_accepts_none (after (subset_automaton ns) (first_set_of ns) w) a m.0 ((accepts_iff w m.0).1 m.1)
  kind_says ps w Neither a = λ m. a.1 m.0 ((accepts_iff w m.0).1 m.1)

  -- a word that leads to a set with a kind is not ambiguous
  pub kind_not_ambiguous : (ps w : List ℕ) (k : Kind) → IsKindOf ps (after (subset_automaton ns) (first_set_of ns) w) k → Ambiguous ts ps w → ⊥
  kind_not_ambiguous ps w k a m =
      let e : m.0 ≡ m.1 = kind_not_tied ps (after (subset_automaton ns) (first_set_of ns) w) k a m.0 m.1 ((strongest_iff ps w m.0).1 m.2.1) ((strongest_iff ps w m.1).1 m.2.2) in
      omega (arith, m.2.0)
