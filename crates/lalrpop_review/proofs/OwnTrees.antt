-- The tree of a rule that is alone in its kind in a mode: there it is the rule's own.
use Rattle.std.proofs.Common.{◌≡◌, ℕ, zero, suc, ◌==◌, ◌||◌, inl, inr, Bool, true, false, List, [], ◌∷◌, ◌++◌, if◌then◌else◌, refl, ap, sym, ◌∙◌, arith, eq-eqb}
use Rattle.std.specs.Prelude.{Option, Some, None, slice_get, Contains}
use Rattle.std.specs.List.{list_any}
use Rattle.std.specs.Option.{option_map}
use Rattle.std.proofs.lemmas.Bool.{false≢true}
use Rattle.std.proofs.lemmas.Bool.Decides.{Decides-eqb}
use Rattle.std.proofs.lemmas.List.Folds.{list_any-append}
use Rattle.std.proofs.lemmas.Option.{same_Some, slice_get-map}
use Rattle.lalrpop_hir.specs.Tree.{Tree}
use Rattle.lalrpop_hir.proofs.Contained.{contains_cases, contains_later, contains_none}
use Rattle.lalrpop_rules.specs.Kinds.{is_kind, trees_of_kind, one_tree, gathered, merged_behind}
use Rattle.lalrpop_rules.specs.Modes.{ModeRules, kinds_of, mode_rules, trees_in}
use Rattle.bajofeki_rules.specs.EnteredModes.{Belongs}
use Rattle.lalrpop_review.specs.Internal.Kinds.{IsMember}

-- ---- among trees that are merged by kinds

-- a rule of this kind
abbrev HasKind : List (Option ℕ) → ℕ → ℕ → Type 0
HasKind os i k = slice_get os i ≡ Some (Some k)

kind_is : (k : ℕ) (o : Option ℕ) → is_kind k o ≡ true → o ≡ Some k
kind_is k None is = absurd (false≢true is)
kind_is k (Some n) is = ap Some ((Decides-eqb n k).0 is)

is_of_kind : (k : ℕ) (o : Option ℕ) → o ≡ Some k → is_kind k o ≡ true
is_of_kind k o e = ap (is_kind k) e ∙ eq-eqb k k refl

-- a kind without rules has no trees
no_trees : (k : ℕ) (os : List (Option ℕ)) (ts : List Tree) → ((j : ℕ) → ¬ HasKind os j k) → trees_of_kind k os ts ≡ []
no_trees k [] ts none = refl
no_trees k (o ∷ os) [] none = refl
no_trees k (o ∷ os) (t ∷ ts) none = by (is_kind k o) refl (no_trees k os ts (λ j has. none (suc j) has))
  where
    by : (b : Bool) → is_kind k o ≡ b → trees_of_kind k os ts ≡ [] → (if b then t ∷ trees_of_kind k os ts else trees_of_kind k os ts) ≡ []
    by true is rest = absurd (none 0 (ap Some (kind_is k o is)))
    by false is rest = rest

-- a kind that no earlier rule has, and the next hasn't, no earlier rule has then
none_earlier : (before : List (Option ℕ)) (o : Option ℕ) (k : ℕ) → list_any (λ p. is_kind k p) before ≡ false → is_kind k o ≡ false
    → list_any (λ p. is_kind k p) (before ++ o ∷ []) ≡ false
none_earlier before o k none other = list_any-append (λ p. is_kind k p) before (o ∷ []) ∙ ap (λ b. b || (is_kind k o || false)) none ∙ ap (λ b. b || false) other

-- the only rule of its kind keeps its tree
lone_behind : (before os : List (Option ℕ)) (ts : List Tree) (i k : ℕ) (t : Tree) → list_any (λ p. is_kind k p) before ≡ false → HasKind os i k → ((j : ℕ) → HasKind os j k → j ≡ i)
    → slice_get ts i ≡ Some t → slice_get (merged_behind before os ts) i ≡ Some t
lone_behind before [] ts i k t none has one at = absurd (cc)
lone_behind before (o ∷ os) [] i k t none has one at = absurd (cc)
lone_behind before (o ∷ os) (u ∷ ts) zero k t none has one at = ap (λ us. Some (one_tree us)) alone ∙ at
  where
    is : o ≡ Some k
    is = same_Some _ _ has

    rest : trees_of_kind k os ts ≡ []
    rest = no_trees k os ts (λ j there. let e : suc j ≡ 0 = one (suc j) there in absurd (omega (arith, e)))

    alone : gathered before o (o ∷ os) (u ∷ ts) ≡ u ∷ []
    alone =
        ap (λ p. gathered before p (o ∷ os) (u ∷ ts)) is ∙ ap (λ b. if b then [] else trees_of_kind k (o ∷ os) (u ∷ ts)) none
        ∙ ap (λ b. if b then u ∷ trees_of_kind k os ts else trees_of_kind k os ts) (is_of_kind k o is) ∙ ap (λ us. u ∷ us) rest
lone_behind before (o ∷ os) (u ∷ ts) (suc i) k t none has one at =
    lone_behind (before ++ o ∷ []) os ts i k t (none_earlier before o k none (by (is_kind k o) refl)) has (λ j there. let e : suc j ≡ suc i = one (suc j) there in omega (arith, e)) at
  where
    by : (b : Bool) → is_kind k o ≡ b → is_kind k o ≡ false
    by true is = let e : 0 ≡ suc i = one 0 (ap Some (kind_is k o is)) in absurd (omega (arith, e))
    by false is = is

-- ---- in a mode

-- the rules at work are those that belong to the mode
working : (b : Bool) (n k : ℕ) → (if b then Some n else None) ≡ Some k → (b ≡ true) × (n ≡ k)
working true n k e = (refl, same_Some _ _ e)
working false n k e = absurd (cc)

kind_here : (bs : List Bool) (ks : List ℕ) (i k : ℕ) → slice_get bs i ≡ Some true → slice_get ks i ≡ Some k → HasKind (kinds_of bs ks) i k
kind_here [] ks i k on at = absurd (cc)
kind_here (b ∷ bs) [] i k on at = absurd (cc)
kind_here (b ∷ bs) (n ∷ ks) zero k on at = ap (λ c. Some (if c then Some n else None)) (same_Some _ _ on) ∙ ap (λ m. Some (Some m)) (same_Some _ _ at)
kind_here (b ∷ bs) (n ∷ ks) (suc i) k on at = kind_here bs ks i k on at

from_kind : (bs : List Bool) (ks : List ℕ) (i k : ℕ) → HasKind (kinds_of bs ks) i k → (slice_get bs i ≡ Some true) × (slice_get ks i ≡ Some k)
from_kind [] ks i k has = absurd (cc)
from_kind (b ∷ bs) [] i k has = absurd (cc)
from_kind (b ∷ bs) (n ∷ ks) zero k has = let both = working b n k (same_Some _ _ has) in (ap Some both.0, ap Some both.1)
from_kind (b ∷ bs) (n ∷ ks) (suc i) k has = from_kind bs ks i k has

-- a list has the number exactly if the test for it finds it
pub among : (own : List ℕ) (m : ℕ) → list_any (λ n. n == m) own ≡ true → Contains own m
among [] m is = absurd (false≢true is)
among (n ∷ own) m is = by (n == m) refl is (among own m)
  where
    by : (b : Bool) → (n == m) ≡ b → b || list_any (λ x. x == m) own ≡ true → (list_any (λ x. x == m) own ≡ true → Contains own m) → Contains (n ∷ own) m
    by true same is later = (0, omega arith, (Decides-eqb n m).0 same)
    by false same is later = contains_later n own m (later is)

pub found : (own : List ℕ) (m : ℕ) → Contains own m → list_any (λ n. n == m) own ≡ true
found [] m has = absurd (contains_none m has)
found (n ∷ own) m has = elim (contains_cases n own m has) [
  | inl e ↦ ap (λ b. b || list_any (λ x. x == m) own) (eq-eqb n m e)
  | inr later ↦ by (n == m) (found own m later)
]
  where
    by : (b : Bool) → list_any (λ x. x == m) own ≡ true → b || list_any (λ x. x == m) own ≡ true
    by true is = refl
    by false is = is

module _ (r : ModeRules) (m : ℕ) where
  works : (i : ℕ) → Belongs r.members m i → slice_get (mode_rules r m) i ≡ Some true
  works i (own, (at, has)) =
      slice_get-map (λ modes. list_any (λ n. n == m) modes) r.members i ∙ ap (option_map (λ modes. list_any (λ n. n == m) modes)) at ∙ ap Some (found own m has)

  at_work : (i : ℕ) → slice_get (mode_rules r m) i ≡ Some true → Belongs r.members m i
  at_work i on = by (slice_get r.members i) refl (sym (slice_get-map (λ modes. list_any (λ n. n == m) modes) r.members i) ∙ on)
    where
      by : (o : Option (List ℕ)) → slice_get r.members i ≡ o → option_map (λ modes. list_any (λ n. n == m) modes) o ≡ Some true → Belongs r.members m i
      by None at is = absurd (cc)
      by (Some own) at is = (own, (at, among own m (same_Some _ _ is)))

  -- the only rule of its kind that belongs to the mode has its own tree there
  pub own_tree : (i k : ℕ) (t : Tree) → IsMember r m k i → ((j : ℕ) → IsMember r m k j → j ≡ i) → slice_get r.trees i ≡ Some t → slice_get (trees_in r m) i ≡ Some t
  own_tree i k t (belongs, at) one there =
      lone_behind [] (kinds_of (mode_rules r m) r.kinds) r.trees i k t refl (kind_here (mode_rules r m) r.kinds i k (works i belongs) at)
      (λ j has. let both = from_kind (mode_rules r m) r.kinds j k has in one j (at_work j both.0, both.1)) there
