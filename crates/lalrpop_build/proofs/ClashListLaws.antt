-- Laws of the list of all clashes: it is unique, its first entry is the clash, and it is empty exactly if no word is ambiguous.
use Rattle.std.proofs.Common.{◌≡◌, ℕ, zero, suc, ◌<◌, ◌≤◌, ◌⊎◌, inl, inr, ⊎_elim, List, [], ◌∷◌, refl, subst, arith}
use Rattle.std.specs.Prelude.{Some, slice_get, ◌↔◌}
use Rattle.std.proofs.lemmas.Bool.{cases_lt}
use Rattle.lalrpop_hir.specs.Word.{Shortlex}
use Rattle.lalrpop_hir.specs.Tree.{Tree}
use Rattle.lalrpop_hir.specs.Winners.{IsStrongest}
use Rattle.lalrpop_hir.specs.Clash.{IsClash, NoClash}
use Rattle.lalrpop_hir.specs.Clashes.{Entry, AreTied, AreClashes, AreInOrder}
use Rattle.lalrpop_hir.proofs.Members.{has_from, contains_from, has_at, at_has}
use Rattle.lalrpop_build.proofs.ClashLists.{IsOrdered, IsFirstTieOf, AreClashesOf, head_is_clash, empty-from_none, none-from_empty, clashes-unique as unique}

-- ---- with membership by recursion
module _ (ts : List Tree) (ps : List ℕ) where
  -- the first of them is the clash
  first_is : (c : Entry) (cs : List Entry) → AreClashesOf (AreTied ts ps) (c ∷ cs) → IsClash ts ps c.word c.match0 c.match1
  first_is c cs h =
      let mine = h.each c (inl refl) in
      let head = head_is_clash (AreTied ts ps) c cs h in
      record {
        word = mine.word;
        least = λ v less (i, j, t). head.0 v less i j t;
        greatest = mine.tie.1;
        second = mine.tie.2;
        less = mine.tie.0;
        others = λ k top less. elim (head.1 c.match0 k (less, mine.tie.1, top)) [ inl a ↦ absurd (omega arith) | inr a ↦ a.1 ];
        above = λ k top. below c k mine head top;
      }
    where
      below : (c : Entry) (k : ℕ) (mine : IsFirstTieOf (AreTied ts ps) c)
          → ((v : List ℕ) → Shortlex v c.word → (i j : ℕ) → ¬ AreTied ts ps v i j) × ((i j : ℕ) → AreTied ts ps c.word i j → (i < c.match0) ⊎ ((i ≡ c.match0) × (j ≤ c.match1)))
          → IsStrongest ts ps c.word k → k ≤ c.match0
      below c k mine head top = ⊎_elim
          (λ (a : c.match0 < k). elim (head.1 k c.match0 (a, top, mine.tie.1)) [ inl b ↦ omega arith | inr b ↦ omega (arith, b.0) ])
          (λ (a : k ≤ c.match0). a)
          (cases_lt c.match0 k)

  -- none exactly if no word is ambiguous
  none_of : (cs : List Entry) → AreClashesOf (AreTied ts ps) cs → NoClash ts ps → cs ≡ []
  none_of cs h none = empty-from_none (AreTied ts ps) cs h (λ w i j t. none w (i, j, t))

  of_none : AreClashesOf (AreTied ts ps) [] → NoClash ts ps
  of_none h w (i, j, t) = none-from_empty (AreTied ts ps) h w i j t

-- ---- the list, by places
pub order_from : (cs : List Entry) → AreInOrder cs → IsOrdered cs
order_from [] f = tt
order_from (c ∷ cs) f = (
  λ d h. (let (k, e) = at_has cs d h in f 0 (suc k) c d (omega arith) refl e),
  order_from cs (λ p q x y l a b. f (suc p) (suc q) x y (omega arith) a b),
)

order_to : (cs : List Entry) → IsOrdered cs → AreInOrder cs
order_to [] o p q c d l a b = absurd (cc)
order_to (x ∷ cs) o zero zero c d l a b = absurd (omega arith)
order_to (x ∷ cs) o zero (suc q) c d l a b = let f : Some x ≡ Some c = a in let e : x ≡ c = cc in rw (← e) (o.0 d (has_at cs q d b))
order_to (x ∷ cs) o (suc p) zero c d l a b = absurd (omega arith)
order_to (x ∷ cs) o (suc p) (suc q) c d l a b = order_to cs o.1 p q c d (omega arith) a b

module _ (ts : List Tree) (ps : List ℕ) where
  clashes_by : (cs : List Entry) → AreClashes ts ps cs → AreClashesOf (AreTied ts ps) cs
  clashes_by cs h = record {
    each = λ c m. (let f = h.each c (contains_from cs c m) in record { word = f.word; tie = f.tie; least = f.least });
    all = λ w i j t. (let (c, (m, f, s)) = h.all w i j t in (c, (has_from cs c m, f, s)));
    in_order = order_from cs h.in_order;
  }

  pub clashes_from : (cs : List Entry) → AreClashesOf (AreTied ts ps) cs → AreClashes ts ps cs
  clashes_from cs h = record {
    each = λ c m. (let f = h.each c (has_from cs c m) in record { word = f.word; tie = f.tie; least = f.least });
    all = λ w i j t. (let (c, (m, f, s)) = h.all w i j t in (c, (contains_from cs c m, f, s)));
    in_order = order_to cs h.in_order;
  }

  -- the list is unique
  pub clashes-unique : (cs ds : List Entry) → AreClashes ts ps cs → AreClashes ts ps ds → cs ≡ ds
  clashes-unique cs ds h k = unique (AreTied ts ps) cs ds (clashes_by cs h) (clashes_by ds k)

  -- its first entry is the clash
  pub first_is_clash : (c : Entry) (cs : List Entry) → AreClashes ts ps (c ∷ cs) → IsClash ts ps c.word c.match0 c.match1
  first_is_clash c cs h = first_is ts ps c cs (clashes_by (c ∷ cs) h)

  -- it is empty exactly if no word is ambiguous
  pub empty-no_clash : (cs : List Entry) → AreClashes ts ps cs → NoClash ts ps → cs ≡ []
  empty-no_clash cs h none = none_of ts ps cs (clashes_by cs h) none

  pub no_clash-empty : AreClashes ts ps [] → NoClash ts ps
  no_clash-empty h = of_none ts ps (clashes_by [] h)

  pub empty_is_no_clash : (cs : List Entry) → AreClashes ts ps cs → (cs ≡ []) ↔ NoClash ts ps
  empty_is_no_clash cs h = (λ e. no_clash-empty (subst (AreClashes ts ps) e h), λ none. empty-no_clash cs h none)

  pub first_entry_is_clash : (cs : List Entry) → AreClashes ts ps cs → (c : Entry) → slice_get cs 0 ≡ Some c → IsClash ts ps c.word c.match0 c.match1
  first_entry_is_clash [] h c e = absurd (cc)
  first_entry_is_clash (d ∷ cs) h c e =
      let same : d ≡ c = cc in
      subst (λ (x : Entry). IsClash ts ps x.word x.match0 x.match1) same (first_is_clash d cs h)
