-- Trees that are merged by the kinds of their rules.
use Rattle.std.proofs.Common.{◌≡◌, ℕ, zero, suc, ◌<◌, ◌≤◌, ◌+◌, ◌||◌, inl, inr, eq-or-lt_of_le, append-nil, length-take, Bool, true, false, List, [], ◌∷◌, ◌++◌, length, take, drop, get_or, if◌then◌else◌, refl, ap, sym, subst, ◌∙◌, arith, append_assoc, eq-eqb}
use Rattle.std.specs.Prelude.{Option, Some, None, slice_get}
use Rattle.std.specs.List.{list_any}
use Rattle.std.proofs.lemmas.List.{take_more, drop_more}
use Rattle.std.proofs.lemmas.Option.{get_or_from_slice_get, slice_get_read, same_Some}
use Rattle.lalrpop_hir.specs.Tree.{Tree, alternation}
use Rattle.lalrpop_hir.specs.Fault.{fault, first_fault}
use Rattle.lalrpop_hir.specs.Language.{Matches, SomeMatches}
use Rattle.lalrpop_hir.specs.Winners.{TreeMatches}
use Rattle.std.proofs.lemmas.Bool.{false≢true}
use Rattle.std.proofs.lemmas.List.Folds.{list_any-append}
use Rattle.std.proofs.lemmas.Bool.Decides.{Decides-eqb}
use Rattle.lalrpop_hir.specs.Report.{NoFault, FirstFault}
use Rattle.lalrpop_hir.specs.declared.error.NfaConstructionError.{NfaConstructionError}
use Rattle.lalrpop_hir.specs.Parts.{trees}
use Rattle.lalrpop_rules.specs.Kinds.{IsFirstSame, is_kind, trees_of_kind, one_tree, gathered, merged_behind, merged}

-- ---- one after another

one_if : Bool → Tree → List Tree
one_if b t = if b then t ∷ [] else []

-- one rule more
kind_end : (k : ℕ) (os : List (Option ℕ)) (ts : List Tree) (o : Option ℕ) (t : Tree) → length os ≡ length ts
    → trees_of_kind k (os ++ o ∷ []) (ts ++ t ∷ []) ≡ trees_of_kind k os ts ++ one_if (is_kind k o) t
unfolding one_if
kind_end k [] [] o t same = by (is_kind k o)
  where
    by : (b : Bool) → (if b then t ∷ [] else []) ≡ (if b then t ∷ [] else [])
    by b = refl
kind_end k [] (u ∷ ts) o t same = absurd (cc)
kind_end k (p ∷ os) [] o t same = absurd (cc)
kind_end k (p ∷ os) (u ∷ ts) o t same = by (is_kind k p) _ _ _ (kind_end k os ts o t (cc same))
  where
    by : (b : Bool) (new old end : List Tree) → new ≡ old ++ end → (if b then u ∷ new else new) ≡ (if b then u ∷ old else old) ++ end
    by true new old end e = ap (λ (x : List Tree). u ∷ x) e
    by false new old end e = e

-- one more, as a loop goes over them
kind_more : (k : ℕ) (os : List (Option ℕ)) (ts : List Tree) (i : ℕ) (d : Option ℕ) (e : Tree) → i < length os → i < length ts
    → trees_of_kind k (take (i + 1) os) (take (i + 1) ts) ≡ trees_of_kind k (take i os) (take i ts) ++ one_if (is_kind k (get_or os i d)) (get_or ts i e)
kind_more k os ts i d e in_os in_ts =
    rw (take_more os i d in_os, take_more ts i e in_ts)
    (kind_end k (take i os) (take i ts) (get_or os i d) (get_or ts i e) (omega (arith, length-take i os, length-take i ts, in_os, in_ts)))

pub kind_taken : (k : ℕ) (os : List (Option ℕ)) (ts old new : List Tree) (i : ℕ) (d : Option ℕ) (e t : Tree) → i < length os → i < length ts
    → old ≡ trees_of_kind k (take i os) (take i ts) → is_kind k (get_or os i d) ≡ true → t ≡ get_or ts i e → new ≡ old ++ t ∷ []
    → new ≡ trees_of_kind k (take (i + 1) os) (take (i + 1) ts)
unfolding one_if
kind_taken k os ts old new i d e t in_os in_ts before is same more =
    more ∙ ap (λ (x : List Tree). x ++ t ∷ []) before ∙ ap (λ (u : Tree). trees_of_kind k (take i os) (take i ts) ++ u ∷ []) same
    ∙ ap (λ (b : Bool). trees_of_kind k (take i os) (take i ts) ++ (if b then get_or ts i e ∷ [] else [])) (sym is) ∙ sym (kind_more k os ts i d e in_os in_ts)

pub kind_left : (k : ℕ) (os : List (Option ℕ)) (ts new : List Tree) (i : ℕ) (d : Option ℕ) → i < length os → i < length ts
    → new ≡ trees_of_kind k (take i os) (take i ts) → is_kind k (get_or os i d) ≡ false → new ≡ trees_of_kind k (take (i + 1) os) (take (i + 1) ts)
unfolding one_if
kind_left k os ts new i d in_os in_ts before is =
    let e : Tree = alternation (trees []) in
    before ∙ sym (append-nil (trees_of_kind k (take i os) (take i ts)))
    ∙ ap (λ (b : Bool). trees_of_kind k (take i os) (take i ts) ++ (if b then get_or ts i e ∷ [] else [])) (sym is) ∙ sym (kind_more k os ts i d e in_os in_ts)

-- ---- the first of a kind

pub first_found : {X : Type 0} (Same : X → X → Type 0) (xs : List X) (i k : ℕ) (r q : X) → k < length xs → r ≡ get_or xs k r → q ≡ get_or xs i q → Same r q
    → ((x : X) → slice_get xs i ≡ Some x → (j : ℕ) (y : X) → j < k → slice_get xs j ≡ Some y → ¬ Same y x)
    → (x : X) → slice_get xs i ≡ Some x → IsFirstSame Same xs x k
first_found Same xs i k r q within here there same none x at = record {
  item = r;
  at = slice_get_read xs (length xs) k r refl within here;
  same = subst (λ z. Same r z) (there ∙ get_or_from_slice_get xs i x q at) same;
  none_before = none x at;
}

pub none_more : {X : Type 0} (Same : X → X → Type 0) (xs : List X) (i k : ℕ) (r q : X) → r ≡ get_or xs k r → q ≡ get_or xs i q → ¬ Same r q
    → ((x : X) → slice_get xs i ≡ Some x → (j : ℕ) (y : X) → j < k → slice_get xs j ≡ Some y → ¬ Same y x)
    → (x : X) → slice_get xs i ≡ Some x → (j : ℕ) (y : X) → j < k + 1 → slice_get xs j ≡ Some y → ¬ Same y x
none_more Same xs i k r q here there other none x at j y below is same =
    let least : j ≤ k = omega (arith, below) in
    elim (eq-or-lt_of_le least) [
      | inl e ↦
          let own : r ≡ y = here ∙ ap (λ (n : ℕ). get_or xs n r) (sym e) ∙ get_or_from_slice_get xs j y r is in
          other (subst (λ z. Same r z) (sym (there ∙ get_or_from_slice_get xs i x q at)) (subst (λ z. Same z x) (sym own) same))
      | inr h ↦ none x at j y h is same
    ]

-- the trees of the rules from a place on
pub merged_step : (os : List (Option ℕ)) (ts : List Tree) (i : ℕ) (o : Option ℕ) (d : Tree) → slice_get os i ≡ Some o → i < length os → i < length ts
    → merged_behind (take i os) (drop i os) (drop i ts)
    ≡ one_tree (gathered (take i os) o (drop i os) (drop i ts)) ∷ merged_behind (take (i + 1) os) (drop (i + 1) os) (drop (i + 1) ts)
merged_step os ts i o d at in_os in_ts =
    let here : get_or os i o ≡ o = get_or_from_slice_get os i o o at in
    let left : drop i os ≡ o ∷ drop (i + 1) os = drop_more os i o in_os ∙ ap (λ (p : Option ℕ). p ∷ drop (i + 1) os) here in
    let done : take (i + 1) os ≡ take i os ++ o ∷ [] = take_more os i o in_os ∙ ap (λ (p : Option ℕ). take i os ++ p ∷ []) here in
    rw (left, drop_more ts i d in_ts, done) refl

-- one more, as a loop goes over them
pub merged_next : (os : List (Option ℕ)) (ts all new whole : List Tree) (i : ℕ) (o : Option ℕ) (t : Tree) → slice_get os i ≡ Some o → i < length os → i < length ts
    → all ++ merged_behind (take i os) (drop i os) (drop i ts) ≡ whole → t ≡ one_tree (gathered (take i os) o (drop i os) (drop i ts)) → new ≡ all ++ t ∷ []
    → new ++ merged_behind (take (i + 1) os) (drop (i + 1) os) (drop (i + 1) ts) ≡ whole
merged_next os ts all new whole i o t at in_os in_ts before is more =
    let rest : List Tree = merged_behind (take (i + 1) os) (drop (i + 1) os) (drop (i + 1) ts) in
    ap (λ (x : List Tree). x ++ rest) more ∙ append_assoc all (t ∷ []) rest ∙ ap (λ (u : Tree). all ++ u ∷ rest) is
    ∙ ap (λ (x : List Tree). all ++ x) (sym (merged_step os ts i o (alternation (trees [])) at in_os in_ts)) ∙ before

-- ---- faults

-- each of the trees can be compiled
abbrev AllFine : List Tree → Type 0
AllFine [] = Unit {0}
AllFine (t ∷ ts) = (fault t ≡ None) × AllFine ts

all_fine : (ts : List Tree) → NoFault ts → AllFine ts
all_fine [] none = tt
all_fine (t ∷ ts) none = (none 0 t refl, all_fine ts (λ i u at. none (suc i) u at))

no_fault : (ts : List Tree) → AllFine ts → NoFault ts
no_fault [] fine i t at = absurd (cc)
no_fault (u ∷ ts) fine zero t at = let same : u ≡ t = cc in subst (λ (x : Tree). fault x ≡ None) same fine.0
no_fault (u ∷ ts) fine (suc i) t at = no_fault ts fine.1 i t at

fine_branches : (ts : List Tree) → AllFine ts → first_fault (trees ts) ≡ None
fine_branches [] fine = refl
fine_branches (t ∷ ts) fine = rw fine.0 (fine_branches ts fine.1)

fine_tree : (ts : List Tree) → AllFine ts → fault (one_tree ts) ≡ None
fine_tree [] fine = refl
fine_tree (t ∷ []) fine = fine.0
fine_tree (t ∷ u ∷ ts) fine = fine_branches (t ∷ u ∷ ts) fine

fine_kind : (k : ℕ) (os : List (Option ℕ)) (ts : List Tree) → AllFine ts → AllFine (trees_of_kind k os ts)
fine_kind k [] ts fine = tt
fine_kind k (o ∷ os) [] fine = tt
fine_kind k (o ∷ os) (t ∷ ts) fine = by (is_kind k o) (fine_kind k os ts fine.1)
  where
    by : (b : Bool) → AllFine (trees_of_kind k os ts) → AllFine (if b then t ∷ trees_of_kind k os ts else trees_of_kind k os ts)
    by true h = (fine.0, h)
    by false h = h

fine_gathered : (before : List (Option ℕ)) (o : Option ℕ) (os : List (Option ℕ)) (ts : List Tree) → AllFine ts → AllFine (gathered before o os ts)
fine_gathered before None os ts fine = tt
fine_gathered before (Some k) os ts fine = by (list_any (λ o. is_kind k o) before)
  where
    by : (b : Bool) → AllFine (if b then [] else trees_of_kind k os ts)
    by true = tt
    by false = fine_kind k os ts fine

fine_behind : (before os : List (Option ℕ)) (ts : List Tree) → AllFine ts → AllFine (merged_behind before os ts)
fine_behind before [] ts fine = tt
fine_behind before (o ∷ os) [] fine = tt
fine_behind before (o ∷ os) (t ∷ ts) fine =
    (fine_tree (gathered before o (o ∷ os) (t ∷ ts)) (fine_gathered before o (o ∷ os) (t ∷ ts) fine), fine_behind (before ++ o ∷ []) os ts fine.1)

-- where all trees can be compiled, so can the merged ones
pub no_fault_merged : (os : List (Option ℕ)) (ts : List Tree) → NoFault ts → NoFault (merged os ts)
no_fault_merged os ts none = no_fault (merged os ts) (fine_behind [] os ts (all_fine ts none))

pub no_first_fault : (ts : List Tree) (i : ℕ) (e : NfaConstructionError) → NoFault ts → ¬ FirstFault ts i e
no_first_fault ts i e none first =
    let both : None ≡ Some e = sym (none i first.tree first.at) ∙ first.has in absurd (cc)

-- ---- words

one_matches : (ts : List Tree) (w : List ℕ) → Matches (one_tree ts) w → SomeMatches (trees ts) w
one_matches [] w m = m
one_matches (t ∷ []) w m = inl m
one_matches (t ∷ u ∷ ts) w m = m

matches_one : (ts : List Tree) (w : List ℕ) → SomeMatches (trees ts) w → Matches (one_tree ts) w
matches_one [] w m = m
matches_one (t ∷ []) w (inl m) = m
matches_one (t ∷ []) w (inr m) = absurd m
matches_one (t ∷ u ∷ ts) w m = m

-- a rule of this kind
abbrev HasKind : List (Option ℕ) → ℕ → ℕ → Type 0
HasKind os i k = slice_get os i ≡ Some (Some k)

kind_is : (k : ℕ) (o : Option ℕ) → is_kind k o ≡ true → o ≡ Some k
kind_is k None is = absurd (false≢true is)
kind_is k (Some n) is = ap Some ((Decides-eqb n k).0 is)

is_of_kind : (k : ℕ) (o : Option ℕ) → o ≡ Some k → is_kind k o ≡ true
is_of_kind k o e = ap (is_kind k) e ∙ eq-eqb k k refl

-- some tree of the kind matches the word
abbrev KindMatches : ℕ → List (Option ℕ) → List Tree → List ℕ → Type 0
KindMatches k os ts w = (j : ℕ) × (HasKind os j k × TreeMatches ts w j)

from_kind : (k : ℕ) (os : List (Option ℕ)) (ts : List Tree) (w : List ℕ) → SomeMatches (trees (trees_of_kind k os ts)) w → KindMatches k os ts w
from_kind k [] ts w m = absurd m
from_kind k (o ∷ os) [] w m = absurd m
from_kind k (o ∷ os) (t ∷ ts) w m = by (is_kind k o) refl m (from_kind k os ts w)
  where
    later : KindMatches k os ts w → KindMatches k (o ∷ os) (t ∷ ts) w
    later (j, (has, matches)) = (suc j, (has, matches))

    by : (b : Bool) → is_kind k o ≡ b → SomeMatches (trees (if b then t ∷ trees_of_kind k os ts else trees_of_kind k os ts)) w
        → (SomeMatches (trees (trees_of_kind k os ts)) w → KindMatches k os ts w) → KindMatches k (o ∷ os) (t ∷ ts) w
    by true is (inl here) more = (0, (ap Some (kind_is k o is), (t, (refl, here))))
    by true is (inr m) more = later (more m)
    by false is m more = later (more m)

into_kind : (k : ℕ) (os : List (Option ℕ)) (ts : List Tree) (w : List ℕ) (j : ℕ) → HasKind os j k → TreeMatches ts w j → SomeMatches (trees (trees_of_kind k os ts)) w
into_kind k [] ts w j has matches = absurd (cc)
into_kind k (o ∷ os) [] w j has (t, (at, m)) = absurd (cc)
into_kind k (o ∷ os) (t ∷ ts) w zero has (u, (at, m)) =
    let is : is_kind k o ≡ true = is_of_kind k o (same_Some _ _ has) in
    let here : Matches t w = subst (λ (x : Tree). Matches x w) (sym (same_Some _ _ at)) m in
    subst (λ (b : Bool). SomeMatches (trees (if b then t ∷ trees_of_kind k os ts else trees_of_kind k os ts)) w) (sym is) (inl here)
into_kind k (o ∷ os) (t ∷ ts) w (suc j) has matches = by (is_kind k o) (into_kind k os ts w j has matches)
  where
    by : (b : Bool) → SomeMatches (trees (trees_of_kind k os ts)) w → SomeMatches (trees (if b then t ∷ trees_of_kind k os ts else trees_of_kind k os ts)) w
    by true m = inr m
    by false m = m

-- the rule is the first of its kind, and some tree of the kind matches the word
abbrev FirstMatches : List (Option ℕ) → List Tree → List ℕ → ℕ → Type 0
FirstMatches os ts w i = (k : ℕ) × (HasKind os i k × KindMatches k os ts w × ((h : ℕ) → h < i → ¬ HasKind os h k))

some_tree : (u t : Tree) (ts : List Tree) (w : List ℕ) → slice_get (u ∷ ts) 0 ≡ Some t → Matches t w → Matches u w
some_tree u t ts w at m = subst (λ (x : Tree). Matches x w) (sym (same_Some _ _ at)) m

of_gathered : (before : List (Option ℕ)) (o : Option ℕ) (os : List (Option ℕ)) (t : Tree) (ts : List Tree) (w : List ℕ)
    → SomeMatches (trees (gathered before o (o ∷ os) (t ∷ ts))) w
    → (k : ℕ) × ((o ≡ Some k) × (list_any (λ p. is_kind k p) before ≡ false) × KindMatches k (o ∷ os) (t ∷ ts) w)
of_gathered before None os t ts w m = absurd m
of_gathered before (Some k) os t ts w m = by (list_any (λ p. is_kind k p) before) refl m
  where
    by : (b : Bool) → list_any (λ p. is_kind k p) before ≡ b → SomeMatches (trees (if b then [] else trees_of_kind k (Some k ∷ os) (t ∷ ts))) w
        → (n : ℕ) × ((Some k ≡ Some n) × (list_any (λ p. is_kind n p) before ≡ false) × KindMatches n (Some k ∷ os) (t ∷ ts) w)
    by true is m = absurd m
    by false is m = (k, (refl, is, from_kind k (Some k ∷ os) (t ∷ ts) w m))

not_among : (before : List (Option ℕ)) (o : Option ℕ) (k : ℕ) → list_any (λ p. is_kind k p) (before ++ o ∷ []) ≡ false
    → (list_any (λ p. is_kind k p) before ≡ false) × (is_kind k o ≡ false)
not_among [] o k none = by (is_kind k o) none
  where
    by : (b : Bool) → (b || false) ≡ false → (false ≡ false) × (b ≡ false)
    by true e = absurd (cc)
    by false e = (refl, refl)
not_among (p ∷ before) o k none = by (is_kind k p) _ _ none (not_among before o k)
  where
    by : (b : Bool) (all some : Bool) → (b || all) ≡ false → (all ≡ false → (some ≡ false) × (is_kind k o ≡ false)) → ((b || some) ≡ false) × (is_kind k o ≡ false)
    by true all some e more = absurd (cc)
    by false all some e more = more e

none_among : (before : List (Option ℕ)) (o : Option ℕ) (k : ℕ) → list_any (λ p. is_kind k p) before ≡ false → is_kind k o ≡ false
    → list_any (λ p. is_kind k p) (before ++ o ∷ []) ≡ false
none_among before o k none other =
    list_any-append (λ p. is_kind k p) before (o ∷ []) ∙ ap (λ (b : Bool). b || (is_kind k o || false)) none ∙ ap (λ (b : Bool). b || false) other

of_behind : (before os : List (Option ℕ)) (ts : List Tree) (w : List ℕ) (i : ℕ) → TreeMatches (merged_behind before os ts) w i
    → (k : ℕ) × (HasKind os i k × (list_any (λ p. is_kind k p) before ≡ false) × KindMatches k os ts w × ((h : ℕ) → h < i → ¬ HasKind os h k))
of_behind before [] ts w i (t, (at, m)) = absurd (cc)
of_behind before (o ∷ os) [] w i (t, (at, m)) = absurd (cc)
of_behind before (o ∷ os) (t ∷ ts) w zero (u, (at, m)) =
    let all = gathered before o (o ∷ os) (t ∷ ts) in
    let of = of_gathered before o os t ts w (one_matches all w (some_tree (one_tree all) u (merged_behind (before ++ o ∷ []) os ts) w at m)) in
    (of.0, (ap Some of.1.0, of.1.1, of.1.2, λ h below. absurd (no h below)))
  where
    no : (h : ℕ) → h < 0 → ⊥
    no h below = omega (arith, below)
of_behind before (o ∷ os) (t ∷ ts) w (suc i) matches =
    let of = of_behind (before ++ o ∷ []) os ts w i matches in
    let k : ℕ = of.0 in
    let none = not_among before o k of.1.1 in
    let j = of.1.2 in
    (k, (of.1.0, none.0, (suc j.0, j.1), earlier k none.1 of.1.3))
  where
    earlier : (k : ℕ) → is_kind k o ≡ false → ((h : ℕ) → h < i → ¬ HasKind os h k) → (h : ℕ) → h < suc i → ¬ HasKind (o ∷ os) h k
    earlier k other more zero below has = false≢true (sym other ∙ is_of_kind k o (same_Some _ _ has))
    earlier k other more (suc h) below has = more h (omega (arith, below)) has

-- what a merged tree matches, some tree of its kind does, and its rule is the first of the kind
pub of_merged : (os : List (Option ℕ)) (ts : List Tree) (w : List ℕ) (i : ℕ) → TreeMatches (merged os ts) w i → FirstMatches os ts w i
of_merged os ts w i matches = let of = of_behind [] os ts w i matches in (of.0, (of.1.0, of.1.2, of.1.3))

into_behind : (before os : List (Option ℕ)) (ts : List Tree) (w : List ℕ) (j k : ℕ) → list_any (λ p. is_kind k p) before ≡ false → HasKind os j k → TreeMatches ts w j
    → (i : ℕ) × (HasKind os i k × TreeMatches (merged_behind before os ts) w i)
into_behind before [] ts w j k none has matches = absurd (cc)
into_behind before (o ∷ os) [] w j k none has (t, (at, m)) = absurd (cc)
into_behind before (o ∷ os) (t ∷ ts) w j k none has matches =
    by j has matches (is_kind k o) refl (λ n other own matches. into_behind (before ++ o ∷ []) os ts w n k (none_among before o k none other) own matches)
  where
    here : o ≡ Some k → (n : ℕ) → HasKind (o ∷ os) n k → TreeMatches (t ∷ ts) w n → TreeMatches (merged_behind before (o ∷ os) (t ∷ ts)) w 0
    here is n own matches =
        let all : gathered before o (o ∷ os) (t ∷ ts) ≡ trees_of_kind k (o ∷ os) (t ∷ ts) =
        ap (λ (p : Option ℕ). gathered before p (o ∷ os) (t ∷ ts)) is ∙ ap (λ (b : Bool). if b then [] else trees_of_kind k (o ∷ os) (t ∷ ts)) none in (
          one_tree (gathered before o (o ∷ os) (t ∷ ts)),
          (
            refl,
            subst (λ (us : List Tree). Matches (one_tree us) w) (sym all)
                (matches_one (trees_of_kind k (o ∷ os) (t ∷ ts)) w (into_kind k (o ∷ os) (t ∷ ts) w n own matches)),
          ),
        )

    by : (n : ℕ) → HasKind (o ∷ os) n k → TreeMatches (t ∷ ts) w n → (b : Bool) → is_kind k o ≡ b
        → ((m : ℕ) → is_kind k o ≡ false → HasKind os m k → TreeMatches ts w m → (i : ℕ) × (HasKind os i k × TreeMatches (merged_behind (before ++ o ∷ []) os ts) w i))
        → (i : ℕ) × (HasKind (o ∷ os) i k × TreeMatches (merged_behind before (o ∷ os) (t ∷ ts)) w i)
    by n own matches true is more = (0, (ap Some (kind_is k o is), here (kind_is k o is) n own matches))
    by zero own matches false is more = absurd (false≢true (sym is ∙ is_of_kind k o (same_Some _ _ own)))
    by (suc n) own matches false is more = let found = more n is own matches in (suc found.0, found.1)

-- what some rule's tree matches, the merged tree of the first of its kind does
pub into_merged : (os : List (Option ℕ)) (ts : List Tree) (w : List ℕ) (j k : ℕ) → HasKind os j k → TreeMatches ts w j
    → (i : ℕ) × (HasKind os i k × TreeMatches (merged os ts) w i)
into_merged os ts w j k has matches = into_behind [] os ts w j k refl has matches

-- ---- lengths

few_behind : (before os : List (Option ℕ)) (ts : List Tree) → length (merged_behind before os ts) ≤ length ts
few_behind before [] ts = omega arith
few_behind before (o ∷ os) [] = omega arith
few_behind before (o ∷ os) (t ∷ ts) = omega (arith, few_behind (before ++ o ∷ []) os ts)

-- no more than before
pub merged-few : (os : List (Option ℕ)) (ts : List Tree) → length (merged os ts) ≤ length ts
merged-few os ts = few_behind [] os ts

length_behind : (before os : List (Option ℕ)) (ts : List Tree) → length os ≡ length ts → length (merged_behind before os ts) ≡ length ts
length_behind before [] [] same = refl
length_behind before [] (t ∷ ts) same = same
length_behind before (o ∷ os) [] same = refl
length_behind before (o ∷ os) (t ∷ ts) same = ap suc (length_behind (before ++ o ∷ []) os ts (cc same))

-- as many as before
pub length-merged : (os : List (Option ℕ)) (ts : List Tree) → length os ≡ length ts → length (merged os ts) ≡ length ts
length-merged os ts same = length_behind [] os ts same
