-- Classes after a round, of one state after another.
use Rattle.std.proofs.Common.{◌≡◌, ◌≢◌, ℕ, Bool, true, false, ◌+◌, ◌<◌, ◌≤◌, List, [], ◌∷◌, ◌++◌, map, length, take, get_or, refl, sym, ap, ◌∙◌, subst, ⊎_elim, arith, get_or-take, length-take-le, take_all}
use Rattle.std.specs.Prelude.{Some, None, Vec}
use Rattle.std.specs.Global.{Global}
use Rattle.std.specs.HashMap.{HashMap, get, Updates, IsEmpty}
use Rattle.std.proofs.lemmas.Bool.{cases_lt}
use Rattle.std.proofs.lemmas.List.{get_or-map, take_more}
use Rattle.lalrpop_verdicts.specs.Internal.Classes.{AreClassesOf, leads_row, list_eq, row_at}
use Rattle.lalrpop_verdicts.specs.Internal.Rounds.{AreOwnRows, IsNextClass}
use Rattle.lalrpop_verdicts.specs.Internal.Rounds.IsNextClass.{stays, known, added}
use Rattle.lalrpop_verdicts.proofs.FirstLaws.{classes_push, equal_lists, no_classes, other_lists}

-- the classes of the first n states, and what the map has of those that parted from the first state of their class
pub record AreNextClasses {S : Type 0} (rows : List (List ℕ)) (classes : List ℕ) (n : ℕ) (moved : HashMap (Vec ℕ Global) ℕ S) (next : List ℕ) : Type 0 where
  pub parts : AreClassesOf (take n rows) next
  pub found : (k : Vec ℕ Global) (c : ℕ) → get list_eq moved k ≡ Some c → (c < n) × (row_at rows c ≡ k.items) × ((j : ℕ) → j < c → row_at rows j ≢ k.items)
  pub missing : (k : Vec ℕ Global) (j : ℕ) → get list_eq moved k ≡ None → j < n → row_at rows j ≡ k.items → row_at rows (get_or classes j 0) ≡ row_at rows j

pub none_next : {S : Type 0} (rows : List (List ℕ)) (classes : List ℕ) (moved : HashMap (Vec ℕ Global) ℕ S) (next : List ℕ) → IsEmpty moved → next ≡ [] → AreNextClasses rows classes 0 moved next
none_next rows classes moved next none e = record {
  parts = subst (AreClassesOf []) (sym e) no_classes;
  found = λ k c g. (let h : get list_eq moved k ≡ None = rw none refl in let g2 : get list_eq moved k ≡ Some c = g in cc);
  missing = λ k j g l. absurd (omega arith);
}

one_more : (rows : List (List ℕ)) (n : ℕ) (next : List ℕ) (first : ℕ) → n < length rows → AreClassesOf (take n rows) next
    → first ≤ n → row_at rows first ≡ row_at rows n → ((j : ℕ) → j < first → row_at rows j ≢ row_at rows n) → AreClassesOf (take (n + 1) rows) (next ++ first ∷ [])
one_more rows n next first within h most same none =
    subst (λ (xs : List (List ℕ)). AreClassesOf xs (next ++ first ∷ [])) (sym more)
    (classes_push (take n rows) next h (row_at rows n) first (omega (arith, long)) is (λ j l e. none j l (sym (get_or-take n rows j [] (omega arith)) ∙ e)))
  where
    more : take (n + 1) rows ≡ take n rows ++ row_at rows n ∷ []
    more = take_more rows n [] within

    long : length (take n rows) ≡ n
    long = length-take-le n rows (omega arith)

    is : row_at (take n rows ++ row_at rows n ∷ []) first ≡ row_at rows n
    is = subst (λ (xs : List (List ℕ)). row_at xs first ≡ row_at rows n) more (get_or-take (n + 1) rows first [] (omega arith) ∙ same)

module _ {S : Type 0} (rows : List (List ℕ)) (classes : List ℕ) (own : AreOwnRows rows classes) (n : ℕ) (within : n < length rows)
    (moved : HashMap (Vec ℕ Global) ℕ S) (next : List ℕ) (h : AreNextClasses rows classes n moved next) where
  abbrev first : ℕ
  first = get_or classes n 0

  -- states with one row were in one class
  same_first : (j : ℕ) → j < length rows → row_at rows j ≡ row_at rows n → get_or classes j 0 ≡ first
  same_first j l e = sym (own.own j l) ∙ ap (λ (r : List ℕ). get_or r 0 0) e ∙ own.own n within

  first_row : (j : ℕ) → j < length rows → row_at rows j ≡ row_at rows n → row_at rows (get_or classes j 0) ≡ row_at rows j → row_at rows first ≡ row_at rows n
  first_row j l e stayed = ap (row_at rows) (sym (same_first j l e)) ∙ stayed ∙ e

  none_earlier : (j : ℕ) → j < first → row_at rows j ≢ row_at rows n
  none_earlier j l e =
      let k : j < length rows = omega (arith, own.least n within) in
      omega (arith, own.least j k, same_first j k e)

  found_on : (k : Vec ℕ Global) (c : ℕ) → get list_eq moved k ≡ Some c → (c < n + 1) × (row_at rows c ≡ k.items) × ((j : ℕ) → j < c → row_at rows j ≢ k.items)
  found_on k c g = let o = h.found k c g in (omega (arith, o.0), o.1, o.2)

  missing_on : (k : Vec ℕ Global) (j : ℕ) → (row_at rows n ≡ k.items → row_at rows first ≡ row_at rows n) → get list_eq moved k ≡ None → j < n + 1 → row_at rows j ≡ k.items
      → row_at rows (get_or classes j 0) ≡ row_at rows j
  missing_on k j here none l e =
      ⊎_elim (λ (s : j < n). h.missing k j none s e)
      (λ (s : n ≤ j). let is : j ≡ n = omega arith in
      subst (λ (i : ℕ). row_at rows (get_or classes i 0) ≡ row_at rows i) (sym is) (here (subst (λ (i : ℕ). row_at rows i ≡ k.items) is e))) (cases_lt j n)

  -- the state stays in its class
  next_stays : row_at rows first ≡ row_at rows n → AreNextClasses rows classes (n + 1) moved (next ++ first ∷ [])
  next_stays same = record {
    parts = one_more rows n next first within h.parts (own.least n within) same none_earlier;
    found = found_on;
    missing = λ k j none l e. missing_on k j (λ at. same) none l e;
  }

  -- others with its row parted from there before
  next_known : (k : Vec ℕ Global) (x : ℕ) → k.items ≡ row_at rows n → get list_eq moved k ≡ Some x → AreNextClasses rows classes (n + 1) moved (next ++ x ∷ [])
  next_known k x is at = record {
    parts = one_more rows n next x within h.parts (omega (arith, there.0)) same (λ j l e. there.2 j l (e ∙ sym is));
    found = found_on;
    missing = λ q j none l e. missing_on q j (λ i. first_row x (omega (arith, there.0)) same (h.missing q x none there.0 (same ∙ i))) none l e;
  }
    where
      there : (x < n) × (row_at rows x ≡ k.items) × ((j : ℕ) → j < x → row_at rows j ≢ k.items)
      there = h.found k x at

      same : row_at rows x ≡ row_at rows n
      same = there.1 ∙ is

  -- none did
  module _ (moved2 : HashMap (Vec ℕ Global) ℕ S) (apart : row_at rows first ≢ row_at rows n) (k : Vec ℕ Global) (is : k.items ≡ row_at rows n) (none : get list_eq moved k ≡ None)
      (up : Updates list_eq moved moved2 k (Some n)) where
    none_before : (j : ℕ) → j < n → row_at rows j ≢ row_at rows n
    none_before j l e = apart (first_row j (omega arith) e (h.missing k j none l (e ∙ sym is)))

    here : (q : Vec ℕ Global) → list_eq k q ≡ true → get list_eq moved2 q ≡ Some n
    here q e = up.0 q ∙ rw e refl

    elsewhere : (q : Vec ℕ Global) → list_eq k q ≡ false → get list_eq moved2 q ≡ get list_eq moved q
    elsewhere q e = up.0 q ∙ rw e refl

    found_more : (q : Vec ℕ Global) (c : ℕ) → get list_eq moved2 q ≡ Some c → (c < n + 1) × (row_at rows c ≡ q.items) × ((j : ℕ) → j < c → row_at rows j ≢ q.items)
    found_more q c g = by_case (list_eq k q) refl
      where
        by_case : (b : Bool) → list_eq k q ≡ b → (c < n + 1) × (row_at rows c ≡ q.items) × ((j : ℕ) → j < c → row_at rows j ≢ q.items)
        by_case true e =
            let i : c ≡ n = (let z : Some c ≡ Some n = sym g ∙ here q e in cc) in
            let items : row_at rows n ≡ q.items = sym is ∙ equal_lists k q e in
            (omega arith, ap (row_at rows) i ∙ items, λ j l same. none_before j (omega arith) (same ∙ sym items))
        by_case false e = found_on q c (sym (elsewhere q e) ∙ g)

    missing_more : (q : Vec ℕ Global) (j : ℕ) → get list_eq moved2 q ≡ None → j < n + 1 → row_at rows j ≡ q.items → row_at rows (get_or classes j 0) ≡ row_at rows j
    missing_more q j g l same = by_case (list_eq k q) refl
      where
        by_case : (b : Bool) → list_eq k q ≡ b → row_at rows (get_or classes j 0) ≡ row_at rows j
        by_case true e = absurd (let z : None ≡ Some n = sym g ∙ here q e in cc)
        by_case false e = missing_on q j (λ at. absurd (other_lists k q e (is ∙ at))) (sym (elsewhere q e) ∙ g) l same

    next_added : AreNextClasses rows classes (n + 1) moved2 (next ++ n ∷ [])
    next_added = record {
      parts = one_more rows n next n within h.parts (omega arith) refl none_before;
      found = found_more;
      missing = missing_more;
    }

  pub next_push : (x : ℕ) (moved2 : HashMap (Vec ℕ Global) ℕ S) → IsNextClass rows first n x moved moved2 → AreNextClasses rows classes (n + 1) moved2 (next ++ x ∷ [])
  next_push x moved2 (stays same e f) = rw (e, f) (next_stays same)
  next_push x moved2 (known k is at f) = rw f (next_known k x is at)
  next_push x moved2 (added apart k is none e up) = rw e (next_added moved2 apart k is none up)

pub end_next : {S : Type 0} (rows : List (List ℕ)) (classes : List ℕ) (n : ℕ) (moved : HashMap (Vec ℕ Global) ℕ S) (next : List ℕ) → AreNextClasses rows classes n moved next → length rows ≤ n → AreClassesOf rows next
end_next rows classes n moved next h l = subst (λ (xs : List (List ℕ)). AreClassesOf xs next) (take_all n rows l) h.parts

-- ---- where a state leads, as classes
pub row_of_state : (classes : List ℕ) (table : List (Vec ℕ Global)) (state : ℕ) (v : Vec ℕ Global) → state < length table → v ≡ get_or table state v → row_at (map (leads_row classes) table) state ≡ map (λ t. get_or classes t 0) v.items
row_of_state classes table state v within is = get_or-map (leads_row classes) table state v [] within ∙ ap (leads_row classes) (sym is)
