-- Classes that keys split, one place after another.
use Rattle.std.proofs.Common.{◌≡◌, ◌≢◌, ℕ, Bool, true, false, ◌+◌, ◌<◌, ◌≤◌, List, [], ◌∷◌, ◌++◌, length, get_or, refl, sym, ap, ◌∙◌, subst, ⊎_elim, ◌⊎◌, inl, inr, arith, nat_eq, eqb-true, eq-eqb, length-append}
use Rattle.std.specs.Prelude.{Some, None}
use Rattle.std.specs.HashMap.{HashMap, get, Updates, IsEmpty}
use Rattle.std.proofs.Math.ListN.{get_or-append}
use Rattle.std.proofs.lemmas.List.{get_or_push}
use Rattle.std.proofs.lemmas.Bool.{cases_lt, and_parts}
use Rattle.std.proofs.lemmas.Bool.Decides.{eqb_tells}
use Rattle.lalrpop_verdicts.specs.Internal.Classes.{AreFirstPlaces, AreSplit, IsPart, pair_eq}
use Rattle.lalrpop_verdicts.specs.Internal.Classes.IsPart.{stays, known, added}

-- the parts of the first n places
pub record AreParts (firsts keys : List ℕ) (n : ℕ) (parts : List ℕ) : Type 0 where
  pub count : length parts ≡ n
  pub least : (p : ℕ) → p < n → get_or parts p 0 ≤ p
  pub own : (p : ℕ) → p < n → get_or parts (get_or parts p 0) 0 ≡ get_or parts p 0
  pub same_first : (p : ℕ) → p < n → get_or firsts (get_or parts p 0) 0 ≡ get_or firsts p 0
  pub same_key : (p : ℕ) → p < n → get_or keys (get_or parts p 0) 0 ≡ get_or keys p 0

-- what the map has of those that parted from their first place
pub record AreMoved {S : Type 0} (firsts keys : List ℕ) (n : ℕ) (moved : HashMap (ℕ × ℕ) ℕ S) (parts : List ℕ) : Type 0 where
  pub base : AreParts firsts keys n parts
  pub stayed : (p : ℕ) → p < n → get_or keys (get_or firsts p 0) 0 ≡ get_or keys p 0 → get_or parts p 0 ≡ get_or firsts p 0
  pub found : (p : ℕ) → p < n → get_or keys (get_or firsts p 0) 0 ≢ get_or keys p 0 → get pair_eq moved (get_or firsts p 0, get_or keys p 0) ≡ Some (get_or parts p 0)
  pub stored : (f t c : ℕ) → get pair_eq moved (f, t) ≡ Some c → (c < n) × (get_or parts c 0 ≡ c) × (get_or firsts c 0 ≡ f) × (get_or keys c 0 ≡ t)

last_or_early : (p n : ℕ) → p < n + 1 → (p < n) ⊎ (p ≡ n)
last_or_early p n l = ⊎_elim (λ (k : p < n). inl k) (λ (k : n ≤ p). let e : p ≡ n = omega arith in inr e) (cases_lt p n)

module _ (firsts keys : List ℕ) (n : ℕ) (parts : List ℕ) (h : AreParts firsts keys n parts) (x : ℕ) where
  abbrev more : List ℕ
  more = parts ++ x ∷ []

  pub early : (p : ℕ) → p < n → get_or more p 0 ≡ get_or parts p 0
  early p l = get_or-append parts (x ∷ []) 0 p (omega (arith, h.count))

  pub last : (p : ℕ) → p ≡ n → get_or more p 0 ≡ x
  last p e = get_or_push parts x 0 p (h.count ∙ sym e)

  pub parts_push : x ≤ n → (x < n → get_or parts x 0 ≡ x) → get_or firsts x 0 ≡ get_or firsts n 0 → get_or keys x 0 ≡ get_or keys n 0 → AreParts firsts keys (n + 1) more
  parts_push most own first key = record {
    count = length-append parts (x ∷ []) ∙ ap (λ k. k + 1) h.count;
    least = λ p l. ⊎_elim (λ (k : p < n). rw (early p k) (h.least p k)) (λ (k : p ≡ n). rw (last p k) (omega arith)) (last_or_early p n l);
    own = λ p l. ⊎_elim (λ (k : p < n). ap (λ i. get_or more i 0) (early p k) ∙ early (get_or parts p 0) (omega (arith, h.least p k)) ∙ h.own p k ∙ sym (early p k))
        (λ (k : p ≡ n). ap (λ i. get_or more i 0) (last p k) ∙ at_own ∙ sym (last p k)) (last_or_early p n l);
    same_first = λ p l. ⊎_elim (λ (k : p < n). ap (λ i. get_or firsts i 0) (early p k) ∙ h.same_first p k)
        (λ (k : p ≡ n). ap (λ i. get_or firsts i 0) (last p k) ∙ first ∙ ap (λ i. get_or firsts i 0) (sym k)) (last_or_early p n l);
    same_key = λ p l. ⊎_elim (λ (k : p < n). ap (λ i. get_or keys i 0) (early p k) ∙ h.same_key p k)
        (λ (k : p ≡ n). ap (λ i. get_or keys i 0) (last p k) ∙ key ∙ ap (λ i. get_or keys i 0) (sym k)) (last_or_early p n l);
  }
    where
      at_own : get_or more x 0 ≡ x
      at_own = ⊎_elim (λ (k : x < n). early x k ∙ own k) (λ (k : n ≤ x). last x (omega arith)) (cases_lt x n)

pub none_moved : {S : Type 0} (firsts keys : List ℕ) (moved : HashMap (ℕ × ℕ) ℕ S) (parts : List ℕ) → IsEmpty moved → parts ≡ [] → AreMoved firsts keys 0 moved parts
none_moved firsts keys moved parts none e = record {
  base = record {
    count = ap length e;
    least = λ p l. absurd (omega arith);
    own = λ p l. absurd (omega arith);
    same_first = λ p l. absurd (omega arith);
    same_key = λ p l. absurd (omega arith);
  };
  stayed = λ p l. absurd (omega arith);
  found = λ p l. absurd (omega arith);
  stored = λ f t c g. (let h : get pair_eq moved (f, t) ≡ None = rw none refl in let g2 : get pair_eq moved (f, t) ≡ Some c = g in cc);
}

module _ {S : Type 0} (firsts keys : List ℕ) (n : ℕ) (moved : HashMap (ℕ × ℕ) ℕ S) (parts : List ℕ) (h : AreMoved firsts keys n moved parts)
    (are : AreFirstPlaces firsts) (within : n < length firsts) where
  abbrev first : ℕ
  first = get_or firsts n 0

  abbrev key : ℕ
  key = get_or keys n 0

  abbrev kept_early : (x : ℕ) → (p : ℕ) → p < n → get_or (parts ++ x ∷ []) p 0 ≡ get_or parts p 0
  kept_early x p l = early firsts keys n parts h.base x p l

  abbrev at_last : (x : ℕ) → (p : ℕ) → p ≡ n → get_or (parts ++ x ∷ []) p 0 ≡ x
  at_last x p e = last firsts keys n parts h.base x p e

  stored_on : (x f t c : ℕ) → get pair_eq moved (f, t) ≡ Some c → (c < n + 1) × (get_or (parts ++ x ∷ []) c 0 ≡ c) × (get_or firsts c 0 ≡ f) × (get_or keys c 0 ≡ t)
  stored_on x f t c g = let o = h.stored f t c g in (omega (arith, o.0), kept_early x c o.0 ∙ o.1, o.2, o.3)

  first_own : get_or firsts first 0 ≡ first
  first_own = are.own n within

  -- the place stays with its first one
  push_stays : get_or keys first 0 ≡ key → AreMoved firsts keys (n + 1) moved (parts ++ first ∷ [])
  push_stays same = record {
    base = parts_push firsts keys n parts h.base first (are.least n within) (λ l. h.stayed first l (ap (λ i. get_or keys i 0) first_own) ∙ first_own) first_own same;
    stayed = λ p l e. ⊎_elim (λ (k : p < n). kept_early first p k ∙ h.stayed p k e) (λ (k : p ≡ n). at_last first p k ∙ ap (λ i. get_or firsts i 0) (sym k)) (last_or_early p n l);
    found = λ p l ne. ⊎_elim (λ (k : p < n). h.found p k ne ∙ ap (λ (i : ℕ). Some i) (sym (kept_early first p k)))
        (λ (k : p ≡ n). absurd (ne (subst (λ (i : ℕ). get_or keys (get_or firsts i 0) 0 ≡ get_or keys i 0) (sym k) same))) (last_or_early p n l);
    stored = stored_on first;
  }

  -- others with its key parted from there before
  push_known : (x : ℕ) → get_or keys first 0 ≢ key → get pair_eq moved (first, key) ≡ Some x → AreMoved firsts keys (n + 1) moved (parts ++ x ∷ [])
  push_known x apart at = let o = h.stored first key x at in record {
    base = parts_push firsts keys n parts h.base x (omega (arith, o.0)) (λ l. o.1) o.2 o.3;
    stayed = λ p l e. ⊎_elim (λ (k : p < n). kept_early x p k ∙ h.stayed p k e) (λ (k : p ≡ n). absurd (apart (subst (λ (i : ℕ). get_or keys (get_or firsts i 0) 0 ≡ get_or keys i 0) k e))) (last_or_early p n l);
    found = λ p l ne. ⊎_elim (λ (k : p < n). h.found p k ne ∙ ap (λ (i : ℕ). Some i) (sym (kept_early x p k)))
        (λ (k : p ≡ n). ap (λ (i : ℕ). get pair_eq moved (get_or firsts i 0, get_or keys i 0)) k ∙ at ∙ ap (λ (i : ℕ). Some i) (sym (at_last x p k))) (last_or_early p n l);
    stored = stored_on x;
  }

  -- none did
  module _ (moved2 : HashMap (ℕ × ℕ) ℕ S) (apart : get_or keys first 0 ≢ key) (none : get pair_eq moved (first, key) ≡ None) (up : Updates pair_eq moved moved2 (first, key) (Some n)) where
    here : (f t : ℕ) → pair_eq (first, key) (f, t) ≡ true → get pair_eq moved2 (f, t) ≡ Some n
    here f t e = up.0 (f, t) ∙ rw e refl

    there : (f t : ℕ) → pair_eq (first, key) (f, t) ≡ false → get pair_eq moved2 (f, t) ≡ get pair_eq moved (f, t)
    there f t e = up.0 (f, t) ∙ rw e refl

    own_pair : pair_eq (first, key) (first, key) ≡ true
    own_pair = rw (eq-eqb first first refl, eq-eqb key key refl) refl

    parts_here : (f t : ℕ) → pair_eq (first, key) (f, t) ≡ true → (first ≡ f) × (key ≡ t)
    parts_here f t e = let both = and_parts (nat_eq first f) (nat_eq key t) e in (eqb-true first f both.0, eqb-true key t both.1)

    found_early : (p : ℕ) → p < n → get_or keys (get_or firsts p 0) 0 ≢ get_or keys p 0 → get pair_eq moved2 (get_or firsts p 0, get_or keys p 0) ≡ Some (get_or parts p 0)
    found_early p k ne = by_case (pair_eq (first, key) (get_or firsts p 0, get_or keys p 0)) refl
      where
        by_case : (b : Bool) → pair_eq (first, key) (get_or firsts p 0, get_or keys p 0) ≡ b → get pair_eq moved2 (get_or firsts p 0, get_or keys p 0) ≡ Some (get_or parts p 0)
        by_case true e =
            let is = parts_here (get_or firsts p 0) (get_or keys p 0) e in
            let missing : get pair_eq moved (get_or firsts p 0, get_or keys p 0) ≡ None = subst (λ (i : ℕ). get pair_eq moved (i, get_or keys p 0) ≡ None) is.0 (subst (λ (i : ℕ). get pair_eq moved (first, i) ≡ None) is.1 none) in
            let at = h.found p k ne in
            absurd (let z : None ≡ Some (get_or parts p 0) = sym missing ∙ at in cc)
        by_case false e = there (get_or firsts p 0) (get_or keys p 0) e ∙ h.found p k ne

    stored_more : (f t c : ℕ) → get pair_eq moved2 (f, t) ≡ Some c → (c < n + 1) × (get_or (parts ++ n ∷ []) c 0 ≡ c) × (get_or firsts c 0 ≡ f) × (get_or keys c 0 ≡ t)
    stored_more f t c g = by_case (pair_eq (first, key) (f, t)) refl
      where
        by_case : (b : Bool) → pair_eq (first, key) (f, t) ≡ b → (c < n + 1) × (get_or (parts ++ n ∷ []) c 0 ≡ c) × (get_or firsts c 0 ≡ f) × (get_or keys c 0 ≡ t)
        by_case true e =
            let is = parts_here f t e in
            let i : c ≡ n = (let z : Some c ≡ Some n = sym g ∙ here f t e in cc) in
            (omega arith, at_last n c i ∙ sym i, ap (λ j. get_or firsts j 0) i ∙ is.0, ap (λ j. get_or keys j 0) i ∙ is.1)
        by_case false e = stored_on n f t c (sym (there f t e) ∙ g)

    push_added : AreMoved firsts keys (n + 1) moved2 (parts ++ n ∷ [])
    push_added = record {
      base = parts_push firsts keys n parts h.base n (omega arith) (λ l. absurd (omega arith)) refl refl;
      stayed = λ p l e. ⊎_elim (λ (k : p < n). kept_early n p k ∙ h.stayed p k e) (λ (k : p ≡ n). absurd (apart (subst (λ (i : ℕ). get_or keys (get_or firsts i 0) 0 ≡ get_or keys i 0) k e))) (last_or_early p n l);
      found = λ p l ne. ⊎_elim (λ (k : p < n). found_early p k ne ∙ ap (λ (i : ℕ). Some i) (sym (kept_early n p k)))
          (λ (k : p ≡ n). ap (λ (i : ℕ). get pair_eq moved2 (get_or firsts i 0, get_or keys i 0)) k ∙ here first key own_pair ∙ ap (λ (i : ℕ). Some i) (sym (at_last n p k))) (last_or_early p n l);
      stored = stored_more;
    }

  pub moved_push : (x : ℕ) (moved2 : HashMap (ℕ × ℕ) ℕ S) → IsPart keys first n x moved moved2 → AreMoved firsts keys (n + 1) moved2 (parts ++ x ∷ [])
  moved_push x moved2 (stays same e f) = rw (e, f) (push_stays same)
  moved_push x moved2 (known apart at f) = rw f (push_known x apart at)
  moved_push x moved2 (added apart none e up) = rw e (push_added moved2 apart none up)

pub moved_end : {S : Type 0} (firsts keys : List ℕ) (n : ℕ) (moved : HashMap (ℕ × ℕ) ℕ S) (parts : List ℕ) → AreMoved firsts keys n moved parts → n ≡ length firsts → AreSplit firsts keys parts
moved_end firsts keys n moved parts h all = record {
  same_length = h.base.count ∙ all;
  places = record {
    least = λ p l. h.base.least p (omega (arith, h.base.count));
    own = λ p l. h.base.own p (omega (arith, h.base.count));
  };
  same_first = λ p l. h.base.same_first p (omega arith);
  same_key = λ p l. h.base.same_key p (omega arith);
  together = λ p q a b e f. ⊎_elim
      (λ (s : (nat_eq (get_or keys (get_or firsts p 0) 0) (get_or keys p 0) ≡ true) × (get_or keys (get_or firsts p 0) 0 ≡ get_or keys p 0)).
      h.stayed p (omega arith) s.1 ∙ e ∙ sym (h.stayed q (omega arith) (ap (λ i. get_or keys i 0) (sym e) ∙ s.1 ∙ f)))
      (λ (s : (nat_eq (get_or keys (get_or firsts p 0) 0) (get_or keys p 0) ≡ false) × (get_or keys (get_or firsts p 0) 0 ≢ get_or keys p 0)).
      let at = h.found p (omega arith) s.1 in
      let there = h.found q (omega arith) (λ g. s.1 (ap (λ i. get_or keys i 0) e ∙ g ∙ sym f)) in
      let same : get pair_eq moved (get_or firsts p 0, get_or keys p 0) ≡ get pair_eq moved (get_or firsts q 0, get_or keys q 0) = rw (e, f) refl in
      let z : Some (get_or parts p 0) ≡ Some (get_or parts q 0) = sym at ∙ same ∙ there in cc)
      (eqb_tells (get_or keys (get_or firsts p 0) 0) (get_or keys p 0));
}
