-- Numbers without repetition: those that are found, and those that are left and not found yet.
use Rattle.std.proofs.Common.{◌≡◌, ℕ, ◌+◌, ◌<◌, Bool, true, false, cond, List, [], ◌∷◌, ◌++◌, length, drop, get_or, map, refl, sym, ap, subst, ◌∙◌, append_assoc, eqb-true}
use Rattle.std.specs.Prelude.{◌==◌, not, ◌&&◌, ◌||◌, filter}
use Rattle.std.specs.List.{list_any}
use Rattle.std.proofs.lemmas.Bool.{false≢true}
use Rattle.std.proofs.lemmas.List.{at_drop_more}
use Rattle.std.proofs.lemmas.List.Elements.{filter_agree}
use Rattle.std.proofs.lemmas.List.Folds.{list_any-append}
use Rattle.lalrpop_hir.specs.Range.{Range}
use Rattle.lalrpop_verdicts.specs.Internal.Targets.{with_new}
use Rattle.lalrpop_verdicts.specs.Picture.{distinct, targets}

abbrev is_found : List ℕ → ℕ → Bool
is_found found n = list_any (λ m. m == n) found

-- those that aren't found yet
abbrev pub fresh : List ℕ → List ℕ → List ℕ
fresh found xs = filter (λ n. not (list_any (λ m. m == n) found)) xs

filter_filter : (p r : ℕ → Bool) (xs : List ℕ) → filter p (filter r xs) ≡ filter (λ n. r n && p n) xs
filter_filter p r [] = refl
filter_filter p r (x ∷ xs) = by_test (filter_filter p r xs) (r x)
  where
    by_test : filter p (filter r xs) ≡ filter (λ n. r n && p n) xs → (b : Bool)
        → filter p (cond b (x ∷ filter r xs) (filter r xs)) ≡ cond (b && p x) (x ∷ filter (λ n. r n && p n) xs) (filter (λ n. r n && p n) xs)
    by_test rest true = ap (λ (ys : List ℕ). cond (p x) (x ∷ ys) ys) rest
    by_test rest false = rest

both : (a e : Bool) → not (a || (e || false)) ≡ (not e && not a)
both true true = refl
both true false = refl
both false true = refl
both false false = refl

found_before : (a e : Bool) → (e ≡ true → a ≡ true) → not a ≡ (not e && not a)
found_before true true h = refl
found_before true false h = refl
found_before false true h = absurd (false≢true (h refl))
found_before false false h = refl

module _ (found : List ℕ) (q : ℕ) where
  fresh_more : (xs : List ℕ) → fresh (found ++ q ∷ []) xs ≡ fresh found (filter (λ n. not (q == n)) xs)
  fresh_more xs =
      filter_agree (λ n. not (is_found (found ++ q ∷ []) n)) (λ n. not (q == n) && not (is_found found n))
      (λ n. ap not (list_any-append (λ m. m == n) found (q ∷ [])) ∙ both (is_found found n) (q == n)) xs
      ∙ sym (filter_filter (λ n. not (is_found found n)) (λ n. not (q == n)) xs)

  fresh_same : is_found found q ≡ true → (xs : List ℕ) → fresh found xs ≡ fresh found (filter (λ n. not (q == n)) xs)
  fresh_same h xs =
      filter_agree (λ n. not (is_found found n)) (λ n. not (q == n) && not (is_found found n))
      (λ n. found_before (is_found found n) (q == n) (λ e. subst (λ (m : ℕ). is_found found m ≡ true) (eqb-true q n e) h)) xs
      ∙ sym (filter_filter (λ n. not (is_found found n)) (λ n. not (q == n)) xs)

  -- once the next number is among those found, the rest is the same
  pub found_turn : (qs found2 : List ℕ) → found2 ≡ with_new found q → found2 ++ fresh found2 (distinct qs) ≡ found ++ fresh found (distinct (q ∷ qs))
  found_turn qs found2 is = by_test (is_found found q) refl
    where
      by_test : (b : Bool) → is_found found q ≡ b → found2 ++ fresh found2 (distinct qs) ≡ found ++ fresh found (q ∷ filter (λ n. not (q == n)) (distinct qs))
      by_test true e =
          let same : found2 ≡ found = is ∙ rw e refl in
          let skipped : fresh found (q ∷ filter (λ n. not (q == n)) (distinct qs)) ≡ fresh found (filter (λ n. not (q == n)) (distinct qs)) = rw e refl in
          ap (λ (u : List ℕ). u ++ fresh u (distinct qs)) same ∙ ap (λ (u : List ℕ). found ++ u) (fresh_same e (distinct qs) ∙ sym skipped)
      by_test false e =
          let more : found2 ≡ found ++ q ∷ [] = is ∙ rw e refl in
          let kept : fresh found (q ∷ filter (λ n. not (q == n)) (distinct qs)) ≡ q ∷ fresh found (filter (λ n. not (q == n)) (distinct qs)) = rw e refl in
          ap (λ (u : List ℕ). u ++ fresh u (distinct qs)) more ∙ append_assoc found (q ∷ []) (fresh (found ++ q ∷ []) (distinct qs))
          ∙ ap (λ (u : List ℕ). found ++ u) (ap (λ (u : List ℕ). q ∷ u) (fresh_more (distinct qs)) ∙ sym kept)

-- ---- one test more
abbrev pub left_of : List ℕ → List (Range × ℕ) → ℕ → List ℕ
left_of found tests other = found ++ fresh found (distinct (map (λ t. t.1) tests ++ other ∷ []))

pub none_found : (tests : List (Range × ℕ)) (other : ℕ) → left_of [] tests other ≡ targets tests other
none_found tests other = all_fresh (distinct (map (λ t. t.1) tests ++ other ∷ []))
  where
    all_fresh : (xs : List ℕ) → fresh [] xs ≡ xs
    all_fresh [] = refl
    all_fresh (x ∷ xs) = ap (λ (ys : List ℕ). x ∷ ys) (all_fresh xs)

pub test_turn : (tests : List (Range × ℕ)) (other i : ℕ) (t : Range × ℕ) (found found2 whole : List ℕ) → i < length tests → found2 ≡ with_new found (get_or tests i t).1
    → left_of found (drop i tests) other ≡ whole → left_of found2 (drop (i + 1) tests) other ≡ whole
test_turn tests other i t found found2 whole l is was =
    found_turn found (get_or tests i t).1 (map (λ u. u.1) (drop (i + 1) tests) ++ other ∷ []) found2 is
    ∙ sym (at_drop_more (λ (ts : List (Range × ℕ)). left_of found ts other) tests i t l) ∙ was
