-- Cases of specs/CharacterSet.antt.
use Rattle.std.proofs.Common.{◌≡◌, ℕ, inl, [], ◌∷◌, true, false, refl, sym, subst, ◌∙◌, eqb-true, arith}
use Rattle.std.specs.Char.{to_ascii_lowercase}
use Rattle.std.proofs.lemmas.Bool.Decides.{nat_tests}
use Rattle.unicode.specs.CaseFolding.{simple_fold}
use Rattle.ucd_case.proofs.CaseFoldingLemmas.{simple_fold-ascii}
use Rattle.lalrpop_hir.specs.Range.{Range, Covered}
use Rattle.lalrpop_re.specs.CharacterSet.{is_scalar, nothing, just, is_one_of, range, union, union_all, complement, some_below, fold, with_least, runs_below, canon}
use Rattle.lalrpop_re.proofs.CanonLaws.{HasRuns-canon}
use Rattle.lalrpop_re.proofs.FoldLaws.{fold-is}

-- the range from the first value to the second
abbrev between : ℕ → ℕ → Range
between s e = record { start = s; end = e }

-- the values beside the surrogates are scalar values, the surrogates aren't, and U+10FFFF is the last one
scalar_values : (is_scalar 0xD7FF ≡ true) × (is_scalar 0xD800 ≡ false) × (is_scalar 0xDFFF ≡ false) × (is_scalar 0xE000 ≡ true)
    × (is_scalar 0x10FFFF ≡ true) × (is_scalar 0x110000 ≡ false)
scalar_values = (refl, refl, refl, refl, refl, refl)

-- one character
set_of_one_character : (just 97 97 ≡ true) × (just 97 98 ≡ false) × (nothing 97 ≡ false)
set_of_one_character = (refl, refl, refl)

-- some characters
set_of_some_characters : (is_one_of "ab" 98 ≡ true) × (is_one_of "ab" 99 ≡ false) × (is_one_of "" 97 ≡ false)
set_of_some_characters = (refl, refl, refl)

-- a range has both its ends, and no surrogate
set_of_a_range : (range 97 99 97 ≡ true) × (range 97 99 99 ≡ true) × (range 97 99 100 ≡ false) × (range 0 0x10FFFF 0xD800 ≡ false)
set_of_a_range = (refl, refl, refl, refl)

-- a union has what one of the sets has
set_of_some_sets : (union (just 97) (just 98) 98 ≡ true) × (union_all (just 97 ∷ just 98 ∷ []) 98 ≡ true)
    × (union_all (just 97 ∷ just 98 ∷ []) 99 ≡ false) × (union_all [] 97 ≡ false)
set_of_some_sets = (refl, refl, refl, refl)

-- a complement has all other scalar values, and no surrogate
set_of_all_others : (complement (just 97) 98 ≡ true) × (complement (just 97) 97 ≡ false) × (complement (just 97) 0xD800 ≡ false)
set_of_all_others = (refl, refl, refl)

-- below 3 lies 2, and not 3
some_value_below : (some_below 3 (just 2) ≡ true) × (some_below 3 (just 3) ≡ false)
unfolding some_below
some_value_below = (refl, refl)

-- ---- folding

-- `A` has the folding of `a`
pub other_case_is_folded : fold (just 97) 65 ≡ true
other_case_is_folded = (fold-is (just 97) 65 (inl (omega arith))).1 (97, inl (omega arith), refl, simple_fold-ascii 97 (omega arith) ∙ sym (simple_fold-ascii 65 (omega arith)))

-- `b` hasn't
pub other_letter_is_not_folded : ¬ (fold (just 97) 98 ≡ true)
other_letter_is_not_folded h =
    let found = (fold-is (just 97) 98 (inl (omega arith))).0 h in
    by_value found.0 (eqb-true found.0 97 found.2) (subst (λ d. simple_fold d ≡ simple_fold 98) (eqb-true found.0 97 found.2) found.3)
  where
    by_value : (d : ℕ) → d ≡ 97 → simple_fold 97 ≡ simple_fold 98 → ⊥
    by_value d e f =
        let same : to_ascii_lowercase 97 ≡ to_ascii_lowercase 98 = sym (simple_fold-ascii 97 (omega arith)) ∙ f ∙ simple_fold-ascii 98 (omega arith) in
        let n : 97 ≡ 98 = same in
        omega (arith, n)

-- ---- runs

-- a neighbour makes the first run longer, another value begins a run
least_member_of_a_run : (with_least 97 (between 98 99 ∷ []) ≡ between 97 99 ∷ []) × (with_least 96 (between 98 99 ∷ []) ≡ between 96 96 ∷ between 98 99 ∷ [])
least_member_of_a_run = (refl, refl)

-- the value before the surrogates is a neighbour of the one after them
least_member_before_the_surrogates : with_least 0xD7FF (between 0xE000 0xE000 ∷ []) ≡ between 0xD7FF 0xE000 ∷ []
least_member_before_the_surrogates = refl

-- the runs of 0, 1 and 3, and of the first two of them
runs_of_some_values : (runs_below 5 (union_all (just 0 ∷ just 1 ∷ just 3 ∷ [])) [] ≡ between 0 1 ∷ between 3 3 ∷ [])
    × (runs_below 3 (union_all (just 0 ∷ just 1 ∷ just 3 ∷ [])) [] ≡ between 0 1 ∷ [])
unfolding runs_below
runs_of_some_values = (refl, refl)

-- a-c has one run
runs_of_a_range : between 97 99 ∷ [] ≡ canon (range 97 99)
runs_of_a_range = HasRuns-canon (between 97 99 ∷ []) (range 97 99) ((omega arith, (inl (omega arith), inl (omega arith), tt)), λ c s. (to c, from c))
  where
    to : (c : ℕ) → range 97 99 c ≡ true → Covered (between 97 99 ∷ []) c
    to c h = grind (arith, nat_tests)

    from : (c : ℕ) → Covered (between 97 99 ∷ []) c → range 97 99 c ≡ true
    from c h = grind (arith, nat_tests)
