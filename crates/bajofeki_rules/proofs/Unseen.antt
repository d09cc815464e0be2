-- The characters of ASCII that are seen.
use Rattle.std.proofs.Common.{◌≡◌, ℕ, ◌<◌, ◌≤◌, Bool, true, false, List, [], ◌∷◌, zero, suc, inl, inr, refl, sym, subst, ◌∙◌, arith}
use Rattle.std.specs.Prelude.{nat_le, ◌==◌, ◌||◌, ◌&&◌, not}
use Rattle.std.specs.Char.{is_control}
use Rattle.std.specs.List.{list_all}
use Rattle.std.proofs.lemmas.Bool.{and_parts, leb-true, lt-leb, ne_eqb, not-true}
use Rattle.std.proofs.lemmas.Bool.Decides.{eqb_tells, nat_tests}
use Rattle.unicode.specs.Binary.{is_default_ignorable_code_point}
use Rattle.unicode.specs.Rows.{Range, in_ranges}
use Rattle.ucd_category.proofs.Computing.{ucd_category}
use Rattle.ucd_category.specs.GeneralCategory.{general_category, general_category_eq}
use Rattle.ucd_category.specs.declared.GeneralCategory.TheVariants.{Unassigned}
use Rattle.ucd_derived.specs.DefaultIgnorableCodePointRanges.{default_ignorable_code_point_ranges}
use Rattle.bajofeki_rules.specs.Quoted.{is_unseen}

-- no range begins before n
below_all : (n c : ℕ) (rs : List Range) → c < n → list_all (λ r. nat_le n r.0) rs ≡ true → in_ranges rs c ≡ false
unfolding in_ranges
below_all n c [] below all = refl
below_all n c (r ∷ rs) below all =
    let parts = and_parts (nat_le n r.0) (list_all (λ (s : Range). nat_le n s.0) rs) all in
    let low : n ≤ r.0 = leb-true n r.0 parts.0 in
    let outside : nat_le r.0 c ≡ false = lt-leb r.0 c (omega (arith, low, below)) in
    rw outside (below_all n c rs below parts.1)

not_ignorable : (c : ℕ) → c < 128 → is_default_ignorable_code_point c ≡ false
unfolding is_default_ignorable_code_point default_ignorable_code_point_ranges
not_ignorable c small = below_all 128 c default_ignorable_code_point_ranges small refl

abbrev is_unassigned : ℕ → Bool
is_unassigned c = general_category_eq (general_category c) Unassigned

-- none of the first n
none_below : ℕ → Bool
none_below zero = true
none_below (suc n) = not (is_unassigned n) && none_below n

of_none : (n c : ℕ) → none_below n ≡ true → c < n → is_unassigned c ≡ false
unfolding none_below
of_none zero c none below = absurd (omega (arith, below))
of_none (suc n) c none below =
    let parts = and_parts (not (is_unassigned n)) (none_below n) none in
    elim (eqb_tells c n) [
      | inl same ↦ subst (λ (k : ℕ). is_unassigned k ≡ false) (sym same.1) (not-true (is_unassigned n) parts.0)
      | inr other ↦ of_none n c parts.1 (omega (arith, below, other.1))
    ]

ascii_is_assigned : none_below 128 ≡ true
unfolding none_below ucd_category
ascii_is_assigned = refl

-- of the characters of ASCII control characters alone are unseen
pub unseen_in_ascii : (c : ℕ) → c < 128 → is_unseen c ≡ is_control c
unseen_in_ascii c small = by (is_control c)
  where
    by : (control : Bool) → (control || c == 8232 || c == 8233 || is_default_ignorable_code_point c || is_unassigned c) ≡ control
    by true = refl
    by false = rw (ne_eqb c 8232 (λ e. omega (arith, e, small)), ne_eqb c 8233 (λ e. omega (arith, e, small)), not_ignorable c small, of_none 128 c ascii_is_assigned small) refl

pub seen_in_ascii : (c : ℕ) → 32 ≤ c → c < 127 → is_unseen c ≡ false
seen_in_ascii c low high = let none : is_control c ≡ false = grind (arith, nat_tests) in unseen_in_ascii c (omega (arith, high)) ∙ none
