-- Brackets that are easy to get wrong, each with the set that it spells, or none.
use Rattle.std.proofs.Common.{◌≡◌, ℕ, suc, ◌<◌, Bool, true, false, not, ◌||◌, IsTrue, IsFalse, List, [], ◌∷◌, ◌++◌, Option, Some, None, refl, codes, lit<, lit≤, ap, get_or, arith, sym, ◌∙◌}
use mathlib.Core.Bool.{xor}
use Rattle.lalrpop_re.specs.Text.{Text}
use Rattle.lalrpop_re.specs.CharacterSet.{Set, just, fold}
use Rattle.lalrpop_re.specs.Escape.{sign}
use Rattle.lalrpop_re.specs.Bracket.{Posix, a_class, a_complement, NoPosix, Primary, escaped, plain, Stands, a_character, a_set, Hyphens, last, more, Lead, hyphens, closing, none, Item, a_posix, a_bracket, a_primary, a_range, Operand, no_item, item_then, Operands, first, operated, Bracket, a_bracket_of, a_negated_of, Difference, Intersection, SymmetricDifference}
use Rattle.lalrpop_re.specs.Internal.Reading as reading
use Rattle.lalrpop_re.proofs.BracketLaws.{bracket_sound, Bracket-complete}
use Rattle.lalrpop_re.specs.declared.flags.Flags.{Flags}
use Rattle.lalrpop_re.specs.Flag.{no_flags}
use Rattle.lalrpop_re.proofs.Cases.CharacterSet.{other_case_is_folded, other_letter_is_not_folded}

-- a set that a whole bracket spells, which passes a test
abbrev Spells : List ℕ → (Set → Type 0) → Type 0
Spells text P = (s : Set) × (d : ℕ) × Bracket no_flags text [] s d × P s

-- a character as an item alone
alone_at : {c : ℕ} {r : Text} → IsTrue (Rattle.lalrpop_re.specs.Bracket.begins_primary (c ∷ r)) → IsFalse (Rattle.lalrpop_re.specs.CharacterSet.is_one_of "\\" c) → IsFalse (Rattle.lalrpop_re.specs.Bracket.begins_range r) → Item no_flags (c ∷ r) r (λ d. Rattle.std.proofs.Common.nat_eq d c) 0
alone_at p q n = a_primary p (plain q) n a_character

-- `[+--]`: `+`, and the empty operand taken away
plus_less_nothing : Spells (codes "[+--]") (λ s. (s 43 ≡ true) × (s 45 ≡ false))
plus_less_nothing = (_, _, a_bracket_of refl (operated Difference (first (none refl refl) (item_then (alone_at refl refl refl) (no_item refl))) (no_item refl)), (refl, refl))

-- `[a--b]`
a_less_b : Spells (codes "[a--b]") (λ s. (s 97 ≡ true) × (s 98 ≡ false) × (s 45 ≡ false))
a_less_b = (_, _, a_bracket_of refl (operated Difference (first (none refl refl) (item_then (alone_at refl refl refl) (no_item refl))) (item_then (alone_at refl refl refl) (no_item refl))), (refl, refl, refl))

-- `[--a]`
hyphens_lead : Spells (codes "[--a]") (λ s. (s 97 ≡ true) × (s 45 ≡ true) × (s 46 ≡ false))
hyphens_lead = (_, _, a_bracket_of refl (first (hyphens (more (last refl))) (item_then (alone_at refl refl refl) (no_item refl))), (refl, refl, refl))

-- `[]-a]`
closing_bracket_leads : Spells (codes "[]-a]") (λ s. (s 97 ≡ true) × (s 45 ≡ true) × (s 93 ≡ true) × (s 94 ≡ false))
closing_bracket_leads = (_, _, a_bracket_of refl (first closing (item_then (alone_at refl refl refl) (item_then (alone_at refl refl refl) (no_item refl)))), (refl, refl, refl, refl))

-- `[!-[]`
range_up_to_a_bracket : Spells (codes "[!-[]") (λ s. (s 33 ≡ true) × (s 91 ≡ true) × (s 92 ≡ false))
range_up_to_a_bracket = (_, _, a_bracket_of refl (first (none refl refl) (item_then (a_range refl (plain refl) refl (plain refl) (lit≤ tt)) (no_item refl))), (refl, refl, refl))

-- `[a-]`
hyphen_at_the_end : Spells (codes "[a-]") (λ s. (s 97 ≡ true) × (s 45 ≡ true) × (s 93 ≡ false))
hyphen_at_the_end = (_, _, a_bracket_of refl (first (none refl refl) (item_then (alone_at refl refl refl) (item_then (alone_at refl refl refl) (no_item refl)))), (refl, refl, refl))

-- `[a&&]`
a_and_nothing : Spells (codes "[a&&]") (λ s. s 97 ≡ false)
a_and_nothing = (_, _, a_bracket_of refl (operated Intersection (first (none refl refl) (item_then (alone_at refl refl refl) (no_item refl))) (no_item refl)), refl)

-- `[ab~~bc]`: what is in one of the operands alone
in_one_operand_alone : Spells (codes "[ab~~bc]") (λ s. (s 97 ≡ true) × (s 98 ≡ false) × (s 99 ≡ true) × (s 126 ≡ false))
unfolding xor
in_one_operand_alone = (
  _,
  _,
  a_bracket_of refl (operated SymmetricDifference (first (none refl refl) (item_then (alone_at refl refl refl) (item_then (alone_at refl refl refl) (no_item refl))))
      (item_then (alone_at refl refl refl) (item_then (alone_at refl refl refl) (no_item refl)))),
  (refl, refl, refl, refl),
)

-- `[!-&&b]`: at the far end of a range `&` stands for itself, and so does the one after it
range_up_to_an_ampersand : Spells (codes "[!-&&b]") (λ s. (s 33 ≡ true) × (s 34 ≡ true) × (s 38 ≡ true) × (s 98 ≡ true) × (s 97 ≡ false))
range_up_to_an_ampersand = (
  _,
  _,
  a_bracket_of refl (first (none refl refl) (item_then (a_range refl (plain refl) refl (plain refl) (lit≤ tt)) (item_then (alone_at refl refl refl) (item_then (alone_at refl refl refl) (no_item refl))))),
  (refl, refl, refl, refl, refl),
)

-- ---- under the flag `i`

abbrev folding : Flags
folding = record no_flags { case_insensitive = true }

-- `[a]` has `A` too, and no other letter
folded_item : (s : Set) × (d : ℕ) × Bracket folding (codes "[a]") [] s d × (s 65 ≡ true) × ¬ (s 98 ≡ true)
folded_item = (
  _,
  _,
  a_bracket_of refl (first (none refl refl) (item_then (a_primary refl (plain refl) refl a_character) (no_item refl))),
  either (fold (just 97) 65) other_case_is_folded,
  λ h. other_letter_is_not_folded (alone (fold (just 97) 98) h),
)
  where
    either : (b : Bool) → b ≡ true → (b || false) ≡ true
    either true h = refl
    either false h = h

    alone : (b : Bool) → (b || false) ≡ true → b ≡ true
    alone true h = refl
    alone false h = h

-- `[^a]` has neither, since the complement is taken last
complement_of_folded_item : (s : Set) × (d : ℕ) × Bracket folding (codes "[^a]") [] s d × (s 65 ≡ false)
complement_of_folded_item = (
  _,
  _,
  a_negated_of (first (none refl refl) (item_then (a_primary refl (plain refl) refl a_character) (no_item refl))),
  neither (fold (just 97) 65) other_case_is_folded,
)
  where
    neither : (b : Bool) → b ≡ true → (not (b || false)) ≡ false
    neither true h = refl
    neither false h = absurd cc

-- `[[a]-c]`
no_posix_a : NoPosix (codes "[a]-c]")
no_posix_a r s negated h = starts _ _ _ _ h refl
  where
    starts : (t r : Text) (s : Set) (n : Bool) → Posix t r s n → t ≡ codes "[a]-c]" → ⊥
    starts t r s n (a_class name l e) same = let k : ◌≡◌ {A = ℕ} 58 97 = ap (λ u. get_or u 1 0) same in omega arith
    starts t r s n (a_complement name l e) same = let k : ◌≡◌ {A = ℕ} 58 97 = ap (λ u. get_or u 1 0) same in omega arith

nested_bracket_begins_no_range : Spells (codes "[[a]-c]") (λ s. (s 97 ≡ true) × (s 45 ≡ true) × (s 99 ≡ true) × (s 98 ≡ false))
nested_bracket_begins_no_range = (
  _,
  _,
  a_bracket_of refl (first (none refl refl) (item_then (a_bracket no_posix_a (a_bracket_of refl (first (none refl refl) (item_then (alone_at refl refl refl) (no_item refl)))))
      (item_then (alone_at refl refl refl) (item_then (alone_at refl refl refl) (no_item refl))))),
  (refl, refl, refl, refl),
)

-- ---- by computing the reader, which finds exactly what is spelled

-- `[\d-x]` spells no set
set_as_an_end_of_a_range : (r : Text) (s : Set) (d : ℕ) → Bracket no_flags (codes "[\\d-x]") r s d → ⊥
unfolding reading.bracket reading.bracket_with reading.operands reading.lead reading.operand reading.item reading.item_or reading.posix reading.simple_item reading.primary reading.escape reading.signed sign
set_as_an_end_of_a_range r s d b =
    let none : reading.bracket no_flags (suc d) (codes "[\\d-x]") ≡ None = refl in
    let k : ◌≡◌ {A = Option reading.SetPart} (Some (record { set = s; depth = d; rest = r })) None = sym (Bracket-complete b (suc d) (omega arith)) ∙ none in
    absurd cc

-- `[a-&&b]` spells no set: `a-&` is a range with its ends reversed
range_down_to_an_ampersand : (r : Text) (s : Set) (d : ℕ) → Bracket no_flags (codes "[a-&&b]") r s d → ⊥
unfolding reading.bracket reading.bracket_with reading.operands reading.lead reading.operand reading.item reading.item_or reading.posix reading.simple_item reading.primary
range_down_to_an_ampersand r s d b =
    let none : reading.bracket no_flags (suc d) (codes "[a-&&b]") ≡ None = refl in
    let k : ◌≡◌ {A = Option reading.SetPart} (Some (record { set = s; depth = d; rest = r })) None = sym (Bracket-complete b (suc d) (omega arith)) ∙ none in
    absurd cc

-- `[[:foo:]]`: no class has that name, so a bracket begins, and `]` follows it
no_posix_class_of_this_name : Spells (codes "[[:foo:]]") (λ s. (s 58 ≡ true) × (s 102 ≡ true) × (s 111 ≡ true) × (s 97 ≡ false))
unfolding reading.bracket reading.bracket_with reading.operands reading.lead reading.operand reading.item reading.item_or reading.posix reading.posix_named reading.simple_item reading.primary reading.operations reading.operator_of
no_posix_class_of_this_name = (_, _, (bracket_sound no_flags 2 (codes "[[:foo:]]") _ refl).0, (refl, refl, refl, refl))

-- `[[:digit:]]`
posix_class_in_brackets : Spells (codes "[[:digit:]]") (λ s. (s 48 ≡ true) × (s 57 ≡ true) × (s 97 ≡ false) × (s 58 ≡ false))
posix_class_in_brackets = (_, _, a_bracket_of refl (first (none refl refl) (item_then (a_posix (a_class (codes "digit") refl refl)) (no_item refl))), (refl, refl, refl, refl))

-- `[^a]` has every other scalar value, and no surrogate
negated_bracket : Spells (codes "[^a]") (λ s. (s 97 ≡ false) × (s 98 ≡ true) × (s 0xD800 ≡ false))
negated_bracket = (_, _, a_negated_of (first (none refl refl) (item_then (alone_at refl refl refl) (no_item refl))), (refl, refl, refl))
