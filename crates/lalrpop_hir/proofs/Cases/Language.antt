-- Cases of specs/Language.antt.
use Rattle.std.proofs.Common.{◌≡◌, ℕ, zero, suc, inl, inr, List, [], ◌∷◌, ◌++◌, length, Bool, true, Some, None, refl, ap, arith, length-append}
use Rattle.lalrpop_hir.specs.Tree.{Class, unicode, bytes, Tree, empty, literal, class, look, repetition, capture, concat, alternation, none, also}
use Rattle.lalrpop_hir.specs.Language.{Then, Power, Holds, IsCount, Matches}
use Rattle.lalrpop_hir.specs.declared.look.Look.TheVariants.{Start}

abbrev a : Tree
a = literal (97 ∷ [])

abbrev b : Tree
b = literal (98 ∷ [])

-- a-c
abbrev a_to_c : Class
a_to_c = unicode (record { start = 97; end = 99 } ∷ [])

-- ---- words after one another

-- `ab` is `a`, and then `b`
a_then_b : Then (Matches a) (Matches b) (97 ∷ 98 ∷ [])
a_then_b = (97 ∷ [], 98 ∷ [], (refl, refl, refl))

-- `a` alone isn't
a_without_b : ¬ Then (Matches a) (Matches b) (97 ∷ [])
a_without_b h =
    let whole : 1 ≡ length (h.0 ++ h.1) = ap length h.2.0 in
    let one : length h.0 ≡ 1 = ap length h.2.1 in
    let two : length h.1 ≡ 1 = ap length h.2.2 in
    omega (arith, whole, length-append h.0 h.1, one, two)

-- a row of no words is the empty word
zero_words : Power 0 (Matches a) []
zero_words = refl

zero_words_are_not_one : ¬ Power 0 (Matches a) (97 ∷ [])
zero_words_are_not_one h = absurd (cc)

-- a row of two words
two_words : Power 2 (Matches a) (97 ∷ 97 ∷ [])
two_words = (97 ∷ [], 97 ∷ [], (refl, refl, (97 ∷ [], [], (refl, refl, refl))))

-- k times `a` has k characters
length_of_turns : (k : ℕ) (w : List ℕ) → Power k (Matches a) w → length w ≡ k
length_of_turns zero w h = ap length h
length_of_turns (suc k) w h =
    let rest = length_of_turns k h.1 h.2.2 in
    let first : length h.0 ≡ 1 = ap length h.2.1 in
    let whole : length w ≡ length (h.0 ++ h.1) = ap length h.2.0 in
    omega (arith, whole, length-append h.0 h.1, first, rest)

two_words_are_not_three : ¬ Power 2 (Matches a) (97 ∷ 97 ∷ 97 ∷ [])
two_words_are_not_three h = let n = length_of_turns 2 (97 ∷ 97 ∷ 97 ∷ []) h in omega (arith, n)

-- ---- classes and counts

-- a class of either kind holds the values of its ranges
class_holds_its_end : Holds a_to_c 99 × Holds (bytes (record { start = 97; end = 99 } ∷ [])) 99
class_holds_its_end = (inl (omega arith, omega arith), inl (omega arith, omega arith))

class_does_not_hold_the_next_value : ¬ Holds a_to_c 100
class_does_not_hold_the_next_value (inl h) = omega (arith, h.1)
class_does_not_hold_the_next_value (inr h) = h

-- `{2,3}`: two and three, not one and not four
two_and_three_are_counts : IsCount 2 (Some 3) 2 × IsCount 2 (Some 3) 3
two_and_three_are_counts = ((omega arith, omega arith), (omega arith, omega arith))

one_and_four_are_no_counts : (¬ IsCount 2 (Some 3) 1) × (¬ IsCount 2 (Some 3) 4)
one_and_four_are_no_counts = ((λ h. omega (arith, h.0)), (λ h. omega (arith, h.1)))

-- `{2,}`: nine, and not one
counts_without_a_limit : IsCount 2 None 9 × (¬ IsCount 2 None 1)
counts_without_a_limit = (omega arith, λ h. omega arith)

-- ---- trees

-- the empty tree matches only the empty word
empty_tree_matches_the_empty_word : Matches empty []
empty_tree_matches_the_empty_word = refl

empty_tree_does_not_match_a : ¬ Matches empty (97 ∷ [])
empty_tree_does_not_match_a h = absurd (cc)

-- a literal matches its own characters, and no part of them
literal_matches_itself : Matches (literal (97 ∷ 98 ∷ [])) (97 ∷ 98 ∷ [])
literal_matches_itself = refl

literal_does_not_match_its_prefix : ¬ Matches (literal (97 ∷ 98 ∷ [])) (97 ∷ [])
literal_does_not_match_its_prefix h = absurd (cc)

-- a class matches one value of its ranges
class_matches_one_value : Matches (class a_to_c) (98 ∷ [])
class_matches_one_value = (98, (refl, inl (omega arith, omega arith)))

class_does_not_match_another_value : ¬ Matches (class a_to_c) (100 ∷ [])
class_does_not_match_another_value (c, (e, inl h)) = let same : 100 ≡ c = cc in omega (arith, same, h.1)
class_does_not_match_another_value (c, (e, inr h)) = h

class_does_not_match_two_values : ¬ Matches (class a_to_c) (97 ∷ 98 ∷ [])
class_does_not_match_two_values h = let e : 97 ∷ 98 ∷ [] ≡ h.0 ∷ [] = h.1.0 in absurd (cc)

class_does_not_match_the_empty_word : ¬ Matches (class a_to_c) []
class_does_not_match_the_empty_word h = let e : [] ≡ h.0 ∷ [] = h.1.0 in absurd (cc)

-- a look matches no word, not even the empty one
look_matches_nothing : (w : List ℕ) → ¬ Matches (look Start) w
look_matches_nothing w h = h

-- `a{2,3}` matches `aa`, and neither `a` nor `aaaa`
repetition_matches_its_least_number : Matches (repetition 2 (Some 3) true a) (97 ∷ 97 ∷ [])
repetition_matches_its_least_number = (2, ((omega arith, omega arith), two_words))

repetition_does_not_match_too_few : ¬ Matches (repetition 2 (Some 3) true a) (97 ∷ [])
repetition_does_not_match_too_few m = omega (arith, m.1.0.0, length_of_turns m.0 (97 ∷ []) m.1.1)

repetition_does_not_match_too_many : ¬ Matches (repetition 2 (Some 3) true a) (97 ∷ 97 ∷ 97 ∷ 97 ∷ [])
repetition_does_not_match_too_many m = omega (arith, m.1.0.1, length_of_turns m.0 (97 ∷ 97 ∷ 97 ∷ 97 ∷ []) m.1.1)

-- `a*` matches the empty word, greedy or lazy
any_number_matches_the_empty_word : (greedy : Bool) → Matches (repetition 0 None greedy a) []
any_number_matches_the_empty_word greedy = (0, (omega arith, refl))

-- `a+` doesn't
one_or_more_does_not_match_the_empty_word : ¬ Matches (repetition 1 None true a) []
one_or_more_does_not_match_the_empty_word m = omega (arith, m.1.0, length_of_turns m.0 [] m.1.1)

-- a group matches what it holds, with or without a name
group_matches_what_it_holds : Matches (capture None a) (97 ∷ []) × Matches (capture (Some (110 ∷ [])) a) (97 ∷ [])
group_matches_what_it_holds = (refl, refl)

group_does_not_match_another_word : ¬ Matches (capture None a) []
group_does_not_match_another_word h = absurd (cc)

-- `a` and `b` one after another match `ab`, and not `a`
concatenation_matches_its_parts_in_turn : Matches (concat (also a (also b none))) (97 ∷ 98 ∷ [])
concatenation_matches_its_parts_in_turn = (97 ∷ [], 98 ∷ [], (refl, refl, (98 ∷ [], [], (refl, refl, refl))))

concatenation_does_not_match_one_part : ¬ Matches (concat (also a (also b none))) (97 ∷ [])
concatenation_does_not_match_one_part h =
    let whole : 1 ≡ length (h.0 ++ h.1) = ap length h.2.0 in
    let rest : length h.1 ≡ length (h.2.2.0 ++ h.2.2.1) = ap length h.2.2.2.0 in
    let one : length h.0 ≡ 1 = ap length h.2.1 in
    let two : length h.2.2.0 ≡ 1 = ap length h.2.2.2.1 in
    omega (arith, whole, length-append h.0 h.1, rest, length-append h.2.2.0 h.2.2.1, one, two)

-- `a` or `b` matches `b`, and not `ab`
alternation_matches_a_later_branch : Matches (alternation (also a (also b none))) (98 ∷ [])
alternation_matches_a_later_branch = inr (inl refl)

alternation_does_not_match_both : ¬ Matches (alternation (also a (also b none))) (97 ∷ 98 ∷ [])
alternation_does_not_match_both (inl h) = absurd (cc)
alternation_does_not_match_both (inr (inl h)) = absurd (cc)
alternation_does_not_match_both (inr (inr h)) = h
