-- Cases of specs/Size.antt: how many states the automata need, but for three.
use Rattle.std.proofs.Common.{◌≡◌, [], ◌∷◌, true, Some, None, refl}
use Rattle.lalrpop_hir.specs.Tree.{Tree, literal, class, unicode, repetition, concat, alternation, none, also}
use Rattle.lalrpop_hir.specs.Size.{repeated_size, size}

abbrev a : Tree
a = literal (97 ∷ [])

abbrev b : Tree
b = literal (98 ∷ [])

-- one for each character
size_of_a_literal : size (literal (97 ∷ 98 ∷ 99 ∷ [])) ≡ 3
size_of_a_literal = refl

-- a class one, however many ranges it has
size_of_a_class : size (class (unicode (record { start = 97; end = 99 } ∷ record { start = 120; end = 122 } ∷ []))) ≡ 1
size_of_a_class = refl

-- `a|b`: one more than its branches
size_of_an_alternation : size (alternation (also a (also b none))) ≡ 3
size_of_an_alternation = refl

-- `ab`, of two parts
size_of_a_concatenation : size (concat (also a (also b none))) ≡ 2
size_of_a_concatenation = refl

-- `b{2,4}`: four copies, two of which can be left out
size_of_two_to_four : size (repetition 2 (Some 4) true b) ≡ 6
size_of_two_to_four = refl

-- `b{3,}`: four copies, the last of them in a loop
size_of_three_or_more : size (repetition 3 None true b) ≡ 5
size_of_three_or_more = refl

-- `b*` and `b+`: one copy
size_of_any_number : repeated_size 0 None 1 ≡ 2
size_of_any_number = refl

size_of_one_or_more : repeated_size 1 None 1 ≡ 2
size_of_one_or_more = refl

-- `b{0}`
size_of_no_turns : size (repetition 0 (Some 0) true b) ≡ 0
size_of_no_turns = refl
