-- Cases of specs/Operator.antt.
use Rattle.std.proofs.Common.{◌≡◌, ℕ, [], Bool, true, false, Option, Some, None, codes, refl, sym, ap, ◌∙◌, lit<, lit≤}
use Rattle.lalrpop_re.specs.Text.{Text}
use Rattle.lalrpop_re.specs.Flag.{no_flags}
use Rattle.lalrpop_re.specs.Operator.{decimal, Count, count, Bounds, any_number, between, Operator, alone, turned}
use Rattle.lalrpop_re.specs.Internal.Reading as reading
use Rattle.lalrpop_re.proofs.LexicalLaws.{operator_complete}

-- `12` is twelve, and `012` too
digits_write_a_number : (decimal (codes "12") 0 ≡ 12) × (decimal (codes "012") 0 ≡ 12)
unfolding decimal
digits_write_a_number = (refl, refl)

-- a count ends where its digits do
two : Count (codes "2,3}") (codes ",3}") 2
unfolding decimal
two = count [] (codes "2") [] refl refl (lit< tt) refl refl (lit< tt)

three : Count (codes "3}") (codes "}") 3
unfolding decimal
three = count [] (codes "3") [] refl refl (lit< tt) refl refl (lit< tt)

-- `{2,3}`
from_two_to_three : Bounds (codes "{2,3}") [] 2 (Some 3)
from_two_to_three = between two three (lit≤ tt)

-- `*` is greedy and `*?` lazy; under the flag `U` it is the other way round
greed_of_operators : Operator no_flags (codes "*a") (codes "a") 0 None true × Operator no_flags (codes "*?a") (codes "a") 0 None false
    × Operator (record no_flags { swap_greed = true }) (codes "*") [] 0 None false
greed_of_operators = (alone any_number refl, turned any_number, alone any_number refl)

-- what an operator gives
abbrev Given : Type 0
Given = ℕ × Option ℕ × Bool × Text

abbrev greed : Option Given → Bool
greed None = true
greed (Some x) = x.2

not_nothing : (x : Given) → Some x ≡ None → ⊥
not_nothing x e = absurd (cc)

greedy_is_not_lazy : (r s : Text) → ◌≡◌ {A = Option Given} (Some (0, None, true, r)) (Some (0, None, false, s)) → ⊥
greedy_is_not_lazy r s e = let b : true ≡ false = ap greed e in absurd (cc)

-- a letter is not an operator
letter_is_no_operator : (r : Text) (n : ℕ) (m : Option ℕ) (g : Bool) → ¬ Operator no_flags (codes "a*") r n m g
unfolding reading.operator reading.bounds reading.braces reading.count
letter_is_no_operator r n m g h = let none : reading.operator no_flags (codes "a*") ≡ None = refl in not_nothing (n, m, g, r) (sym (operator_complete h) ∙ none)

-- a `?` directly after an operator belongs to it
mark_of_laziness_is_not_left : ¬ Operator no_flags (codes "*?") (codes "?") 0 None true
unfolding reading.operator reading.bounds reading.braces reading.count
mark_of_laziness_is_not_left h = let lazy : reading.operator no_flags (codes "*?") ≡ Some (0, None, false, []) = refl in greedy_is_not_lazy (codes "?") [] (sym (operator_complete h) ∙ lazy)
