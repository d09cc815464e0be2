-- Cases of specs/Internal/Reads.antt, in the automaton of the literal `a` (Cases/Path.antt).
use Rattle.std.proofs.Common.{ℕ, inl, inr, refl, arith}
use Rattle.lalrpop_nfa.specs.Internal.Reads.{Tests, Reads}
use Rattle.lalrpop_nfa.proofs.Cases.Path.{just_a, edges_of_a, test_is, covers_a, value_that_is_untested, tested_value_is_not_untested}

-- from 3 a test reads `a`, and no test reads `b`
value_that_is_tested : Tests edges_of_a 3 97 0
value_that_is_tested = (just_a, ((0, omega arith, refl), covers_a))

untested_value_is_not_tested : (q : ℕ) → ¬ Tests edges_of_a 3 98 q
untested_value_is_not_tested q h = value_that_is_untested h.0 q h.1.0 h.1.1

-- `a` leads to ACCEPT, `b` by the other edge to REJECT
values_that_are_read : Reads edges_of_a 3 97 0 × Reads edges_of_a 3 98 1
values_that_are_read = (inl value_that_is_tested, inr ((2, omega arith, refl), value_that_is_untested))

-- the other edge doesn't read `a`
tested_value_does_not_fall : ¬ Reads edges_of_a 3 97 1
tested_value_does_not_fall (inl h) = omega (arith, (test_is 3 1 h.0 h.1.0).1)
tested_value_does_not_fall (inr h) = tested_value_is_not_untested h.1
