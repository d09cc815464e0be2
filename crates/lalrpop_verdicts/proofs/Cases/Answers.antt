-- Cases of specs/Answers.antt: words of texts, and what the automaton of `a` answers.
use Rattle.std.proofs.Common.{◌≡◌, zero, suc, [], ◌∷◌, Some, None, refl, arith}
use Rattle.std.specs.Prelude.{slice_get}
use Rattle.lalrpop_dfa.specs.declared.Kind.TheVariants.{Accepts, Reject, Neither}
use Rattle.lalrpop_dfa.proofs.Cases.Dfa.{automaton_of_a}
use Rattle.lalrpop_verdicts.specs.Answers.{IsTextWord, accepted_by, accepted_at, answer_from, answer}

-- ---- words of texts

no_characters_are_a_text : IsTextWord []
no_characters_are_a_text k d l = absurd (omega arith)

pub a_is_a_text : IsTextWord (97 ∷ [])
a_is_a_text zero d l = refl
a_is_a_text (suc k) d l = absurd (omega arith)

greatest_character_is_a_text : IsTextWord (0x10FFFF ∷ [])
greatest_character_is_a_text zero d l = refl
greatest_character_is_a_text (suc k) d l = absurd (omega arith)

pub surrogate_is_no_text : ¬ IsTextWord (0xD800 ∷ [])
surrogate_is_no_text text = let e = text 0 0 (omega arith) in absurd (cc)

number_past_the_characters_is_no_text : ¬ IsTextWord (97 ∷ 0x110000 ∷ [])
number_past_the_characters_is_no_text text = let e = text 1 0 (omega arith) in absurd (cc)

-- ---- answers

-- a state accepts a tree only by its kind
kinds_accept : (accepted_by (Accepts 7) ≡ Some 7) × (accepted_by Reject ≡ None) × (accepted_by Neither ≡ None)
kinds_accept = (refl, refl, refl)

-- the first state of the automaton of `a` accepts nothing, the second one `a`; there is no fourth
states_accept : (accepted_at (slice_get automaton_of_a 0) ≡ None) × (accepted_at (slice_get automaton_of_a 1) ≡ Some 0) × (accepted_at (slice_get automaton_of_a 3) ≡ None)
states_accept = (refl, refl, refl)

a_is_answered_by_the_first_tree : answer automaton_of_a (97 ∷ []) ≡ Some 0
a_is_answered_by_the_first_tree = refl

other_words_are_answered_by_none : (answer automaton_of_a [] ≡ None) × (answer automaton_of_a (98 ∷ []) ≡ None) × (answer automaton_of_a (97 ∷ 97 ∷ []) ≡ None)
other_words_are_answered_by_none = (refl, refl, refl)

a_is_not_answered_by_another_tree : ¬ (answer automaton_of_a (97 ∷ []) ≡ Some 1)
a_is_not_answered_by_another_tree e = let f : Some 0 ≡ Some 1 = e in absurd (cc)

-- from the state after `a`, the empty word is answered as `a` is from the first one
answers_from_a_later_state : (answer_from automaton_of_a 1 [] ≡ Some 0) × (answer_from automaton_of_a 1 (97 ∷ []) ≡ None)
answers_from_a_later_state = (refl, refl)
