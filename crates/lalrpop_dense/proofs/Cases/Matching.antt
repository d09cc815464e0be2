-- Cases of specs/Matching.antt.
use Rattle.std.proofs.Common.{◌≡◌, [], ◌∷◌, Some, None, refl}
use Rattle.std.specs.Str.{chars}
use Rattle.lalrpop_dfa.specs.Dfa.{Row}
use Rattle.lalrpop_dfa.specs.declared.Kind.{Kind}
use Rattle.lalrpop_dfa.specs.declared.Kind.TheVariants.{Accepts, Reject, Neither}
use Rattle.lalrpop_dense.specs.Matching.{rest_of, open_states, characters_of}

abbrev of_kind : Kind → Row
of_kind kind = record { kind = kind; tests = []; other = 0; items = [] }

-- states that accept or reject are not counted
two_of_four : open_states (of_kind Neither ∷ of_kind (Accepts 0) ∷ of_kind Neither ∷ of_kind Reject ∷ []) ≡ 2
two_of_four = refl

no_state_is_open : open_states [] ≡ 0
no_state_is_open = refl

-- `b` is left of `ab`
behind_a_byte : rest_of (record { automaton = []; text = 97 ∷ 98 ∷ []; at = 1; spare = 5 }) ≡ 98 ∷ []
behind_a_byte = refl

no_match_has_none : characters_of None ≡ 0
no_match_has_none = refl

-- `é` has two bytes and is a character
one_character : characters_of (Some (195 ∷ 169 ∷ [])) ≡ 1
unfolding chars
one_character = refl
