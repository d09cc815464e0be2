-- Cases of specs/Leading.antt.
use Rattle.std.proofs.Common.{◌≡◌, ℕ, List, [], ◌∷◌, length, refl, ap, arith, length-append}
use Rattle.std.specs.Char.{encode_utf8}
use Rattle.std.proofs.lemmas.Str.{len_utf8_bounds, length-encode}
use Rattle.lalrpop_dfa.specs.Dfa.{Row}
use Rattle.lalrpop_dense.specs.Leading.{IsEnd, IsStopped, AreAhead, last_end}

no_match_ends_where_it_begins : (d : List Row) (text : List ℕ) (at index : ℕ) → ¬ IsEnd d text at index at
no_match_ends_where_it_begins d text at index h = omega (arith, h.some)

-- at the end of a text more may come
nothing_stops_at_the_end : (d : List Row) (word : List ℕ) → ¬ IsStopped d word []
nothing_stops_at_the_end d word h =
    omega (arith, ap length h.split, length-append (encode_utf8 h.next) h.rest, length-encode h.next, len_utf8_bounds h.next)

none_are_ahead : (d : List Row) (text : List ℕ) (at : ℕ) → AreAhead d text at []
none_are_ahead d text at = tt

-- the second begins where the first ends
second_begins_at_the_end : (d : List Row) (text : List ℕ) → AreAhead d text 0 ((7, 2) ∷ (8, 5) ∷ []) → IsEnd d text 2 8 5
second_begins_at_the_end d text h = h.1.0

last_of_two : last_end 0 ((7, 2) ∷ (8, 5) ∷ []) ≡ 5
last_of_two = refl

last_of_none : (at : ℕ) → last_end at [] ≡ at
last_of_none at = refl
