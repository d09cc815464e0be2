-- The first rule with a name.
use Rattle.std.proofs.Common.{◌≡◌, ℕ, ◌<◌, true, false, List, [], get_or, length, map, string_bytes, sym, ap, ◌∙◌, arith, Global}
use Rattle.std.specs.Prelude.{Some, String, option_map, slice_get}
use Rattle.std.specs.List.{position_or_len}
use Rattle.std.specs.Str.{bytes_eq}
use Rattle.std.proofs.lemmas.List.Sums.{position_or_len_is}
use Rattle.std.proofs.lemmas.Option.{get_or_from_slice_get, slice_get_within, slice_get-get_or, slice_get-map}
use Rattle.std.proofs.lemmas.Slice.Eq.{bytes_eq-Decides}

-- the name of a rule that there is
pub name_there : (names : List (String Global)) (number : ℕ) (other : String Global) → number < length names → other ≡ get_or names number other
    → string_bytes other ≡ get_or (map string_bytes names) number []
name_there names number other below is =
    let there : slice_get (map string_bytes names) number ≡ Some (string_bytes (get_or names number other)) =
    slice_get-map string_bytes names number ∙ ap (option_map string_bytes) (slice_get-get_or names number other below) in
    ap string_bytes is ∙ sym (get_or_from_slice_get (map string_bytes names) number (string_bytes (get_or names number other)) [] there)

name_at : (names : List (List ℕ)) (number : ℕ) (name : List ℕ) → slice_get names number ≡ Some name → get_or names number [] ≡ name
name_at names number name is = get_or_from_slice_get names number name [] is

pub before_rule : (names : List (List ℕ)) (index number : ℕ) (name : List ℕ) → slice_get names index ≡ Some name → number < index → number < length names
before_rule names index number name is below = let within = slice_get_within names index name is in omega (arith, within)

-- the first of those before a rule, or else that rule
pub first_before : (names : List (List ℕ)) (index number : ℕ) (name : List ℕ) → slice_get names index ≡ Some name → number < index
    → ((k : ℕ) → k < number → bytes_eq name (get_or names k []) ≡ false) → bytes_eq name (get_or names number []) ≡ true → number ≡ position_or_len (bytes_eq name) names
first_before names index number name is below others this =
    let within = slice_get_within names index name is in
    sym (position_or_len_is (bytes_eq name) names number [] (omega (arith, within)) others (λ _. this))

pub first_itself : (names : List (List ℕ)) (index : ℕ) (name : List ℕ) → slice_get names index ≡ Some name
    → ((k : ℕ) → k < index → bytes_eq name (get_or names k []) ≡ false) → index ≡ position_or_len (bytes_eq name) names
first_itself names index name is others =
    let within = slice_get_within names index name is in
    let this : bytes_eq name (get_or names index []) ≡ true = (bytes_eq-Decides name (get_or names index [])).1 (sym (name_at names index name is)) in
    sym (position_or_len_is (bytes_eq name) names index [] (omega (arith, within)) others (λ _. this))
