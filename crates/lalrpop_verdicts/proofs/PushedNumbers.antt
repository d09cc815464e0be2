-- A list of numbers with one more at the end.
use Rattle.std.proofs.Common.{◌≡◌, ℕ, ◌+◌, ◌<◌, List, [], ◌∷◌, ◌++◌, length, ap, ◌∙◌, arith, length-append}
use Rattle.std.specs.Prelude.{slice_index}
use Rattle.std.proofs.lemmas.List.{get_or-append-add, get_or_append_left}

pub pushed_old : (xs : List ℕ) (y i : ℕ) → i < length xs → slice_index (xs ++ y ∷ []) i ≡ slice_index xs i
pushed_old xs y i l = get_or_append_left xs (y ∷ []) 0 i l

pub pushed_new : (xs : List ℕ) (y i : ℕ) → i ≡ length xs → slice_index (xs ++ y ∷ []) i ≡ y
pushed_new xs y i e = ap (slice_index (xs ++ y ∷ [])) (e ∙ (let f : length xs ≡ length xs + 0 = omega arith in f)) ∙ get_or-append-add xs (y ∷ []) 0 0

pub pushed_length : {X : Type 0} (xs : List X) (y : X) → length (xs ++ y ∷ []) ≡ length xs + 1
pushed_length xs y = length-append xs (y ∷ [])
