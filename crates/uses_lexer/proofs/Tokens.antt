-- What the calls of `next` have returned: tokens, and at most one fault.
use Rattle.std.proofs.Common.{◌≡◌, ℕ, ◌+◌, ◌≤◌, List, [], ◌∷◌, ◌++◌, length, map, refl, ap, arith, length-append}
use Rattle.std.specs.Prelude.{Option, Some, None, Result, Ok, Err}
use Rattle.std.specs.Iterator.{Yields, Drains}
use Rattle.std.specs.Str.{chars, IsUtf8}
use Rattle.uses_lexer.proofs.Counting.{item_more}
use Rattle.std.proofs.lemmas.List.{length-map, map-append}
use Rattle.std.proofs.lemmas.Str.{encodes-chars, length-le-encodes}

-- and none after it
pub item_last : {S A : Type 0} (gives : S → Option A → S → Type 0) (s r t u : S) (xs : List A) (o : Option A) (x : A) → r ≡ s → Yields gives r xs t → o ≡ Some x
    → gives t o u → gives u None u → Drains gives s (xs ++ x ∷ [])
item_last gives s r t u xs o x same y is g none = (u, (u, item_more gives s r t u xs o x same y is g, none))

-- one token more
pub token_more : {A B : Type 0} (xs : List (Result A B)) (x : Result A B) (tokens : List A) (token : A) → xs ≡ map Ok tokens → x ≡ Ok token
    → xs ++ x ∷ [] ≡ map Ok (tokens ++ token ∷ [])
token_more xs x tokens token are is = rw (are, is, map-append) refl

pub count_more : {A : Type 0} (n : ℕ) (tokens : List A) (token : A) → n ≡ length tokens → n + 1 ≡ length (tokens ++ token ∷ [])
count_more n tokens token is = omega (arith, length-append tokens (token ∷ []))

-- one more than they are many is within the text
pub room_for_one_more : {A B : Type 0} (text : List ℕ) (xs : List (Result A B)) (x : Result A B) (n : ℕ) (tokens : List A) → IsUtf8 text
    → length (xs ++ x ∷ []) ≤ length (chars text) → xs ≡ map Ok tokens → n ≡ length tokens → n + 1 ≤ length text
room_for_one_more text xs x n tokens u le are count =
    let same : length xs ≡ length tokens = rw (are, length-map) refl in
    omega (arith, length-append xs (x ∷ []), length-le-encodes (chars text), ap length (encodes-chars text u))

-- and a fault after them
pub then_a_fault : {A B : Type 0} (xs : List (Result A B)) (x : Result A B) (tokens : List A) (fault : B) → xs ≡ map Ok tokens → x ≡ Err fault
    → xs ++ x ∷ [] ≡ map Ok tokens ++ Err fault ∷ []
then_a_fault xs x tokens fault are is = rw (are, is) refl
