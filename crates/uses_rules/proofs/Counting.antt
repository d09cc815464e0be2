-- What the calls of `next` have returned.
use Rattle.std.proofs.Common.{◌≡◌, ℕ, ◌+◌, ◌≤◌, List, [], ◌∷◌, ◌++◌, length, map, refl, subst, ap, arith, length-append}
use Rattle.std.specs.Prelude.{Option, Some, Result, Ok}
use Rattle.std.specs.Iterator.{Yields}
use Rattle.std.specs.Str.{chars, IsUtf8}
use Rattle.std.proofs.iter.Next.{Yields-more}
use Rattle.std.proofs.lemmas.List.{map-append}
use Rattle.std.proofs.lemmas.Str.{encodes-chars, length-le-encodes}

-- one piece more
pub item_more : {S A : Type 0} (gives : S → Option A → S → Type 0) (s r t u : S) (xs : List A) (o : Option A) (x : A) → r ≡ s → Yields gives r xs t → o ≡ Some x
    → gives t o u → Yields gives s (xs ++ x ∷ []) u
item_more {S} {A} gives s r t u xs o x same y is g =
    Yields-more gives s xs t x u (subst (λ (r : S). Yields gives r xs t) same y) (subst (λ (o : Option A). gives t o u) is g)

pub token_more : {A B : Type 0} (xs : List (Result A B)) (x : Result A B) (tokens : List A) (token : A) → xs ≡ map Ok tokens → x ≡ Ok token
    → xs ++ x ∷ [] ≡ map Ok (tokens ++ token ∷ [])
token_more xs x tokens token are is = rw (are, is, map-append) refl

pub count_more : {A : Type 0} (n : ℕ) (tokens : List A) (token : A) → n ≡ length tokens → n + 1 ≡ length (tokens ++ token ∷ [])
count_more n tokens token is = omega (arith, length-append tokens (token ∷ []))

-- one more than they are many is within the text
pub room_for_one_more : {A : Type 0} (text : List ℕ) (xs : List A) (x : A) (n : ℕ) → IsUtf8 text → length (xs ++ x ∷ []) ≤ length (chars text) → n ≡ length xs
    → n + 1 ≤ length text
room_for_one_more text xs x n u le count =
    omega (arith, length-append xs (x ∷ []), length-le-encodes (chars text), ap length (encodes-chars text u))
