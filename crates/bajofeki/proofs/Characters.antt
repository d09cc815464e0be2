-- The bytes of characters, and the pieces that a loop gave.
use Rattle.std.proofs.Common.{◌≡◌, ◌≢◌, ℕ, ⊎_elim, ◌<◌, true, false, List, [], ◌∷◌, ◌++◌, suc, length, get_or, ap, flat_map, sym, ◌∙◌, arith}
use Rattle.std.specs.Prelude.{nat_eq}
use Rattle.std.specs.Char.{encode_utf8}
use Rattle.std.proofs.lemmas.Str.{inside_one}
use Rattle.std.proofs.lemmas.Bool.Decides.{eqb_tells}
use Rattle.std.proofs.lemmas.Grind.{flat_map-append}
use Rattle.std.proofs.lemmas.List.{append-nil}

-- none of the bytes is this one
abbrev pub Lacks : ℕ → List ℕ → Type 0
Lacks x [] = Unit {0}
Lacks x (b ∷ bs) = (b ≢ x) × Lacks x bs

pub differs : (b x : ℕ) → b ≢ x → nat_eq b x ≡ false
differs b x other = ⊎_elim (λ (same : (nat_eq b x ≡ true) × (b ≡ x)). absurd (other same.1)) (λ (not_same : (nat_eq b x ≡ false) × (b ≢ x)). not_same.0) (eqb_tells b x)

-- a character below 128 that is another has none of it among its bytes
lacks_all : (x : ℕ) (bs : List ℕ) → ((k : ℕ) → k < length bs → get_or bs k 0 ≢ x) → Lacks x bs
lacks_all x [] h = tt
lacks_all x (b ∷ bs) h = (h 0 (omega arith), lacks_all x bs (λ k l. h (suc k) (omega arith)))

pub lacks_char : (x c : ℕ) → x < 128 → c ≢ x → Lacks x (encode_utf8 c)
lacks_char x c small other =
    lacks_all x (encode_utf8 c) (λ k within is. other (inside_one c [] (encode_utf8 c) k (sym (append-nil (encode_utf8 c))) within (omega arith) ∙ is))

-- what is written for one more piece
pub one_more : {A : Type 0} (f : A → List ℕ) (xs : List A) (x : A) (old new : List ℕ) → old ≡ flat_map f xs → new ≡ old ++ f x → new ≡ flat_map f (xs ++ x ∷ [])
one_more f xs x old new so_far line =
    line ∙ ap (λ l. l ++ f x) so_far ∙ sym (flat_map-append f xs (x ∷ []) ∙ ap (λ l. flat_map f xs ++ l) (append-nil (f x)))
