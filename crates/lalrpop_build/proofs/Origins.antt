-- The word of a number, by its origins alone.
use Rattle.std.proofs.Common.{◌≡◌, ℕ, ◌<◌, ◌≤◌, List, [], ◌∷◌, ◌++◌, length, reverse, get_or, Some, refl, sym, ap, ◌∙◌, arith, zero, suc, append_assoc}
use Rattle.std.proofs.lemmas.List.{reverse-append}
use Rattle.std.proofs.lemmas.Option.{slice_get-get_or}
use Rattle.std.specs.List.{All, AllByRecursion}
use Rattle.std.proofs.lemmas.List.Elements.{All-nil, All-push, recursion_from_All}
use Rattle.lalrpop_hir.specs.Word.{IsWord}
use Rattle.lalrpop_build.specs.Internal.BreadthFirst.{AreEarlier, from_of, value_of, word_of, word}

module _ (origins : List (ℕ × ℕ)) (size : ℕ) (earlier : (k : ℕ) → 0 < k → k < size → from_of origins k < k) where
  -- the fuel of a word makes no difference
  pub fuel_enough : (f g k : ℕ) → k ≤ f → k ≤ g → k < size → word_of origins f k ≡ word_of origins g k
  fuel_enough zero zero k a b l = refl
  fuel_enough zero (suc g) zero a b l = refl
  fuel_enough zero (suc g) (suc k) a b l = absurd (omega arith)
  fuel_enough (suc f) zero zero a b l = refl
  fuel_enough (suc f) zero (suc k) a b l = absurd (omega arith)
  fuel_enough (suc f) (suc g) zero a b l = refl
  fuel_enough (suc f) (suc g) (suc k) a b l =
      let e : from_of origins (suc k) < suc k = earlier (suc k) (omega arith) l in
      ap (λ (w : List ℕ). w ++ value_of origins (suc k) ∷ []) (fuel_enough f g (from_of origins (suc k)) (omega arith) (omega arith) (omega arith))

  pub word_step : (k : ℕ) → 0 < k → k < size → word origins k ≡ word origins (from_of origins k) ++ value_of origins k ∷ []
  word_step zero a l = absurd (omega arith)
  word_step (suc k) a l =
      let e : from_of origins (suc k) < suc k = earlier (suc k) a l in
      ap (λ (w : List ℕ). w ++ value_of origins (suc k) ∷ []) (fuel_enough k (from_of origins (suc k)) (from_of origins (suc k)) (omega arith) (omega arith) (omega arith))

-- the letters of a word are values of origins
word_fits : (origins : List (ℕ × ℕ)) (bound : ℕ) → ((k : ℕ) → value_of origins k < bound) → (f k : ℕ) → All (λ c. c < bound) (word_of origins f k)
word_fits origins bound small zero k = All-nil (λ (c : ℕ). c < bound)
word_fits origins bound small (suc f) zero = All-nil (λ (c : ℕ). c < bound)
word_fits origins bound small (suc f) (suc k) =
    All-push (λ (c : ℕ). c < bound) (word_of origins f (from_of origins (suc k))) (value_of origins (suc k)) (word_fits origins bound small f (from_of origins (suc k))) (small (suc k))

word_from : (w : List ℕ) → AllByRecursion (λ c. c < 4294967296) w → IsWord w
word_from [] a = tt
word_from (c ∷ w) a = (omega (arith, a.0), word_from w a.1)

-- words of numbers are words
pub word_is_word : (origins : List (ℕ × ℕ)) → ((k : ℕ) → value_of origins k ≤ 4294967295) → (n : ℕ) → IsWord (word origins n)
word_is_word origins small n =
    word_from (word origins n) (recursion_from_All (λ c. c < 4294967296) (word origins n) (word_fits origins 4294967296 (λ k. let l : value_of origins k ≤ 4294967295 = small k in omega arith) n n))

-- ---- going back from number to number
-- one origin further back
pub walk_step : (origins : List (ℕ × ℕ)) → AreEarlier origins → (n k from value : ℕ) (values values2 : List ℕ) → 0 < k → k < length origins → from ≡ from_of origins k → value ≡ value_of origins k
    → values2 ≡ values ++ value ∷ [] → word origins n ≡ word origins k ++ reverse values → (from < length origins) × (word origins n ≡ word origins from ++ reverse values2)
walk_step origins early n k from value values values2 some l f v more h =
    let below : from_of origins k < k = early k some l in
    let turned : reverse values2 ≡ value ∷ reverse values = ap reverse more ∙ reverse-append values (value ∷ []) in
    let step : word origins k ≡ word origins from ++ value ∷ [] = rw (f, v) (word_step origins (length origins) early k some l) in
    (omega arith, h ∙ ap (λ (w : List ℕ). w ++ reverse values) step ∙ append_assoc (word origins from) (value ∷ []) (reverse values) ∙ sym (ap (λ (w : List ℕ). word origins from ++ w) turned))

pub walk_end : (origins : List (ℕ × ℕ)) (n k : ℕ) (values : List ℕ) → k ≤ 0 → word origins n ≡ word origins k ++ reverse values → reverse values ≡ word origins n
walk_end origins n k values none h =
    let e : k ≡ 0 = omega arith in
    sym (h ∙ ap (λ (i : ℕ). word origins i ++ reverse values) e)

-- the origin that is read
pub origin_read : (origins : List (ℕ × ℕ)) (k : ℕ) (o : ℕ × ℕ) → k < length origins → o ≡ get_or origins k o → (o.0 ≡ from_of origins k) × (o.1 ≡ value_of origins k)
origin_read origins k o l e =
    let f : Some (get_or origins k o) ≡ Some (get_or origins k (0, 0)) = sym (slice_get-get_or origins k o l) ∙ slice_get-get_or origins k (0, 0) l in
    let g : get_or origins k o ≡ get_or origins k (0, 0) = cc in
    (ap (λ (x : ℕ × ℕ). x.0) (e ∙ g), ap (λ (x : ℕ × ℕ). x.1) (e ∙ g))
