-- Lists of numbers, before and after a pass over them: copies, comparison, and their sum, which is less where one falls.
use Rattle.std.proofs.Common.{◌≡◌, ◌≢◌, ◌⊎◌, inl, inr, ℕ, suc, ◌+◌, ◌<◌, ◌≤◌, List, [], ◌∷◌, length, get_or, refl, ⊎_elim, arith}
use Rattle.std.specs.List.{AllZip}
use Rattle.std.specs.Prelude.{nat_eq, Bool, true, false}
use Rattle.std.specs.Cmp.Lexicographic.{pointwise}
use Rattle.std.proofs.lemmas.Bool.Decides.{Decides-eqb}
use Rattle.std.proofs.lemmas.Slice.Eq.{slice_eq-Decides}
use Rattle.std.proofs.lemmas.Bool.{cases_lt}

-- whether two lists are told to be the same
pub told_same : (xs ys : List ℕ) (r : Bool) → r ≡ pointwise nat_eq xs ys → r ≡ true → xs ≡ ys
told_same xs ys r e = (slice_eq-Decides Decides-eqb xs ys r e).0

pub told_apart : (xs ys : List ℕ) (r : Bool) → r ≡ pointwise nat_eq xs ys → r ≡ false → xs ≢ ys
told_apart xs ys r e f same = let told : r ≡ true = (slice_eq-Decides Decides-eqb xs ys r e).1 same in cc

pub copied : (xs ys : List ℕ) → AllZip (λ x y. y ≡ x) xs ys → ys ≡ xs
copied [] [] h = refl
copied [] (y ∷ ys) h = absurd h
copied (x ∷ xs) [] h = absurd h
copied (x ∷ xs) (y ∷ ys) h = let first = h.0 in let later = copied xs ys h.1 in cc

-- all together
abbrev pub total : List ℕ → ℕ
total [] = 0
total (x ∷ xs) = x + total xs

total_le : (xs ys : List ℕ) → length ys ≡ length xs → ((p : ℕ) → p < length xs → get_or ys p 0 ≤ get_or xs p 0) → total ys ≤ total xs
total_le [] [] e h = omega arith
total_le [] (y ∷ ys) e h = absurd (omega (arith, e))
total_le (x ∷ xs) [] e h = absurd (omega (arith, e))
total_le (x ∷ xs) (y ∷ ys) e h = omega (arith, h 0 (omega arith), total_le xs ys (omega (arith, e)) (λ p l. h (suc p) (omega (arith, l))))

pub total_less : (xs ys : List ℕ) → length ys ≡ length xs → ((p : ℕ) → p < length xs → get_or ys p 0 ≤ get_or xs p 0) → ys ≢ xs → total ys < total xs
total_less [] [] e h ne = absurd (ne refl)
total_less [] (y ∷ ys) e h ne = absurd (omega (arith, e))
total_less (x ∷ xs) [] e h ne = absurd (omega (arith, e))
total_less (x ∷ xs) (y ∷ ys) e h ne =
    ⊎_elim (λ (l : y < x). omega (arith, l, total_le xs ys (omega (arith, e)) (λ p k. h (suc p) (omega (arith, k)))))
    (λ (l : x ≤ y). let same : y ≡ x = omega (arith, l, h 0 (omega arith)) in
    let later = total_less xs ys (omega (arith, e)) (λ p k. h (suc p) (omega (arith, k))) (λ t. ne (let u = t in let v = same in cc)) in
    omega (arith, later, same))
    (cases_lt y x)

-- ---- two places
pub same_or_other : (p q : ℕ) → (p ≡ q) ⊎ (p ≢ q)
same_or_other p q =
    ⊎_elim (λ (l : p < q). inr (λ e. absurd (omega (arith, l, e))))
    (λ (l : q ≤ p). ⊎_elim (λ (m : q < p). inr (λ e. absurd (omega (arith, m, e)))) (λ (m : p ≤ q). inl (omega (arith, l, m))) (cases_lt q p))
    (cases_lt p q)
