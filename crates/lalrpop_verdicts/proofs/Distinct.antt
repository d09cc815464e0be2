-- Different numbers below a bound are no more than the bound.
use Rattle.std.proofs.Common.{◌≡◌, ℕ, ◌<◌, ◌≤◌, length, map, get_or, sym, ◌∙◌, arith, true, false, eqb, ne_eqb, eqb-true}
use Rattle.std.specs.List.{range_with_len, list_any}
use Rattle.std.proofs.lemmas.List.FromFn.{length-map-range_with_len, get_or-map-range_with_len}
use Rattle.std.proofs.lemmas.Map.Steps.{length-le_from_distinct_below}
use Rattle.std.proofs.lemmas.Map.Keys.{IsDistinct-from_apart}
use Rattle.std.proofs.lemmas.Map.Views.{Contains-from_any}

-- of n different numbers below k, n is at most k
pub different_below : (f : ℕ → ℕ) (n k : ℕ) → ((i : ℕ) → i < n → f i < k) → ((i j : ℕ) → i < n → j < n → f i ≡ f j → i ≡ j) → n ≤ k
different_below f n k below one =
    let long : length (map f (range_with_len 0 n)) ≡ n = length-map-range_with_len f 0 n in
    let most : length (map f (range_with_len 0 n)) ≤ k = length-le_from_distinct_below (map f (range_with_len 0 n)) k (IsDistinct-from_apart eqb (map f (range_with_len 0 n)) apart) within in
    omega arith
  where
    at : (i e : ℕ) → i < n → get_or (map f (range_with_len 0 n)) i e ≡ f i
    at i e l = get_or-map-range_with_len f 0 n i i e l (omega arith)

    apart : (i j e : ℕ) → i < j → j < length (map f (range_with_len 0 n)) → eqb (get_or (map f (range_with_len 0 n)) i e) (get_or (map f (range_with_len 0 n)) j e) ≡ false
    apart i j e a l =
        let long : length (map f (range_with_len 0 n)) ≡ n = length-map-range_with_len f 0 n in
        ne_eqb (get_or (map f (range_with_len 0 n)) i e) (get_or (map f (range_with_len 0 n)) j e) (λ same.
        let il : i < n = omega arith in
        let jl : j < n = omega arith in
        let t : i ≡ j = one i j il jl (sym (at i e il) ∙ same ∙ at j e jl) in
        omega arith)

    within : (q : ℕ) → list_any (eqb q) (map f (range_with_len 0 n)) ≡ true → q < k
    within q h =
        let (i, l, e) = Contains-from_any {eq = eqb} eqb-true q (map f (range_with_len 0 n)) h in
        let long : length (map f (range_with_len 0 n)) ≡ n = length-map-range_with_len f 0 n in
        let il : i < n = omega arith in
        rw (← e, at i q il) (below i il)
