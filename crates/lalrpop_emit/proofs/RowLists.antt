-- The rows of a table, one after another.
use Rattle.std.proofs.Common.{◌≡◌, ℕ, ◌<◌, ◌≤◌, ◌+◌, ◌-◌, ◌*◌, ◌%◌, ◌∙◌, inl, inr, List, [], ◌∷◌, ◌++◌, length, map, get_or, sym, ap, arith}
use Rattle.std.proofs.lemmas.Bool.{cases_lt}
use Rattle.std.proofs.lemmas.List.{get_or_append_left, get_or-append_right, length-append, length-map}
use Rattle.std.proofs.Math.Nat.{mul-le-mul_right}
use Rattle.lalrpop_dfa.specs.Dfa.{Row, step}
use Rattle.lalrpop_emit.specs.Internal.MadeRows.{AreRows, AreRowsOf, kind_at, pattern_of, row_cells, row_number}

-- a row lies before the next ones
pub row_before : (j n k width : ℕ) → j < n → k ≤ width → j * (width + 1) + k < n * (width + 1)
row_before j n k width less small =
    let more : (j + 1) * (width + 1) ≤ n * (width + 1) = mul-le-mul_right (width + 1) (omega (arith, less)) in
    omega (arith, more, small)

pub row_length : (d : List Row) (firsts : List ℕ) (p : ℕ) → length (row_cells d firsts p) ≡ length firsts + 1
row_length d firsts p =
    omega (
      arith,
      length-append (map (λ c. row_number d (step d p c) * (length firsts + 1)) firsts) (pattern_of (kind_at d p) ∷ []),
      length-map firsts (λ c. row_number d (step d p c) * (length firsts + 1)),
    )

pub one_row_more : (row : ℕ → List ℕ) (w : ℕ) (cells more last : List ℕ) (n : ℕ) → AreRowsOf row w cells n → last ≡ row n → length last ≡ w + 1 → more ≡ cells ++ last → AreRowsOf row w more (n + 1)
one_row_more row w cells more last n h last_is size is =
    let is_row : more ≡ cells ++ row n = is ∙ ap (λ (xs : List ℕ). cells ++ xs) last_is in
    record {
      size = omega (arith, ap length is, length-append cells last, size, h.size);
      each = λ j k less small. elim (cases_lt j n) [
        | inl before ↦
            ap (λ (xs : List ℕ). get_or xs (j * (w + 1) + k) 0) is_row
            ∙ get_or_append_left cells (row n) 0 (j * (w + 1) + k) (omega (arith, row_before j n k w before small, h.size))
            ∙ h.each j k before small
        | inr past ↦
            let same : j ≡ n = omega (arith, less, past) in
            let place : j * (w + 1) + k - n * (w + 1) ≡ k = omega (arith, ap (λ (m : ℕ). m * (w + 1)) same) in
            ap (λ (xs : List ℕ). get_or xs (j * (w + 1) + k) 0) is_row
            ∙ get_or-append_right cells (row n) (n * (w + 1)) (j * (w + 1) + k) 0 h.size (omega (arith, ap (λ (m : ℕ). m * (w + 1)) same))
            ∙ ap (λ (m : ℕ). get_or (row n) m 0) place
            ∙ ap (λ (m : ℕ). get_or (row m) k 0) (sym same)
      ];
    }

pub rows_more : (d : List Row) (firsts cells more : List ℕ) (n p : ℕ) → AreRows d firsts cells n → p ≡ n % length d → more ≡ cells ++ row_cells d firsts p → AreRows d firsts more (n + 1)
rows_more d firsts cells more n p h state is =
    one_row_more (λ j. row_cells d firsts (j % length d)) (length firsts) cells more (row_cells d firsts p) n h (ap (row_cells d firsts) state) (row_length d firsts p) is
