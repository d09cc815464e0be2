-- What the rows of a run say of its ends.
use Rattle.std.proofs.Common.{◌≡◌, ℕ, ◌+◌, ◌-◌, ◌<◌, ◌≤◌, ◌⊎◌, inl, inr, List, length, take, sym, ap, subst, ◌∙◌, arith}
use Rattle.std.specs.Prelude.{◌≢◌, ◌↔◌, IsTrue, slice_index, Option, Some, None}
use Rattle.lalrpop_dense.specs.DenseTable.{TableNumbers}
use Rattle.lalrpop_emit.specs.Ahead.{Standing, AheadNumbers, IsAheadOf, StandsFor, standing_after, rule_at, rule_number, no_rule}
use Rattle.lalrpop_emit.proofs.AheadTokens.{ends_at, BeginsAt, IsNextEnd}

-- the row at each place stands for what is known after the column there
abbrev pub AreRowsOf : AheadNumbers → List Standing → TableNumbers → List ℕ → List ℕ → Type 0
AreRowsOf a standings t columns rows = (k : ℕ) → k < length columns → StandsFor a standings (slice_index rows k) (standing_after t a.width (take (k + 1) columns))

pub rule_of_number : (found : Option ℕ) (rule : ℕ) → rule_number found ≡ rule → rule ≢ no_rule → found ≡ Some rule
rule_of_number None rule e some = absurd (some (sym e))
rule_of_number (Some number) rule e some = ap (λ (n : ℕ). Some n) e

module _ (a : AheadNumbers) (t : TableNumbers) (columns rows : List ℕ) (h : IsAheadOf a t) (are : AreRowsOf a h.standings t columns rows) where
  pub end_in_rows : (at : ℕ) → at < length columns → IsTrue (ends_at t a.width columns at) ↔ (a.ends ≤ slice_index rows at)
  end_in_rows at l = h.ends (slice_index rows at) (standing_after t a.width (take (at + 1) columns)) (are at l)

  pub begins_in_rows : (at : ℕ) → at < length columns → (at ≡ 0) ⊎ (a.ends ≤ slice_index rows at) → BeginsAt t a.width columns at
  begins_in_rows at l (inl first) = inl first
  begins_in_rows at l (inr end) = inr ((end_in_rows at l).1 end)

  pub next_in_rows : (x y : ℕ) → x < y → y < length columns → a.ends ≤ slice_index rows y → ((z : ℕ) → x < z → z < y → slice_index rows z < a.ends) → IsNextEnd t a.width columns x y
  next_in_rows x y further inside end none = record {
    further = further;
    inside = inside;
    ends = (end_in_rows y inside).1 end;
    none_between = λ z above below is.
        let low = none z above below in
        let high = (end_in_rows z (omega (arith, below, inside))).0 is in
        omega (arith, low, high);
  }

  pub rule_in_rows : (at rule : ℕ) → 0 < at → at ≤ length columns → slice_index a.cells (slice_index rows (at - 1) + a.width) ≡ rule → rule ≢ no_rule
      → rule_at t (standing_after t a.width (take at columns)) ≡ Some rule
  rule_in_rows at rule some l e is_rule =
      let last : at - 1 + 1 ≡ at = omega (arith, some) in
      let stands = subst (λ (n : ℕ). StandsFor a h.standings (slice_index rows (at - 1)) (standing_after t a.width (take n columns))) last (are (at - 1) (omega (arith, some, l))) in
      rule_of_number (rule_at t (standing_after t a.width (take at columns))) rule (sym (h.rules (slice_index rows (at - 1)) (standing_after t a.width (take at columns)) stands) ∙ e) is_rule
