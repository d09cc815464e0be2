-- States whose test edges are in one list, after edges are added, or a state is made to reject.
use Rattle.std.proofs.Common.{◌≡◌, ◌≢◌, ℕ, zero, suc, ◌+◌, ◌≤◌, List, [], ◌∷◌, ◌++◌, length, take, drop, get_or, slice_set, refl, ap, ap₂, ◌∙◌, arith}
use Rattle.std.specs.Prelude.{slice_get, Some, None}
use Rattle.std.proofs.lemmas.List.{take-append-le, drop-append-le, length-drop}
use Rattle.lalrpop_hir.specs.Range.{Range}
use Rattle.lalrpop_dfa.specs.Dfa.{Row, StoredState}
use Rattle.lalrpop_dfa.specs.declared.Kind.TheVariants.{Reject}
use Rattle.lalrpop_dfa.specs.Stored.{row_of, rows_of, AreWithin, IsRejecting}

-- edges after those of a state make no difference to it
part_kept : (edges more : List (Range × ℕ)) (first count : ℕ) → first + count ≤ length edges → take count (drop first (edges ++ more)) ≡ take count (drop first edges)
part_kept edges more first count l =
    let long : count ≤ length (drop first edges) = omega (arith, length-drop first edges) in
    ap (take count) (drop-append-le first edges more (omega arith)) ∙ take-append-le count (drop first edges) more long

pub rows_kept : (states : List StoredState) (edges more : List (Range × ℕ)) → AreWithin edges states → rows_of (edges ++ more) states ≡ rows_of edges states
rows_kept [] edges more h = refl
rows_kept (s ∷ states) edges more h =
    ap₂ (λ r rs. r ∷ rs) (ap (λ ts. record { kind = s.kind; tests = ts; other = s.other; items = s.items }) (part_kept edges more s.first s.count (h 0 s refl)))
    (rows_kept states edges more (λ p t e. h (suc p) t e))

-- ---- a state that is made to reject
module _ (edges : List (Range × ℕ)) where
  other_rows : (states : List StoredState) (p q : ℕ) (s : StoredState) → q ≢ p → slice_get (rows_of edges (slice_set states p s)) q ≡ slice_get (rows_of edges states) q
  other_rows [] p q s n = refl
  other_rows (t ∷ states) zero zero s n = absurd (n refl)
  other_rows (t ∷ states) zero (suc q) s n = refl
  other_rows (t ∷ states) (suc p) zero s n = refl
  other_rows (t ∷ states) (suc p) (suc q) s n = other_rows states p q s (λ e. n (ap (λ k. suc k) e))

  same_count : (states : List StoredState) (p : ℕ) (s : StoredState) → length (rows_of edges (slice_set states p s)) ≡ length (rows_of edges states)
  same_count [] p s = refl
  same_count (t ∷ states) zero s = refl
  same_count (t ∷ states) (suc p) s = ap (λ k. suc k) (same_count states p s)

  this_row : (states : List StoredState) (p : ℕ) (s : StoredState) (r : Row) → s ≡ get_or states p s → slice_get (rows_of edges states) p ≡ Some r
      → slice_get (rows_of edges (slice_set states p (record s { kind = Reject }))) p ≡ Some (record r { kind = Reject })
  this_row [] p s r is at = absurd (let e : None ≡ Some r = at in cc)
  this_row (t ∷ states) zero s r is at =
      let row : row_of edges t ≡ r = cc in
      ap (λ (x : StoredState). Some (row_of edges (record x { kind = Reject }))) is ∙ ap (λ (x : Row). Some (record x { kind = Reject })) row
  this_row (t ∷ states) (suc p) s r is at = this_row states p s r is at

  pub rows_rejecting : (states : List StoredState) (p : ℕ) (s : StoredState) → s ≡ get_or states p s
      → IsRejecting (rows_of edges states) p (rows_of edges (slice_set states p (record s { kind = Reject })))
  rows_rejecting states p s is = record {
    same_length = same_count states p (record s { kind = Reject });
    others = λ q n. other_rows states p q (record s { kind = Reject }) n;
    rejects = λ r at. this_row states p s r is at;
  }
