-- What one rule more, behind the others, leaves as it is.
use Rattle.std.proofs.Common.{◌≡◌, ℕ, ◌<◌, ◌≤◌, ◌⊎◌, inl, inr, List, [], ◌∷◌, ◌++◌, length, arith}
use Rattle.std.specs.Prelude.{Option, Some, None, IsSomeAnd, slice_index}
use Rattle.std.specs.Str.{chars}
use Rattle.std.proofs.lemmas.List.{get_or_append_left, get_or_push}
use Rattle.std.proofs.lemmas.Option.{some_pair_parts}
use Rattle.lalrpop_hir.specs.Tree.{Tree}
use Rattle.lalrpop_hir.specs.Winners.{TreeMatches, IsStrongest, IsOnlyStrongest}
use Rattle.lalrpop_hir.specs.Longest.{IsMatch, IsLongest}
use Rattle.lalrpop_hir.proofs.Longests.{longest-unique}
use Rattle.lalrpop_dense.proofs.Decided.{matches_inside}
use Rattle.lalrpop_hir.proofs.Pushed.{pushed_cases, pushed_keeps}

module _ (ts : List Tree) (t : Tree) where
  still_matches : (w : List ℕ) (i : ℕ) → TreeMatches ts w i → TreeMatches (ts ++ t ∷ []) w i
  still_matches w i m = (m.0, (pushed_keeps ts t i m.0 m.1.0, m.1.1))

  matched_before : (w : List ℕ) (i : ℕ) → TreeMatches (ts ++ t ∷ []) w i → TreeMatches ts w i ⊎ (i ≡ length ts)
  matched_before w i m = elim (pushed_cases ts t i m.0 m.1.0) [ inl h ↦ inl (m.0, (h, m.1.1)) | inr h ↦ inr h.0 ]

  still_match : (text p : List ℕ) → IsMatch ts text p → IsMatch (ts ++ t ∷ []) text p
  still_match text p m = (m.0, m.1, (m.2.0, still_matches (chars p) m.2.0 m.2.1))

  -- the longest match doesn't get shorter
  pub not_shorter : (ps qs text : List ℕ) (m : ℕ × List ℕ) (found : Option (ℕ × List ℕ)) → IsLongest ts ps text (Some m)
      → IsLongest (ts ++ t ∷ []) qs text found → IsSomeAnd found (λ n. length m.1 ≤ length n.1)
  not_shorter ps qs text m None longest more = more m.1 (still_match text m.1 longest.0)
  not_shorter ps qs text m (Some n) longest more = more.1 m.1 (still_match text m.1 longest.0)

-- ---- a rule that is weaker than all others
module _ (ts : List Tree) (ps : List ℕ) (t : Tree) (p : ℕ) (one_each : length ps ≡ length ts) (weaker : (i : ℕ) → i < length ts → p < slice_index ps i) where
  precedence_stays : (i : ℕ) → i < length ts → slice_index (ps ++ p ∷ []) i ≡ slice_index ps i
  precedence_stays i l = get_or_append_left ps (p ∷ []) 0 i (omega arith)

  last_precedence : (i : ℕ) → i ≡ length ts → slice_index (ps ++ p ∷ []) i ≡ p
  last_precedence i e = get_or_push ps p 0 i (omega arith)

  -- a word that was matched has the same strongest trees
  pub strongest_stays : (w : List ℕ) (i : ℕ) → IsStrongest ts ps w i → IsStrongest (ts ++ t ∷ []) (ps ++ p ∷ []) w i
  strongest_stays w i top = (still_matches ts t w i top.0, λ j m. at_most j (matched_before ts t w j m))
    where
      at_most : (j : ℕ) → TreeMatches ts w j ⊎ (j ≡ length ts) → slice_index (ps ++ p ∷ []) j ≤ slice_index (ps ++ p ∷ []) i
      at_most j (inl m) = omega (arith, precedence_stays i (matches_inside ts w i top.0), precedence_stays j (matches_inside ts w j m), top.1 j m)
      at_most j (inr e) = omega (arith, precedence_stays i (matches_inside ts w i top.0), last_precedence j e, weaker i (matches_inside ts w i top.0))

  pub strongest_before : (w : List ℕ) (i j : ℕ) → TreeMatches ts w i → IsStrongest (ts ++ t ∷ []) (ps ++ p ∷ []) w j → IsStrongest ts ps w j
  strongest_before w i j matched top = by_place (matched_before ts t w j top.0)
    where
      by_place : TreeMatches ts w j ⊎ (j ≡ length ts) → IsStrongest ts ps w j
      by_place (inl m) = (m, λ k n. omega (arith, precedence_stays j (matches_inside ts w j m), precedence_stays k (matches_inside ts w k n), top.1 k (still_matches ts t w k n)))
      by_place (inr e) = absurd (omega (arith, last_precedence j e, precedence_stays i (matches_inside ts w i matched), weaker i (matches_inside ts w i matched), top.1 i (still_matches ts t w i matched)))

  pub only_strongest_stays : (w : List ℕ) (i : ℕ) → IsOnlyStrongest ts ps w i → IsOnlyStrongest (ts ++ t ∷ []) (ps ++ p ∷ []) w i
  only_strongest_stays w i only = (strongest_stays w i only.0, λ j top. only.1 j (strongest_before w i j only.0.0 top))

  -- a match of the same length has the same winner
  pub winner_stays : (text : List ℕ) (m n : ℕ × List ℕ) → IsLongest ts ps text (Some m) → IsLongest (ts ++ t ∷ []) (ps ++ p ∷ []) text (Some n)
      → length m.1 ≡ length n.1 → (m.0 ≡ n.0) × (m.1 ≡ n.1)
  winner_stays text m n longest more size = some_pair_parts m.0 n.0 m.1 n.1 (longest-unique (ts ++ t ∷ []) (ps ++ p ∷ []) text (Some m) (Some n) (
    still_match ts t text m.1 longest.0,
    (λ q match. omega (arith, size, more.1 q match)),
    (strongest_stays (chars m.1) m.0 longest.2.0, λ j top. longest.2.1 j (strongest_before (chars m.1) m.0 j longest.2.0.0 top)),
  ) more)
