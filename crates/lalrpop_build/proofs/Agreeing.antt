-- One tree: the longest match of its own automaton and that of the automaton of a list of only this tree agree, by the clauses
-- of the two runs.
use Rattle.std.proofs.Common.{◌≡◌, ℕ, zero, suc, ◌≤◌, List, [], ◌∷◌, length, take, Option, Some, None, arith, refl, sym, ap, ap₂, subst, ◌∙◌}
use Rattle.std.specs.List.{slice_get}
use Rattle.std.specs.Str.{chars}
use Rattle.std.proofs.lemmas.List.{take_at, nil_from_length}
use Rattle.std.proofs.lemmas.Option.{same_Some, none-some}
use Rattle.lalrpop_hir.specs.Tree.{Tree}
use Rattle.lalrpop_hir.specs.Language.{Matches}
use Rattle.lalrpop_hir.specs.Prefix.{IsPrefix, IsLongestOf}
use Rattle.lalrpop_hir.specs.Winners.{TreeMatches, Matched}
use Rattle.lalrpop_hir.specs.Longest.{IsLongest}
use Rattle.lalrpop_build.specs.Agree.{Agree}

-- a list of one tree has it at the index 0, and no other
only_place : (t u : Tree) (i : ℕ) → slice_get (t ∷ []) i ≡ Some u → (i ≡ 0) × (t ≡ u)
only_place t u zero at = (refl, same_Some t u at)
only_place t u (suc i) at = absurd (none-some u at)

who_matches : (t : Tree) (w : List ℕ) (i : ℕ) → TreeMatches (t ∷ []) w i → Matches t w
who_matches t w i who = subst (λ u. Matches u w) (sym (only_place t who.0 i who.1.0).1) who.1.1

matches_matched : (t : Tree) (w : List ℕ) → Matches t w → Matched (t ∷ []) w
matches_matched t w matches = (0, (t, (refl, matches)))

-- two prefixes of the same length are equal
same_prefix : (p q text : List ℕ) → IsPrefix p text → IsPrefix q text → length p ≡ length q → p ≡ q
same_prefix p q text a b size =
    sym (take_at p a.0 (length p) refl) ∙ ap (take (length p)) (sym a.1.0 ∙ b.1.0) ∙ take_at q b.0 (length p) (sym size)

pub agree : (t : Tree) (ps text : List ℕ) (one : Option (List ℕ)) (found : Option (ℕ × List ℕ)) → IsLongestOf (Matches t) text one
    → IsLongest (t ∷ []) ps text found → Agree one found
agree t ps text None None h k = refl
agree t ps text None (Some m) h k = absurd (h m.1 k.0.0 (who_matches t (chars m.1) k.0.2.0 k.0.2.1))
agree t ps text (Some []) None h k = refl
agree t ps text (Some []) (Some m) h k =
    let short : length m.1 ≤ 0 = h.2 m.1 k.0.0 (who_matches t (chars m.1) k.0.2.0 k.0.2.1) in
    absurd (k.0.1 (nil_from_length m.1 (omega arith)))
agree t ps text (Some (b ∷ bs)) None h k = absurd (k (b ∷ bs) (h.0, (λ none. cc), matches_matched t (chars (b ∷ bs)) h.1))
agree t ps text (Some (b ∷ bs)) (Some m) h k = ap₂ (λ (i : ℕ) (p : List ℕ). Some (i, p)) place same
  where
    place : m.0 ≡ 0
    place = (only_place t k.2.0.0.0 m.0 k.2.0.0.1.0).0

    low : length m.1 ≤ length (b ∷ bs)
    low = h.2 m.1 k.0.0 (who_matches t (chars m.1) k.0.2.0 k.0.2.1)

    high : length (b ∷ bs) ≤ length m.1
    high = k.1 (b ∷ bs) (h.0, (λ none. cc), matches_matched t (chars (b ∷ bs)) h.1)

    same : m.1 ≡ b ∷ bs
    same = same_prefix m.1 (b ∷ bs) text k.0.0 h.0 (omega (arith, low, high))
