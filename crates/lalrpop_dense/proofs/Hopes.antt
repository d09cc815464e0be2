-- What it means for a text that no match comes from a state.
use Rattle.std.proofs.Common.{◌≡◌, ℕ, ◌<◌, ◌≤◌, ⊎_elim, inl, inr, List, [], ◌∷◌, ◌++◌, length, take, sym, ap, subst, ◌∙◌, arith, append_assoc, length-append}
use Rattle.std.specs.Prelude.{slice_get, Option}
use Rattle.std.specs.Str.{chars, encode_utf8_all}
use Rattle.std.proofs.lemmas.Bool.{cases_lt}
use Rattle.std.proofs.lemmas.Str.{chars-append, encodes-chars}
use Rattle.lalrpop_hir.specs.Tree.{Tree}
use Rattle.lalrpop_hir.specs.Longest.{IsLongest}
use Rattle.lalrpop_hir.specs.Winners.{Matched}
use Rattle.lalrpop_hir.specs.Word.{IsWord}
use Rattle.lalrpop_hir.proofs.Cuts.{IsCut, goes_on}
use Rattle.lalrpop_dfa.specs.Dfa.{Row, step, run, after, Recognizes}
use Rattle.lalrpop_dfa.specs.Lookahead.{IsOpen}
use Rattle.lalrpop_dfa.specs.Internal.Marks.{StaysOpen}
use Rattle.lalrpop_dfa.proofs.AfterLaws.{after_push}
use Rattle.lalrpop_dfa.proofs.LongestLemmas.{IsAfter, IsLongestUpTo, none_after, done}
use Rattle.lalrpop_dfa.proofs.Recognized.{not_matched}
use Rattle.lalrpop_hir.proofs.TextWords.{IsWord-append, text_word}
use Rattle.lalrpop_dense.specs.Internal.Hopeless.{IsHopeless}

-- open states, and then no match
pub hopeless_join : (d : List Row) (p : ℕ) (u w : List ℕ) → StaysOpen d p u → IsHopeless d (run d p u) w → IsHopeless d p (u ++ w)
hopeless_join d p [] w s h = h
hopeless_join d p (c ∷ u) w s h = inr (s.0, hopeless_join d (step d p c) u w s.1 h)

pub stays_join : (d : List Row) (p : ℕ) (u : List ℕ) (c : ℕ) → StaysOpen d p u → IsOpen d (step d (run d p u) c) → StaysOpen d p (u ++ c ∷ [])
stays_join d p [] c s o = (o, tt)
stays_join d p (b ∷ u) c s o = (s.0, stays_join d (step d p b) u c s.1 o)

-- what was read, followed by a nonempty prefix of the word, isn't a match
pub hopeless_none : (d : List Row) (ts : List Tree) (ps : List ℕ) → Recognizes d ts ps → (u v z : List ℕ) (q c : ℕ) → IsWord v → IsWord (c ∷ u) → q ≡ after d v
    → IsHopeless d q (c ∷ (u ++ z)) → ¬ Matched ts (v ++ c ∷ u)
hopeless_none d ts ps h u v z q c before behind reached (inl r) =
    let there : step d q c ≡ after d (v ++ c ∷ []) = ap (λ (p : ℕ). step d p c) reached ∙ sym (after_push d v c) in
    subst (λ (w : List ℕ). ¬ Matched ts w) (append_assoc v (c ∷ []) u) (none_after d ts ps (v ++ c ∷ []) u (step d q c) (IsWord-append v (c ∷ []) before (behind.0, tt)) behind.1 h there r)
hopeless_none d ts ps h [] v z q c before behind reached (inr o) =
    let there : step d q c ≡ after d (v ++ c ∷ []) = ap (λ (p : ℕ). step d p c) reached ∙ sym (after_push d v c) in
    not_matched (slice_get d (after d (v ++ c ∷ []))) ts ps (v ++ c ∷ []) (h.kinds (v ++ c ∷ []) (IsWord-append v (c ∷ []) before behind)) (inl (subst (λ (p : ℕ). IsOpen d p) there o.0))
hopeless_none d ts ps h (b ∷ u) v z q c before behind reached (inr o) =
    let there : step d q c ≡ after d (v ++ c ∷ []) = ap (λ (p : ℕ). step d p c) reached ∙ sym (after_push d v c) in
    subst (λ (w : List ℕ). ¬ Matched ts w) (append_assoc v (c ∷ []) (b ∷ u)) (hopeless_none d ts ps h u (v ++ c ∷ []) z (step d q c) b (IsWord-append v (c ∷ []) before (behind.0, tt)) behind.1 there o.1)

-- where no match comes from the state, the longest match so far is the longest
pub longest_hopeless : (d : List Row) (ts : List Tree) (ps text rest : List ℕ) (at state : ℕ) (best : Option (ℕ × List ℕ)) → Recognizes d ts ps → IsCut text at rest
    → IsAfter d text at state → IsHopeless d state (chars rest) → IsLongestUpTo ts ps text at best → IsLongest ts ps text best
longest_hopeless d ts ps text rest at state best stands h a none up =
    done ts ps text at best
    (λ p m.
    ⊎_elim (λ (above : at < length p).
    let g = goes_on text rest at p h m.0 (omega arith) in
    let word : chars p ≡ chars (take at text) ++ chars g.more = ap chars g.is ∙ chars-append (take at text) g.more h.seen_utf8 in
    let left : chars rest ≡ chars g.more ++ chars g.left = ap chars g.rest_is ∙ chars-append g.more g.left g.utf8 in
    let some : 0 < length g.more = omega (arith, ap length g.is, length-append (take at text) g.more, h.place) in
    absurd (further g.more (chars g.left) (chars g.more) (text_word g.more g.utf8) (encodes-chars g.more g.utf8) some (subst (IsHopeless d state) left none) (subst (Matched ts) word m.2)))
    (λ (below : length p ≤ at). below)
    (cases_lt at (length p)))
    up
  where
    further : (more z cs : List ℕ) → IsWord cs → encode_utf8_all cs ≡ more → 0 < length more → IsHopeless d state (cs ++ z) → ¬ Matched ts (chars (take at text) ++ cs)
    further more z [] word e some n = absurd (omega (arith, ap length e))
    further more z (c ∷ u) word e some n = hopeless_none d ts ps stands u (chars (take at text)) z state c (text_word (take at text) h.seen_utf8) word a.reached n
