-- What is kept of pieces, one after another: it joins and splits, it stays where the text stays, and it moves with its text.
use Rattle.std.proofs.Common.{◌≡◌, ◌≢◌, ℕ, ◌+◌, ◌-◌, ◌<◌, ◌≤◌, List, [], ◌∷◌, ◌++◌, length, take, drop, arith, refl, sym, ap, subst, ◌∙◌, length-append, length-drop}
use Rattle.std.specs.Prelude.{Option, Some, None}
use Rattle.std.specs.Str.{IsUtf8, IsCharBoundary}
use Rattle.std.proofs.lemmas.List.{drop-drop}
use Rattle.std.proofs.lemmas.Str.{IsUtf8-drop, IsCharBoundary-from_rest}
use Rattle.lalrpop_hir.specs.Tree.{Tree}
use Rattle.lalrpop_hir.specs.Prefix.{IsPrefix}
use Rattle.lalrpop_lexer.proofs.Cuttings.{cut_behind}
use Rattle.lalrpop_rules.proofs.FirstMatches.{some_length}
use Rattle.lalrpop_rules.proofs.PieceLaws.{after_prefix, fault_utf8}
use Rattle.bajofeki_rules.specs.Stack.{Stack}
use Rattle.lalrpop_rules.specs.Modes.{ModeRules, trees_in}
use Rattle.bajofeki.specs.Internal.Reach.{AreAlike}
use Rattle.bajofeki.specs.Internal.Kept.{rule_of, reach_of, after_kept, IsFront, IsKept, KeptUpTo, AreWithin, ReadsOn}
use Rattle.bajofeki.specs.declared.kept.Kept.{Kept}
use Rattle.bajofeki.proofs.Alike.{alike_less, alike_behind, alike_length}

-- ---- one piece

-- it begins the bytes
pub front_split : (ts : List Tree) (ps bytes : List ℕ) (o : Option ℕ) (slice : List ℕ) → IsFront ts ps bytes o slice
    → (rest : List ℕ) × (bytes ≡ slice ++ rest)
front_split ts ps bytes None slice is = is.front
front_split ts ps bytes (Some i) slice is = after_prefix slice bytes is.0.0.0

-- and is a prefix of a text
pub front_prefix : (ts : List Tree) (ps text : List ℕ) (o : Option ℕ) (slice : List ℕ) → IsUtf8 text → IsFront ts ps text o slice → IsPrefix slice text
front_prefix ts ps text None slice u is = (is.front.0, (is.front.1, fault_utf8 ts text slice u is))
front_prefix ts ps text (Some i) slice u is = is.0.0.0

-- and not empty
pub front_some : (ts : List Tree) (ps text : List ℕ) (o : Option ℕ) (slice : List ℕ) → IsFront ts ps text o slice → slice ≢ []
front_some ts ps text None slice is = is.some
front_some ts ps text (Some i) slice is = is.0.0.1

-- so what is kept of it is the size of its first bytes, of which there are some
pub kept_slice : (r : ModeRules) (mode : ℕ) (text : List ℕ) (k : Kept) → IsKept r mode text k
    → (slice : List ℕ) × ((length slice ≡ k.size) × ((rest : List ℕ) × (text ≡ slice ++ rest)) × (slice ≢ []))
kept_slice r mode text k kept =
    let is = kept.front text refl in
    (is.0, (is.1.0, front_split _ r.precedences text (rule_of k) is.0 is.1.1, front_some _ r.precedences text (rule_of k) is.0 is.1.1))

-- or of a prefix of a text
pub kept_prefix : (r : ModeRules) (mode : ℕ) (text : List ℕ) (k : Kept) → IsUtf8 text → IsKept r mode text k
    → (slice : List ℕ) × ((length slice ≡ k.size) × IsPrefix slice text)
kept_prefix r mode text k u kept =
    let is = kept.front text refl in (is.0, (is.1.0, front_prefix _ r.precedences text (rule_of k) is.0 u is.1.1))

pub kept_some : (r : ModeRules) (mode : ℕ) (text : List ℕ) (k : Kept) → IsKept r mode text k → 0 < k.size
kept_some r mode text k kept = let p = kept_slice r mode text k kept in omega (arith, p.1.0, some_length p.0 p.1.2)

pub kept_fits : (r : ModeRules) (mode : ℕ) (text : List ℕ) (k : Kept) → IsKept r mode text k → k.size ≤ length text
kept_fits r mode text k kept = let p = kept_slice r mode text k kept in omega (arith, p.1.0, ap length p.1.1.1, length-append p.0 p.1.1.0)

-- it is kept of each text that is alike as far as it depends on it
pub kept_alike : (r : ModeRules) (mode : ℕ) (text text2 : List ℕ) (k : Kept) → AreAlike (reach_of k) text text2 → IsKept r mode text k → IsKept r mode text2 k
kept_alike r mode text text2 k alike kept = record {
  front = λ third near. kept.front third (alike ∙ near);
  reads = λ n behind before fits whole.
      let same : take n text ≡ take n text2 = alike_less n (reach_of k) text text2 (omega (arith, before)) alike in
      let there : n ≤ length text = alike_length n text2 text fits (sym same) in
      subst (λ (seen : List ℕ). ReadsOn (trees_in r mode) seen (rule_of k) k.size) same
      (kept.reads n behind before there (subst IsUtf8 (sym same) whole));
}

-- ---- pieces one after another

pub kept_join : (r : ModeRules) (text : List ℕ) (at : ℕ) (s : Stack) (ks : List Kept) (mid : ℕ) (u : Stack) (ls : List Kept) (to : ℕ) (t : Stack)
    → KeptUpTo r text at s ks mid u → KeptUpTo r text mid u ls to t → KeptUpTo r text at s (ks ++ ls) to t
kept_join r text at s [] mid u ls to t here more =
    subst (λ (a : ℕ). KeptUpTo r text a s ls to t) (sym here.0) (subst (λ (v : Stack). KeptUpTo r text mid v ls to t) (sym here.1) more)
kept_join r text at s (k ∷ ks) mid u ls to t are more = (are.0, kept_join r text (at + k.size) (after_kept r k s) ks mid u ls to t are.1 more)

pub kept_split : (r : ModeRules) (text : List ℕ) (at : ℕ) (s : Stack) (ks ls : List Kept) (to : ℕ) (t : Stack) → KeptUpTo r text at s (ks ++ ls) to t
    → (mid : ℕ) × ((u : Stack) × (KeptUpTo r text at s ks mid u × KeptUpTo r text mid u ls to t))
kept_split r text at s [] ls to t are = (at, (s, ((refl, refl), are)))
kept_split r text at s (k ∷ ks) ls to t are =
    let p = kept_split r text (at + k.size) (after_kept r k s) ks ls to t are.1 in (p.0, (p.1.0, ((are.0, p.1.1.0), p.1.1.1)))

-- a piece more at the end
pub kept_more : (r : ModeRules) (text : List ℕ) (at : ℕ) (s : Stack) (ks : List Kept) (to : ℕ) (t : Stack) (k : Kept) → KeptUpTo r text at s ks to t
    → IsKept r t.mode (drop to text) k → KeptUpTo r text at s (ks ++ k ∷ []) (to + k.size) (after_kept r k t)
kept_more r text at s ks to t k are is = kept_join r text at s ks to t (k ∷ []) (to + k.size) (after_kept r k t) are (is, (refl, refl))

-- where they end, and with which stack, the pieces alone tell
pub kept_ends : (r : ModeRules) (text text2 : List ℕ) (at : ℕ) (s : Stack) (ks : List Kept) (to : ℕ) (t : Stack) (to2 : ℕ) (t2 : Stack)
    → KeptUpTo r text at s ks to t → KeptUpTo r text2 at s ks to2 t2 → (to ≡ to2) × (t ≡ t2)
kept_ends r text text2 at s [] to t to2 t2 here here2 = (sym here.0 ∙ here2.0, sym here.1 ∙ here2.1)
kept_ends r text text2 at s (k ∷ ks) to t to2 t2 are are2 = kept_ends r text text2 (at + k.size) (after_kept r k s) ks to t to2 t2 are.1 are2.1

pub kept_unique : (r : ModeRules) (text : List ℕ) (at : ℕ) (s : Stack) (ks : List Kept) (to : ℕ) (t : Stack) (to2 : ℕ) (t2 : Stack)
    → KeptUpTo r text at s ks to t → KeptUpTo r text at s ks to2 t2 → (to ≡ to2) × (t ≡ t2)
kept_unique r text at s ks to t to2 t2 are are2 = kept_ends r text text at s ks to t to2 t2 are are2

-- they go forward
pub kept_forward : (r : ModeRules) (text : List ℕ) (at : ℕ) (s : Stack) (ks : List Kept) (to : ℕ) (t : Stack) → KeptUpTo r text at s ks to t → at ≤ to
kept_forward r text at s [] to t here = omega (arith, here.0)
kept_forward r text at s (k ∷ ks) to t are = omega (arith, kept_forward r text (at + k.size) (after_kept r k s) ks to t are.1)

-- and not past the end of the text
pub kept_within : (r : ModeRules) (text : List ℕ) (at : ℕ) (s : Stack) (ks : List Kept) (to : ℕ) (t : Stack) → at ≤ length text → KeptUpTo r text at s ks to t
    → to ≤ length text
kept_within r text at s [] to t le here = omega (arith, here.0)
kept_within r text at s (k ∷ ks) to t le are =
    kept_within r text (at + k.size) (after_kept r k s) ks to t
    (omega (arith, kept_fits r s.mode (drop at text) k are.0, length-drop at text)) are.1

-- there are no more of them than bytes
pub kept_count : (r : ModeRules) (text : List ℕ) (at : ℕ) (s : Stack) (ks : List Kept) (to : ℕ) (t : Stack) → KeptUpTo r text at s ks to t → at + length ks ≤ to
kept_count r text at s [] to t here = omega (arith, here.0)
kept_count r text at s (k ∷ ks) to t are =
    omega (arith, kept_some r s.mode (drop at text) k are.0, kept_count r text (at + k.size) (after_kept r k s) ks to t are.1)

-- they end where a character begins, or at the end of the text
pub kept_boundary : (r : ModeRules) (text : List ℕ) (at : ℕ) (s : Stack) (ks : List Kept) (to : ℕ) (t : Stack) → IsCharBoundary text at → IsUtf8 (drop at text)
    → KeptUpTo r text at s ks to t → IsCharBoundary text to
kept_boundary r text at s [] to t here u e = subst (IsCharBoundary text) e.0 here
kept_boundary r text at s (k ∷ ks) to t here u are =
    let p = kept_prefix r s.mode (drop at text) k u are.0 in
    let cut = cut_behind p.0 (drop at text) u p.1.1 in
    let next : IsCharBoundary text (at + k.size) =
    subst (λ (n : ℕ). IsCharBoundary text (at + n)) p.1.0 (IsCharBoundary-from_rest text at (length p.0) here.0 cut) in
    let left : IsUtf8 (drop (at + k.size) text) =
    subst (λ (n : ℕ). IsUtf8 (drop (at + n) text)) p.1.0 (subst IsUtf8 (drop-drop (length p.0) at text) (IsUtf8-drop (drop at text) (length p.0) u cut)) in
    kept_boundary r text (at + k.size) (after_kept r k s) ks to t next left are.1

-- ---- another text

-- in front: what depends on no more than both texts have in common is kept of both
pub kept_front : (r : ModeRules) (text text2 : List ℕ) (at : ℕ) (s : Stack) (ks : List Kept) (to : ℕ) (t : Stack) (reach : ℕ) → AreAlike reach text text2
    → AreWithin reach at ks → KeptUpTo r text at s ks to t → KeptUpTo r text2 at s ks to t
kept_front r text text2 at s [] to t reach alike within here = here
kept_front r text text2 at s (k ∷ ks) to t reach alike within are =
    let close : AreAlike (reach_of k) (drop at text) (drop at text2) =
    alike_behind at (reach_of k) text text2 (alike_less (at + reach_of k) reach text text2 within.0 alike) in (
      kept_alike r s.mode (drop at text) (drop at text2) k close are.0,
      kept_front r text text2 (at + k.size) (after_kept r k s) ks to t reach alike within.1 are.1,
    )

-- after: equal rests have the same, and nothing that is kept changes
pub kept_behind : (r : ModeRules) (text text2 : List ℕ) (at at2 : ℕ) (s : Stack) (ks : List Kept) (n : ℕ) (t : Stack) → drop at text ≡ drop at2 text2
    → KeptUpTo r text at s ks (at + n) t → KeptUpTo r text2 at2 s ks (at2 + n) t
kept_behind r text text2 at at2 s [] n t e here = (omega (arith, here.0), here.1)
kept_behind r text text2 at at2 s (k ∷ ks) n t e are =
    let behind : drop (at + k.size) text ≡ drop (at2 + k.size) text2 =
    sym (drop-drop k.size at text) ∙ ap (drop k.size) e ∙ drop-drop k.size at2 text2 in
    let enough : k.size ≤ n = omega (arith, kept_forward r text (at + k.size) (after_kept r k s) ks (at + n) t are.1) in
    let m : ℕ = n - k.size in
    let far : at + n ≡ (at + k.size) + m = omega (arith, enough) in
    let far2 : (at2 + k.size) + m ≡ at2 + n = omega (arith, enough) in
    let later : KeptUpTo r text (at + k.size) (after_kept r k s) ks ((at + k.size) + m) t =
    subst (λ (to : ℕ). KeptUpTo r text (at + k.size) (after_kept r k s) ks to t) far are.1 in (
      subst (λ (rest : List ℕ). IsKept r s.mode rest k) e are.0,
      subst (λ (to : ℕ). KeptUpTo r text2 (at2 + k.size) (after_kept r k s) ks to t) far2
          (kept_behind r text text2 (at + k.size) (at2 + k.size) (after_kept r k s) ks m t behind later),
    )

-- ---- how far they depend on the text

pub within_more : (n m at : ℕ) (ks : List Kept) → n ≤ m → AreWithin n at ks → AreWithin m at ks
within_more n m at [] le within = tt
within_more n m at (k ∷ ks) le within = (omega (arith, within.0), within_more n m (at + k.size) ks le within.1)

pub within_join : (r : ModeRules) (text : List ℕ) (at : ℕ) (s : Stack) (ks : List Kept) (mid : ℕ) (u : Stack) (ls : List Kept) (reach : ℕ)
    → KeptUpTo r text at s ks mid u → AreWithin reach at ks → AreWithin reach mid ls → AreWithin reach at (ks ++ ls)
within_join r text at s [] mid u ls reach here within more = subst (λ (a : ℕ). AreWithin reach a ls) (sym here.0) more
within_join r text at s (k ∷ ks) mid u ls reach are within more =
    (within.0, within_join r text (at + k.size) (after_kept r k s) ks mid u ls reach are.1 within.1 more)

pub within_split : (r : ModeRules) (text : List ℕ) (at : ℕ) (s : Stack) (ks : List Kept) (mid : ℕ) (u : Stack) (ls : List Kept) (reach : ℕ)
    → KeptUpTo r text at s ks mid u → AreWithin reach at (ks ++ ls) → AreWithin reach at ks × AreWithin reach mid ls
within_split r text at s [] mid u ls reach here within = (tt, subst (λ (a : ℕ). AreWithin reach a ls) here.0 within)
within_split r text at s (k ∷ ks) mid u ls reach are within =
    let p = within_split r text (at + k.size) (after_kept r k s) ks mid u ls reach are.1 within.1 in ((within.0, p.0), p.1)

-- from another place on it is as far
pub within_behind : (at at2 : ℕ) (ks : List Kept) (n : ℕ) → AreWithin (at + n) at ks → AreWithin (at2 + n) at2 ks
within_behind at at2 ks n within = shifted at at2 (at + n) (at2 + n) ks (omega arith) within
  where
    shifted : (a b m l : ℕ) (ls : List Kept) → m + b ≡ l + a → AreWithin m a ls → AreWithin l b ls
    shifted a b m l [] e w = tt
    shifted a b m l (k ∷ ls) e w = (omega (arith, e, w.0), shifted (a + k.size) (b + k.size) m l ls (omega (arith, e)) w.1)
