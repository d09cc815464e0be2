-- What is read begins words that match.
use Rattle.std.proofs.Common.{◌≡◌, ◌≢◌, ℕ, ◌+◌, ◌-◌, ◌<◌, ◌≤◌, ◌⊎◌, inl, inr, List, [], ◌++◌, length, take, drop, max, arith, refl, sym, ap, subst, ◌∙◌, length-take, length-drop, take-take}
use Rattle.std.specs.Prelude.{Option, Some, None}
use Rattle.std.specs.List.{All}
use Rattle.std.specs.Str.{chars, IsUtf8, IsCharBoundary}
use Rattle.std.proofs.lemmas.Bool.{cases_lt}
use Rattle.std.proofs.lemmas.List.{append-nil, take-append-drop, take-append-le, take_at, drop-take}
use Rattle.std.proofs.lemmas.Str.{chars-append, IsCharBoundary-from_take, IsUtf8-drop}
use Rattle.lalrpop_hir.specs.Tree.{Tree}
use Rattle.lalrpop_hir.specs.Longest.{IsLongest, IsMatch}
use Rattle.lalrpop_hir.specs.Winners.{Matched}
use Rattle.lalrpop_dfa.specs.Dfa.{Row, after, RecognizesAll}
use Rattle.lalrpop_dfa.specs.Lookahead.{IsTrim, IsAccepting}
use Rattle.lalrpop_dfa.specs.declared.Kind.TheVariants.{Neither}
use Rattle.lalrpop_lexer.proofs.Cuttings.{some_char}
use Rattle.lalrpop_dfa.proofs.AfterLaws.{run_append}
use Rattle.lalrpop_dfa.proofs.Recognized.{accepted_matched}
use Rattle.bajofeki.specs.Lexed.{BeginsLonger, ReadsTo}
use Rattle.bajofeki.specs.declared.walker.Walker.{Walker}
use Rattle.bajofeki.specs.Internal.Kept.{ReadsOn, IsReadFor}
use Rattle.bajofeki.specs.Internal.Paying.{size_of}
use Rattle.bajofeki.specs.Internal.Walking.{IsWalkerOf, behind, says}
use Rattle.bajofeki.proofs.Alike.{alike_boundary}
use Rattle.bajofeki.proofs.Walking.{said_kind, text_scalars}

-- all fronts of the text that are longer than the size and shorter than the reach lead to open places
abbrev pub AreOpen : Walker → List ℕ → ℕ → ℕ → Type 0
AreOpen w text size reach = (n : ℕ) → size < n → n < reach → n ≤ length text → IsUtf8 (take n text) → says w (behind w (chars (take n text))) ≡ Neither

-- a match is its front, and what follows that
match_split : (ts : List Tree) (text p : List ℕ) (n : ℕ) → IsMatch ts text p → n ≤ length p → IsUtf8 (take n text) → chars p ≡ chars (take n text) ++ chars (drop n p)
match_split ts text p n m le u =
    let front : take n text ≡ take n p = ap (take n) m.0.1.0 ∙ take-append-le n p m.0.0 le in
    ap chars (sym (take-append-drop n p)) ∙ chars-append (take n p) (drop n p) (subst IsUtf8 front u) ∙ ap (λ (t : List ℕ). chars t ++ chars (drop n p)) (sym front)

-- a front of a match begins a word that some tree matches
match_begun : (ts : List Tree) (text p : List ℕ) (n : ℕ) → IsMatch ts text p → n ≤ length p → IsUtf8 (take n text) → (v : List ℕ) × Matched ts (chars (take n text) ++ v)
match_begun ts text p n m le u = (chars (drop n p), subst (Matched ts) (match_split ts text p n m le u) m.2)

-- a longer one, if it isn't the whole match
pub match_longer : (ts : List Tree) (text p : List ℕ) (n : ℕ) → IsMatch ts text p → n < length p → IsUtf8 (take n text) → BeginsLonger ts (take n text)
match_longer ts text p n m less u =
    let front : take n text ≡ take n p = ap (take n) m.0.1.0 ∙ take-append-le n p m.0.0 (omega (arith, less)) in
    let utf8 : IsUtf8 (drop n p) =
    IsUtf8-drop p n m.0.1.1 (IsCharBoundary-from_take p n m.0.1.1 (omega (arith, less)) (subst IsUtf8 front u)) in
    let some : 0 < length (chars (drop n p)) = some_char (drop n p) utf8 (λ none. omega (arith, less, length-drop n p, ap length none)) in
    (chars (drop n p), ((λ none. omega (arith, some, ap length none)), subst (Matched ts) (match_split ts text p n m (omega (arith, less)) u) m.2))

-- what goes on past the longest match begins a longer word
pub past_longest : (ts : List Tree) (ps text : List ℕ) (o : Option (ℕ × List ℕ)) (n : ℕ) → IsLongest ts ps text o → size_of o < n → n ≤ length text → IsUtf8 (take n text)
    → (v : List ℕ) × Matched ts (chars (take n text) ++ v) → BeginsLonger ts (take n text)
past_longest ts ps text o n longest above within u (v, m) = (v, (none_here o longest above, m))
  where
    whole : v ≡ [] → IsMatch ts text (take n text)
    whole none =
        let size : length (take n text) ≡ n = omega (arith, length-take n text, within) in
        let word : chars (take n text) ++ v ≡ chars (take n text) = ap (λ (x : List ℕ). chars (take n text) ++ x) none ∙ append-nil (chars (take n text)) in
        ((drop n text, (sym (take-append-drop n text), u)), (λ empty. omega (arith, above, size, ap length empty)), subst (Matched ts) word m)

    none_here : (o : Option (ℕ × List ℕ)) → IsLongest ts ps text o → size_of o < n → v ≢ []
    none_here None longest above none = longest (take n text) (whole none)
    none_here (Some m) longest above none = omega (arith, above, longest.1 (take n text) (whole none), length-take n text, within)

-- so does the whole match
pub match_reads : (ts : List Tree) (text p : List ℕ) (k : ℕ) → IsMatch ts (drop k text) p → ReadsTo ts text k (k + length p)
match_reads ts text p k m =
    let size : (k + length p) - k ≡ length p = omega arith in
    let front : take ((k + length p) - k) (drop k text) ≡ p = ap (λ (j : ℕ). take j (drop k text)) size ∙ ap (take (length p)) m.0.1.0 ∙ take_at p m.0.0 (length p) refl in
    (omega arith, ([], subst (λ (t : List ℕ). Matched ts (chars t ++ [])) (sym front) (subst (Matched ts) (sym (append-nil (chars p))) m.2)))

module _ (w : Walker) (d : List Row) (ts : List Tree) (ps : List ℕ) (walks : IsWalkerOf w d) (trim : IsTrim d) (h : RecognizesAll d ts ps) where
  -- from an open place a match comes
  pub open_matches : (u : List ℕ) → All (λ c. c < 1114112) u → says w (behind w u) ≡ Neither → (v : List ℕ) × Matched ts (u ++ v)
  open_matches u scalars neither =
      let live = trim (after d u) (said_kind w d walks u Neither scalars neither) in
      (live.0, accepted_matched d ts ps h (u ++ live.0) (subst (IsAccepting d) (sym (run_append d 0 u live.0)) live.1))

  pub open_reads : (text : List ℕ) (k n : ℕ) → IsUtf8 (take n (drop k text)) → says w (behind w (chars (take n (drop k text)))) ≡ Neither → ReadsTo ts text k (k + n)
  open_reads text k n u neither =
      let m = open_matches (chars (take n (drop k text))) (text_scalars (take n (drop k text)) u) neither in
      let size : (k + n) - k ≡ n = omega arith in
      (omega arith, (m.0, subst (λ (j : ℕ). Matched ts (chars (take j (drop k text)) ++ m.0)) (sym size) m.1))

  -- ---- what a piece depends on

  pub token_read : (text : List ℕ) (i size reach : ℕ) → AreOpen w text size reach → IsReadFor ts text (Some i) size reach
  token_read text i size reach neither n above below within u = open_matches (chars (take n text)) (text_scalars (take n text) u) (neither n above below within u)

-- no more was read than begins words from the characters up to this place on
pub none_read : (ts : List Tree) (text : List ℕ) → IsReadFor ts text None 0 0
none_read ts text n above below = absurd (omega (arith, below))

-- from the place on as well
read_at : (ts : List Tree) (text : List ℕ) (at n : ℕ) → at < n → n ≤ length text → IsCharBoundary text at → IsUtf8 (take n text)
    → (IsUtf8 (take (n - at) (drop at text)) → (v : List ℕ) × Matched ts (chars (take (n - at) (drop at text)) ++ v)) → ReadsOn ts (take n text) None at
read_at ts text at n above within here u begun =
    let seen : IsCharBoundary (take n text) at = alike_boundary n at (take n text) text above (omega (arith, length-take n text)) (take-take n n text (omega arith)) here in
    let sum : at + (n - at) ≡ n = omega arith in
    let left : drop at (take n text) ≡ take (n - at) (drop at text) = ap (λ (j : ℕ). drop at (take j text)) (sym sum) ∙ drop-take at (n - at) text in
    let m = begun (subst IsUtf8 left (IsUtf8-drop (take n text) at u seen)) in
    (at, (omega arith, seen, (m.0, subst (λ (t : List ℕ). Matched ts (chars t ++ m.0)) (sym left) m.1)))

read_later : (ts : List Tree) (seen : List ℕ) (at at2 : ℕ) → at ≤ at2 → ReadsOn ts seen None at → ReadsOn ts seen None at2
read_later ts seen at at2 le r = (r.0, (omega (arith, r.1.0, le), r.1.1, r.1.2))

-- nothing matches at the place: so many bytes were read from there on
pub read_past : (w : Walker) (d : List Row) (ts : List Tree) (ps text : List ℕ) (at at2 k m reach reach2 : ℕ) → IsWalkerOf w d → IsTrim d → RecognizesAll d ts ps
    → IsReadFor ts text None at reach → k ≡ at → AreOpen w (drop k text) 0 m → IsCharBoundary text at → at < at2 → reach2 ≡ max reach (k + m) → IsReadFor ts text None at2 reach2
read_past w d ts ps text at at2 k m reach reach2 walks trim h read same neither here less most n above below within u = by_reach (cases_lt n reach)
  where
    there : AreOpen w (drop at text) 0 m
    there = subst (λ (j : ℕ). AreOpen w (drop j text) 0 m) same neither

    by_reach : (n < reach) ⊎ (reach ≤ n) → ReadsOn ts (take n text) None at2
    by_reach (inl near) = read_later ts (take n text) at at2 (omega arith) (read n (omega arith) near within u)
    by_reach (inr far) =
        read_later ts (take n text) at at2 (omega arith)
        (read_at ts text at n (omega arith) within here u
        (λ part. open_matches w d ts ps walks trim h (chars (take (n - at) (drop at text))) (text_scalars (take (n - at) (drop at text)) part)
        (there (n - at) (omega arith) (omega (arith, most, same)) (omega (arith, length-drop at text)) part)))

-- a match begins at the place
pub fault_read : (ts : List Tree) (text p : List ℕ) (at k reach reach2 : ℕ) → IsReadFor ts text None at reach → k ≡ at → IsMatch ts (drop k text) p → IsCharBoundary text at
    → reach2 ≡ max reach (k + length p) → IsReadFor ts text None k reach2
fault_read ts text p at k reach reach2 read same m here most n above below within u = by_reach (cases_lt n reach)
  where
    there : IsMatch ts (drop at text) p
    there = subst (λ (j : ℕ). IsMatch ts (drop j text) p) same m

    by_reach : (n < reach) ⊎ (reach ≤ n) → ReadsOn ts (take n text) None k
    by_reach (inl near) = read_later ts (take n text) at k (omega (arith, same)) (read n (omega (arith, above, same)) near within u)
    by_reach (inr far) =
        read_later ts (take n text) at k (omega (arith, same))
        (read_at ts text at n (omega (arith, above, same)) within here u (λ part. match_begun ts (drop at text) p (n - at) there (omega (arith, most, same)) part))
