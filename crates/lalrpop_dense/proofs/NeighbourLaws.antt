-- Which tokens may stand side by side: from their texts, one after another, just these tokens are cut.
use Rattle.std.proofs.Common.{◌≡◌, ◌≢◌, ℕ, ◌+◌, ◌<◌, inl, inr, Bool, false, cond, not, List, [], ◌∷◌, ◌++◌, length, drop, refl, sym, ap, subst, ◌∙◌, arith, length-append, append_assoc, eq-eqb}
use Rattle.std.specs.Prelude.{Some, Result, ◌==◌}
use Rattle.std.specs.List.{All, filter}
use Rattle.std.specs.Str.{chars, IsUtf8}
use Rattle.std.proofs.lemmas.Bool.{cases_lt}
use Rattle.std.proofs.lemmas.List.{append-nil, drop_at}
use Rattle.std.proofs.lemmas.List.Elements.{All-head, All-tail, All-cons}
use Rattle.std.proofs.lemmas.Str.{IsUtf8-drop, chars-append}
use Rattle.lalrpop_hir.specs.Tree.{Tree}
use Rattle.lalrpop_hir.specs.Winners.{IsOnlyStrongest, Matched}
use Rattle.lalrpop_hir.specs.Longest.{IsMatch, IsLongest}
use Rattle.lalrpop_hir.specs.Tokens.{AreTokens}
use Rattle.lalrpop_hir.specs.declared.token.Token.{Token}
use Rattle.lalrpop_hir.specs.declared.token.TokenFault.{TokenFault}
use Rattle.lalrpop_dfa.specs.Follow.{RunsOn}
use Rattle.lalrpop_dense.specs.Neighbours.{WordsOf, CanFollow, AllFollow, IsParted, text_of, IsWhole, CanPartAll, placed}
use Rattle.lalrpop_dense.specs.SameTokens.{AreSameTokens}
use Rattle.lalrpop_dense.proofs.Cuttings.{cut_behind, some_char}
use Rattle.lalrpop_dense.proofs.TextPrefixes.{more_of}
use Rattle.lalrpop_dense.proofs.UniqueTokens.{tokens-unique}

module _ (ts : List Tree) (ps : List ℕ) where
  -- ---- one token, and what follows it

  -- a match that begins with the one word and goes on as the other begins
  match_runs_on : (i j : ℕ) (v a b c d : List ℕ) → v ≢ [] → IsOnlyStrongest ts ps v i → IsOnlyStrongest ts ps a j → 0 < length a → 0 < length c
      → a ++ b ≡ c ++ d → Matched ts (v ++ c) → RunsOn (Matched ts) (WordsOf ts ps i) (WordsOf ts ps j)
  match_runs_on i j v [] b c d some only second l m e matched = absurd (omega arith)
  match_runs_on i j v (x ∷ a) b [] d some only second l m e matched = absurd (omega arith)
  match_runs_on i j v (x ∷ a) b (y ∷ c) d some only second l m e matched = record {
    first = v;
    value = x;
    rest = a;
    later = c;
    some = some;
    is_first = only;
    begins_second = second;
    goes_on = (let same : y ≡ x = cc in subst (λ (n : ℕ). Matched ts (v ++ (n ∷ c))) same matched);
  }

  -- no match of the text is longer
  no_longer : (i j : ℕ) (v w r p : List ℕ) → IsUtf8 v → v ≢ [] → IsOnlyStrongest ts ps (chars v) i → IsUtf8 w → w ≢ [] → IsOnlyStrongest ts ps (chars w) j
      → CanFollow ts ps i j → IsMatch ts (v ++ (w ++ r)) p → ¬ (length v < length p)
  no_longer i j v w r p utf8 some only utf8_w some_w second apart match longer =
      let more = more_of v p (w ++ r) match.0.0 match.0.1.0 (omega arith) in
      let u = more.0 in
      let whole : p ≡ v ++ u = more.1.0 in
      let same : drop (length v) p ≡ u = ap (drop (length v)) whole ∙ drop_at v u (length v) refl in
      let utf8_u : IsUtf8 u = subst IsUtf8 same (IsUtf8-drop p (length v) match.0.1.1 (cut_behind v p match.0.1.1 (u, (whole, utf8)))) in
      let some_u : u ≢ [] = λ e. omega (arith, ap length whole, length-append v u, ap length e) in
      let two : chars w ++ chars r ≡ chars u ++ chars match.0.0 =
      sym (chars-append w r utf8_w) ∙ ap chars more.1.1 ∙ chars-append u match.0.0 utf8_u in
      let all : chars p ≡ chars v ++ chars u = ap chars whole ∙ chars-append v u utf8 in
      apart (match_runs_on i j (chars v) (chars w) (chars r) (chars u) (chars match.0.0)
      (λ e. omega (arith, some_char v utf8 some, ap length e)) only second (some_char w utf8_w some_w) (some_char u utf8_u some_u)
      two (subst (Matched ts) all match.2))

  -- the first of two tokens is still the longest match if the second may follow it, whatever comes after that
  pub first_stays : (x y : ℕ × List ℕ) (r : List ℕ) → IsWhole ts ps x → IsWhole ts ps y → CanFollow ts ps x.0 y.0 → IsLongest ts ps (x.1 ++ (y.1 ++ r)) (Some x)
  first_stays x y r whole second apart = (
    ((y.1 ++ r, (refl, whole.0.0.0.1.1)), whole.0.0.1, whole.0.0.2),
    (λ p match. elim (cases_lt (length x.1) (length p)) [
      | inl longer ↦ absurd (no_longer x.0 y.0 x.1 y.1 r p whole.0.0.0.1.1 whole.0.0.1 whole.1 second.0.0.0.1.1 second.0.0.1 second.1 apart match longer)
      | inr most ↦ most
    ]),
    whole.0.2,
  )

  -- ---- all tokens

  first_of_all : (x : ℕ × List ℕ) (xs : List (ℕ × List ℕ)) → All (IsWhole ts ps) (x ∷ xs) → AllFollow ts ps (x ∷ xs) → IsLongest ts ps (x.1 ++ text_of xs) (Some x)
  first_of_all x [] whole follow = subst (λ (t : List ℕ). IsLongest ts ps t (Some x)) (sym (append-nil x.1)) (All-head (IsWhole ts ps) x [] whole).0
  first_of_all x (y ∷ xs) whole follow =
      first_stays x y (text_of xs) (All-head (IsWhole ts ps) x (y ∷ xs) whole) (All-head (IsWhole ts ps) y xs (All-tail (IsWhole ts ps) x (y ∷ xs) whole)) follow.0

  others_follow : (x : ℕ × List ℕ) (xs : List (ℕ × List ℕ)) → AllFollow ts ps (x ∷ xs) → AllFollow ts ps xs
  others_follow x [] follow = tt
  others_follow x (y ∷ xs) follow = follow.1

  cut_behind_front : (xs : List (ℕ × List ℕ)) (front : List ℕ) (at : ℕ) → length front ≡ at → All (IsWhole ts ps) xs → AllFollow ts ps xs
      → AreTokens ts ps (front ++ text_of xs) at (placed at xs)
  cut_behind_front [] front at size whole follow = drop_at front [] at size
  cut_behind_front (x ∷ xs) front at size whole follow =
      let rest : drop at (front ++ (x.1 ++ text_of xs)) ≡ x.1 ++ text_of xs = drop_at front (x.1 ++ text_of xs) at size in
      let later = cut_behind_front xs (front ++ x.1) (at + length x.1) (length-append front x.1 ∙ ap (λ (n : ℕ). n + length x.1) size)
      (All-tail (IsWhole ts ps) x xs whole) (others_follow x xs follow) in (
        (refl, subst (λ (t : List ℕ). IsLongest ts ps t (Some x)) (sym rest) (first_of_all x xs whole follow), (All-head (IsWhole ts ps) x xs whole).1),
        subst (λ (t : List ℕ). AreTokens ts ps t (at + length x.1) (placed (at + length x.1) xs)) (append_assoc front x.1 (text_of xs)) later,
      )

  -- from the texts of tokens that may follow each other just these tokens are cut
  pub cut_back : (xs : List (ℕ × List ℕ)) → All (IsWhole ts ps) xs → AllFollow ts ps xs → AreTokens ts ps (text_of xs) 0 (placed 0 xs)
  cut_back xs whole follow = cut_behind_front xs [] 0 refl whole follow

  -- and no others
  pub only_cut_back : (xs : List (ℕ × List ℕ)) (found : List (Result Token TokenFault)) → All (IsWhole ts ps) xs → AllFollow ts ps xs
      → AreTokens ts ps (text_of xs) 0 found → AreSameTokens found (placed 0 xs)
  only_cut_back xs found whole follow are = tokens-unique ts ps (text_of xs) 0 found (placed 0 xs) are (cut_back xs whole follow)

-- ---- tokens with a separator between those that may not stand side by side
module _ (ts : List Tree) (ps : List ℕ) (sep : ℕ × List ℕ) where
  -- the first token stays the first
  parted_first : (x : ℕ × List ℕ) (xs ys : List (ℕ × List ℕ)) → IsParted ts ps sep (x ∷ xs) ys → (zs : List (ℕ × List ℕ)) × (ys ≡ x ∷ zs)
  parted_first x [] ys parted = ([], parted)
  parted_first x (y ∷ xs) ys (zs, (parted, way)) = elim way [ inl near ↦ (zs, near.1) | inr apart ↦ (sep ∷ zs, apart.1) ]

  -- then each may follow the one before it
  pub parted_follows : (xs ys : List (ℕ × List ℕ)) → IsParted ts ps sep xs ys → CanPartAll ts ps sep xs → AllFollow ts ps ys
  parted_follows [] ys parted can = subst (AllFollow ts ps) (sym parted) tt
  parted_follows (x ∷ []) ys parted can = subst (AllFollow ts ps) (sym parted) tt
  parted_follows (x ∷ y ∷ xs) ys (zs, (parted, way)) can =
      let first = parted_first y xs zs parted in
      let later : AllFollow ts ps (y ∷ first.0) = subst (AllFollow ts ps) first.1 (parted_follows (y ∷ xs) zs parted can.1) in
      elim way [
        | inl near ↦ subst (AllFollow ts ps) (sym (near.1 ∙ ap (λ (l : List (ℕ × List ℕ)). x ∷ l) first.1)) (near.0, later)
        | inr apart ↦ (let parts = can.0 apart.0 in
            subst (AllFollow ts ps) (sym (apart.1 ∙ ap (λ (l : List (ℕ × List ℕ)). x ∷ sep ∷ l) first.1)) (parts.0, (parts.1, later)))
      ]

  -- each is the separator or was there before
  pub parted_all : (P : ℕ × List ℕ → Type 0) (xs ys : List (ℕ × List ℕ)) → IsParted ts ps sep xs ys → P sep → All P xs → All P ys
  parted_all P [] ys parted one all = subst (All P) (sym parted) all
  parted_all P (x ∷ []) ys parted one all = subst (All P) (sym parted) all
  parted_all P (x ∷ y ∷ xs) ys (zs, (parted, way)) one all =
      let first = All-head P x (y ∷ xs) all in
      let later = parted_all P (y ∷ xs) zs parted one (All-tail P x (y ∷ xs) all) in
      elim way [
        | inl near ↦ subst (All P) (sym near.1) (All-cons P x zs first later)
        | inr apart ↦ subst (All P) (sym apart.1) (All-cons P x (sep ∷ zs) first (All-cons P sep zs one later))
      ]

  -- what a test keeps that leaves out the separator
  parted_kept : (test : ℕ × List ℕ → Bool) (xs ys : List (ℕ × List ℕ)) → IsParted ts ps sep xs ys → test sep ≡ false → filter test ys ≡ filter test xs
  parted_kept test [] ys parted out = ap (filter test) parted
  parted_kept test (x ∷ []) ys parted out = ap (filter test) parted
  parted_kept test (x ∷ y ∷ xs) ys (zs, (parted, way)) out =
      let later : filter test zs ≡ filter test (y ∷ xs) = parted_kept test (y ∷ xs) zs parted out in
      let none : filter test (sep ∷ zs) ≡ filter test zs = ap (λ (b : Bool). cond b (sep ∷ filter test zs) (filter test zs)) out in
      elim way [
        | inl near ↦ ap (filter test) near.1 ∙ ap (λ (l : List (ℕ × List ℕ)). cond (test x) (x ∷ l) l) later
        | inr apart ↦ ap (filter test) apart.1 ∙ ap (λ (l : List (ℕ × List ℕ)). cond (test x) (x ∷ l) l) (none ∙ later)
      ]

  -- without the tokens of the separator's tree both are the same
  pub parted_without : (xs ys : List (ℕ × List ℕ)) → IsParted ts ps sep xs ys → filter (λ x. not (x.0 == sep.0)) ys ≡ filter (λ x. not (x.0 == sep.0)) xs
  parted_without xs ys parted = parted_kept (λ x. not (x.0 == sep.0)) xs ys parted (ap not (eq-eqb sep.0 sep.0 refl))

  -- so the text of the tokens, with separators where they are needed, is cut back
  pub parted_cut_back : (xs ys : List (ℕ × List ℕ)) → IsParted ts ps sep xs ys → IsWhole ts ps sep → All (IsWhole ts ps) xs → CanPartAll ts ps sep xs
      → AreTokens ts ps (text_of ys) 0 (placed 0 ys)
  parted_cut_back xs ys parted one all can = cut_back ts ps ys (parted_all (IsWhole ts ps) xs ys parted one all) (parted_follows xs ys parted can)
