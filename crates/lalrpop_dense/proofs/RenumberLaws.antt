-- What other numbers leave as it is: rules that mean the same have the same winners, longest matches, clashes and tokens.
use Rattle.std.proofs.Common.{◌≡◌, ℕ, ◌+◌, ◌<◌, ◌≤◌, ◌⊎◌, inl, inr, List, [], ◌∷◌, length, map, drop, sym, ap, subst, ◌∙◌, arith}
use Rattle.std.specs.Prelude.{Option, Some, None, Result, Ok, Err, option_map, slice_index}
use Rattle.std.specs.List.{Contains}
use Rattle.std.specs.Str.{chars}
use Rattle.std.proofs.lemmas.Bool.{cases_order}
use Rattle.lalrpop_hir.specs.Tree.{Tree}
use Rattle.lalrpop_hir.specs.Winners.{TreeMatches, IsStrongest, IsOnlyStrongest, Ambiguous}
use Rattle.lalrpop_hir.specs.Longest.{IsMatch, IsLongest}
use Rattle.lalrpop_hir.specs.Clash.{NoClash, IsClash}
use Rattle.lalrpop_hir.specs.Clashes.{Entry, AreTied, AreClashes}
use Rattle.lalrpop_hir.specs.Tokens.{IsToken, AreTokens}
use Rattle.lalrpop_dense.specs.Renumbered.{AreRenumbered, AreAlike, renumbered}
use Rattle.lalrpop_hir.specs.declared.token.Token.{Token}
use Rattle.lalrpop_hir.specs.declared.token.TokenFault.{TokenFault}
use Rattle.lalrpop_dense.proofs.Decided.{matches_inside}
use Rattle.lalrpop_hir.proofs.Strongest.{IsOnlyStrongest-from_greatest}

-- ---- from the one list to the other
module _ (f g : ℕ → ℕ) (ts : List Tree) (ps : List ℕ) (us : List Tree) (qs : List ℕ) (same : AreRenumbered f g ts ps us qs) where
  -- the same holds the other way round
  pub renumbered_back : AreRenumbered g f us qs ts ps
  renumbered_back = record {
    there = same.back;
    back = same.there;
    words = λ k w l.
        let b = same.back k l in
        let h = same.words (g k) w b.0 in
        (λ m. h.1 (subst (λ (n : ℕ). TreeMatches us w n) (sym b.1) m), λ m. subst (λ (n : ℕ). TreeMatches us w n) b.1 (h.0 m));
    order = λ k l at_k at_l.
        let b = same.back k at_k in
        let c = same.back l at_l in
        let h = same.order (g k) (g l) b.0 c.0 in
        let one : slice_index qs (f (g k)) ≡ slice_index qs k = ap (λ (n : ℕ). slice_index qs n) b.1 in
        let two : slice_index qs (f (g l)) ≡ slice_index qs l = ap (λ (n : ℕ). slice_index qs n) c.1 in
        (λ less. h.1 (omega (arith, one, two, less)), λ less. let more = h.0 less in omega (arith, one, two, more));
  }

  matches_there : (w : List ℕ) (i : ℕ) → TreeMatches ts w i → TreeMatches us w (f i)
  matches_there w i m = (same.words i w (matches_inside ts w i m)).0 m

  matches_back : (w : List ℕ) (k : ℕ) → TreeMatches us w k → TreeMatches ts w (g k) × (f (g k) ≡ k)
  matches_back w k m =
      let b = same.back k (matches_inside us w k m) in
      ((same.words (g k) w b.0).1 (subst (λ (n : ℕ). TreeMatches us w n) (sym b.1) m), b.1)

  -- the strongest trees
  pub strongest_renumbered : (w : List ℕ) (i : ℕ) → IsStrongest ts ps w i → IsStrongest us qs w (f i)
  strongest_renumbered w i top = (
    matches_there w i top.0,
    λ k m.
        let b = matches_back w k m in
        let less = (same.order (g k) i (matches_inside ts w (g k) b.0) (matches_inside ts w i top.0)).0 (top.1 (g k) b.0) in
        subst (λ (n : ℕ). slice_index qs n ≤ slice_index qs (f i)) b.1 less,
  )

  match_there : (text p : List ℕ) → IsMatch ts text p → IsMatch us text p
  match_there text p m = (m.0, m.1, (f m.2.0, matches_there (chars p) m.2.0 m.2.1))

  match_back : (text p : List ℕ) → IsMatch us text p → IsMatch ts text p
  match_back text p m = (m.0, m.1, (g m.2.0, (matches_back (chars p) m.2.0 m.2.1).0))

  -- two that tie are still two
  pub tied_renumbered : (w : List ℕ) (i j : ℕ) → AreTied ts ps w i j → AreTied us qs w (f i) (f j) ⊎ AreTied us qs w (f j) (f i)
  tied_renumbered w i j tied = by_order (cases_order (f i) (f j))
    where
      apart : f i ≡ f j → i ≡ j
      apart e =
          let a = same.there i (matches_inside ts w i tied.1.0) in
          let b = same.there j (matches_inside ts w j tied.2.0) in
          sym a.1 ∙ ap g e ∙ b.1

      by_order : (f i ≡ f j) ⊎ ((f i < f j) ⊎ (f j < f i)) → AreTied us qs w (f i) (f j) ⊎ AreTied us qs w (f j) (f i)
      by_order (inl e) = absurd (omega (arith, tied.0, apart e))
      by_order (inr (inl less)) = inr (less, strongest_renumbered w j tied.2, strongest_renumbered w i tied.1)
      by_order (inr (inr more)) = inl (more, strongest_renumbered w i tied.1, strongest_renumbered w j tied.2)

  pub ambiguous_renumbered : (w : List ℕ) → Ambiguous ts ps w → Ambiguous us qs w
  ambiguous_renumbered w (i, j, tied) = elim (tied_renumbered w i j tied) [ inl t ↦ (f i, f j, t) | inr t ↦ (f j, f i, t) ]

-- ---- and what follows both ways
module _ (f g : ℕ → ℕ) (ts : List Tree) (ps : List ℕ) (us : List Tree) (qs : List ℕ) (same : AreRenumbered f g ts ps us qs) where
  pub no_clash_renumbered : NoClash ts ps → NoClash us qs
  no_clash_renumbered clear w a = clear w (ambiguous_renumbered g f us qs ts ps (renumbered_back f g ts ps us qs same) w a)

  -- the only strongest tree
  pub only_strongest_renumbered : (w : List ℕ) (i : ℕ) → IsOnlyStrongest ts ps w i → IsOnlyStrongest us qs w (f i)
  only_strongest_renumbered w i only = (
    strongest_renumbered f g ts ps us qs same w i only.0,
    λ k top.
        let one = only.1 (g k) (strongest_renumbered g f us qs ts ps (renumbered_back f g ts ps us qs same) w k top) in
        let b = same.back k (matches_inside us w k top.0) in
        sym b.1 ∙ ap f one,
  )

  only_longest_renumbered : (text : List ℕ) (m : ℕ × List ℕ) → IsLongest ts ps text (Some m) → IsOnlyStrongest ts ps (chars m.1) m.0
      → IsLongest us qs text (Some (f m.0, m.1))
  only_longest_renumbered text m longest only =
      let there = only_strongest_renumbered (chars m.1) m.0 only in (
        match_there f g ts ps us qs same text m.1 longest.0,
        (λ p n. longest.1 p (match_back f g ts ps us qs same text p n)),
        (there.0, λ k top. let e = there.1 k top in omega (arith, e)),
      )

  -- the longest match, where no word is ambiguous
  pub longest_renumbered : (text : List ℕ) (found : Option (ℕ × List ℕ)) → NoClash ts ps → IsLongest ts ps text found
      → IsLongest us qs text (option_map (λ m. (f m.0, m.1)) found)
  longest_renumbered text None clear longest = λ p m. longest p (match_back f g ts ps us qs same text p m)
  longest_renumbered text (Some m) clear longest =
      only_longest_renumbered text m longest (IsOnlyStrongest-from_greatest ts ps (chars m.1) m.0 clear longest.2)

  -- a token, and all tokens
  pub token_renumbered : (text : List ℕ) (at : ℕ) (token : Token) → IsToken ts ps text at token → IsToken us qs text at (record token { index = f token.index })
  token_renumbered text at token is = (
    is.0,
    only_longest_renumbered (drop at text) (token.index, token.slice.now) is.1 is.2,
    only_strongest_renumbered (chars token.slice.now) token.index is.2,
  )

  pub tokens_renumbered : (text : List ℕ) (at : ℕ) (xs : List (Result Token TokenFault)) → AreTokens ts ps text at xs → AreTokens us qs text at (map (renumbered f) xs)
  tokens_renumbered text at [] are = are
  tokens_renumbered text at (Ok token ∷ xs) are = (token_renumbered text at token are.0, tokens_renumbered text (at + length token.slice.now) xs are.1)
  tokens_renumbered text at (Err fault ∷ xs) are =
      ((are.0.0, (λ p m. are.0.1 p (match_back f g ts ps us qs same (drop at text) p m)), are.0.2), tokens_renumbered text (at + length (drop fault.at text)) xs are.1)

  -- the tied pairs, each with its greater number first
  pub pairs_renumbered : (cs ds : List Entry) (c : Entry) → AreClashes ts ps cs → AreClashes us qs ds → Contains cs c
      → (d : Entry) × (Contains ds d × (((d.match0 ≡ f c.match0) × (d.match1 ≡ f c.match1)) ⊎ ((d.match0 ≡ f c.match1) × (d.match1 ≡ f c.match0))))
  pairs_renumbered cs ds c are too listed = elim (tied_renumbered f g ts ps us qs same c.word c.match0 c.match1 (are.each c listed).tie) [
    | inl tied ↦ (let d = too.all c.word (f c.match0) (f c.match1) tied in (d.0, (d.1.0, inl (d.1.1, d.1.2))))
    | inr tied ↦ (let d = too.all c.word (f c.match1) (f c.match0) tied in (d.0, (d.1.0, inr (d.1.1, d.1.2))))
  ]

-- ---- rules that are alike, number by number
module _ (ts : List Tree) (ps : List ℕ) (us : List Tree) (qs : List ℕ) (same : AreAlike ts ps us qs) where
  pub alike_back : AreAlike us qs ts ps
  alike_back = renumbered_back (λ i. i) (λ i. i) ts ps us qs same

  pub strongest_alike : (w : List ℕ) (i : ℕ) → IsStrongest ts ps w i → IsStrongest us qs w i
  strongest_alike w i top = strongest_renumbered (λ i. i) (λ i. i) ts ps us qs same w i top

  strongest_from : (w : List ℕ) (i : ℕ) → IsStrongest us qs w i → IsStrongest ts ps w i
  strongest_from w i top = strongest_renumbered (λ i. i) (λ i. i) us qs ts ps alike_back w i top

  ambiguous_from : (w : List ℕ) → Ambiguous us qs w → Ambiguous ts ps w
  ambiguous_from w a = ambiguous_renumbered (λ i. i) (λ i. i) us qs ts ps alike_back w a

  pub only_strongest_alike : (w : List ℕ) (i : ℕ) → IsOnlyStrongest ts ps w i → IsOnlyStrongest us qs w i
  only_strongest_alike w i only = only_strongest_renumbered (λ i. i) (λ i. i) ts ps us qs same w i only

  -- with clashes too
  pub longest_alike : (text : List ℕ) (found : Option (ℕ × List ℕ)) → IsLongest ts ps text found → IsLongest us qs text found
  longest_alike text None longest = λ p m. longest p (match_there (λ i. i) (λ i. i) us qs ts ps alike_back text p m)
  longest_alike text (Some m) longest = (
    match_there (λ i. i) (λ i. i) ts ps us qs same text m.1 longest.0,
    (λ p n. longest.1 p (match_there (λ i. i) (λ i. i) us qs ts ps alike_back text p n)),
    (strongest_alike (chars m.1) m.0 longest.2.0, λ k top. longest.2.1 k (strongest_from (chars m.1) k top)),
  )

  pub tied_alike : (w : List ℕ) (i j : ℕ) → AreTied ts ps w i j → AreTied us qs w i j
  tied_alike w i j tied = (tied.0, strongest_alike w i tied.1, strongest_alike w j tied.2)

  tied_from : (w : List ℕ) (i j : ℕ) → AreTied us qs w i j → AreTied ts ps w i j
  tied_from w i j tied = (tied.0, strongest_from w i tied.1, strongest_from w j tied.2)

  pub clash_alike : (w : List ℕ) (i j : ℕ) → IsClash ts ps w i j → IsClash us qs w i j
  clash_alike w i j clash = record {
    word = clash.word;
    least = λ v less a. clash.least v less (ambiguous_from v a);
    greatest = strongest_alike w i clash.greatest;
    second = strongest_alike w j clash.second;
    less = clash.less;
    others = λ k top less. clash.others k (strongest_from w k top) less;
    above = λ k top. clash.above k (strongest_from w k top);
  }

  pub clashes_alike : (cs : List Entry) → AreClashes ts ps cs → AreClashes us qs cs
  clashes_alike cs are = record {
    each = λ c inside. (let first = are.each c inside in record {
      word = first.word;
      tie = tied_alike c.word c.match0 c.match1 first.tie;
      least = λ v less tied. first.least v less (tied_from v c.match0 c.match1 tied);
    });
    all = λ w i j tied. are.all w i j (tied_from w i j tied);
    in_order = are.in_order;
  }

  pub token_alike : (text : List ℕ) (at : ℕ) (token : Token) → IsToken ts ps text at token → IsToken us qs text at token
  token_alike text at token is =
      (is.0, longest_alike (drop at text) (Some (token.index, token.slice.now)) is.1, only_strongest_alike (chars token.slice.now) token.index is.2)

  pub tokens_alike : (text : List ℕ) (at : ℕ) (xs : List (Result Token TokenFault)) → AreTokens ts ps text at xs → AreTokens us qs text at xs
  tokens_alike text at [] are = are
  tokens_alike text at (Ok token ∷ xs) are = (token_alike text at token are.0, tokens_alike text (at + length token.slice.now) xs are.1)
  tokens_alike text at (Err fault ∷ xs) are =
      ((are.0.0, longest_alike (drop at text) None are.0.1, are.0.2), tokens_alike text (at + length (drop fault.at text)) xs are.1)
