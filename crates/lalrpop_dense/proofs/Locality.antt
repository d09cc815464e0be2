-- What is cut from the front of a text stays as it is, whatever follows: a token, if more characters come after it than a match looks ahead.
use Rattle.std.proofs.Common.{◌≡◌, ◌≢◌, ℕ, zero, suc, ◌+◌, ◌<◌, ◌≤◌, inl, inr, List, [], ◌∷◌, ◌++◌, length, take, drop, refl, sym, ap, subst, ◌∙◌, arith, append_assoc, length-append, length-take-le, take-append-drop}
use Rattle.std.specs.Prelude.{Some, None, Result, Ok, Err, map}
use Rattle.std.specs.Str.{chars, IsUtf8, encode_utf8_all}
use Rattle.std.proofs.lemmas.Bool.{cases_lt}
use Rattle.std.proofs.lemmas.List.{take_at, drop_at, drop-drop, drop-append-le}
use Rattle.std.proofs.Math.ListN.{drop_of_length-le}
use lib.Seq.{drop-append-add}
use Rattle.std.proofs.lemmas.Str.{chars-nil, chars-append, encodes-chars, encodes-append, length-le-encodes, IsCharBoundary-from_take, IsUtf8-append, IsUtf8-drop}
use Rattle.lalrpop_hir.specs.Tree.{Tree}
use Rattle.lalrpop_hir.specs.Clash.{NoClash}
use Rattle.lalrpop_hir.specs.Prefix.{IsPrefix}
use Rattle.lalrpop_hir.specs.Winners.{Matched}
use Rattle.lalrpop_hir.specs.Longest.{IsLongest}
use Rattle.lalrpop_hir.specs.Tokens.{AreTokens}
use Rattle.lalrpop_hir.specs.declared.token.Token.{Token}
use Rattle.lalrpop_hir.specs.declared.token.TokenFault.{TokenFault}
use Rattle.lalrpop_hir.proofs.Strongest.{IsOnlyStrongest-from_greatest}
use Rattle.lalrpop_dfa.specs.Lookahead.{LeavesOpen, LooksAtMost}
use Rattle.lalrpop_dense.specs.LeadingTokens.{LeadTo}
use Rattle.lalrpop_dense.specs.SameTokens.{moved}
use Rattle.lalrpop_dense.proofs.TextPrefixes.{more_of, prefix_of_characters}

-- ---- texts in two parts

-- a text that is cut twice: the shorter front begins the longer one
two_fronts : (p r w t : List ℕ) → w ++ t ≡ p ++ r → length p ≤ length w → (s : List ℕ) × (w ≡ p ++ s)
two_fronts p r w t e short = let more = more_of p w r t (sym e) short in (more.0, more.1.0)

utf8_later : (m r : List ℕ) → IsUtf8 (m ++ r) → IsUtf8 m → IsUtf8 r
utf8_later m r u front =
    let at_seam = IsCharBoundary-from_take (m ++ r) (length m) u (omega (arith, length-append m r)) (subst IsUtf8 (sym (take_at m r (length m) refl)) front) in
    subst IsUtf8 (drop_at m r (length m) refl) (IsUtf8-drop (m ++ r) (length m) u at_seam)

some_chars : (m : List ℕ) → IsUtf8 m → m ≢ [] → chars m ≢ []
some_chars m u some none = some (sym (encodes-chars m u) ∙ ap encode_utf8_all none)

is_some : (u : List ℕ) → u ≢ [] → 0 < length u
is_some [] some = absurd (some refl)
is_some (c ∷ u) some = omega arith

-- ---- one token

module _ (ts : List Tree) (ps : List ℕ) (n : ℕ) (most : LooksAtMost (Matched ts) n) where
  -- the longest match m of a text that begins with m and more than n other characters
  module _ (m r t : List ℕ) (i : ℕ) (utf8 : IsUtf8 ((m ++ r) ++ t)) (longest : IsLongest ts ps ((m ++ r) ++ t) (Some (i, m))) (far : n < length (chars r)) (utf8_m : IsUtf8 m) (utf8_r : IsUtf8 r) where
    abbrev front : List ℕ
    front = take (n + 1) (chars r)

    abbrev behind : List ℕ
    behind = drop (n + 1) (chars r)

    both : chars r ≡ front ++ behind
    both = sym (take-append-drop (n + 1) (chars r))

    all : chars ((m ++ r) ++ t) ≡ (chars m ++ chars r) ++ chars t
    all = chars-append (m ++ r) t (IsUtf8-append m r utf8_m utf8_r) ∙ ap (λ (w : List ℕ). w ++ chars t) (chars-append m r utf8_m)

    -- m with some of the characters after it is no match
    no_more : (u z : List ℕ) → front ≡ u ++ z → u ≢ [] → ¬ Matched ts (chars m ++ u)
    no_more u z e some matched =
        let split : chars ((m ++ r) ++ t) ≡ (chars m ++ u) ++ (z ++ (behind ++ chars t)) =
        all ∙ ap (λ (w : List ℕ). (chars m ++ w) ++ chars t) (both ∙ ap (λ (w : List ℕ). w ++ behind) e)
        ∙ parts (chars m) u z behind (chars t) in
        let found = prefix_of_characters ((m ++ r) ++ t) (chars m ++ u) (z ++ (behind ++ chars t)) utf8 split in
        let p = encode_utf8_all (chars m ++ u) in
        let long : length p ≡ length m + length (encode_utf8_all u) =
        ap length (encodes-append (chars m) u) ∙ length-append (encode_utf8_all (chars m)) (encode_utf8_all u) ∙ ap (λ (w : List ℕ). length w + length (encode_utf8_all u)) (encodes-chars m utf8_m) in
        let size : 0 < length p = omega (arith, long, length-le-encodes u, is_some u some) in
        let short = longest.1 p (found.0, (λ none. some_p p size none), subst (Matched ts) (sym found.1) matched) in
        absurd (omega (arith, long, short, length-le-encodes u, is_some u some))
      where
        parts : (a b c d e : List ℕ) → (a ++ ((b ++ c) ++ d)) ++ e ≡ (a ++ b) ++ (c ++ (d ++ e))
        parts a b c d e =
            ap (λ (w : List ℕ). (a ++ w) ++ e) (append_assoc b c d) ∙ append_assoc a (b ++ (c ++ d)) e ∙ ap (λ (w : List ℕ). a ++ w) (append_assoc b (c ++ d) e)
            ∙ ap (λ (w : List ℕ). a ++ (b ++ w)) (append_assoc c d e) ∙ sym (append_assoc a b (c ++ (d ++ e)))

        some_p : (p : List ℕ) → 0 < length p → p ≢ []
        some_p [] less none = omega (arith, less)
        some_p (b ∷ p) less none = cc

    -- so no match begins with m and all of them
    none_longer : (q : List ℕ) → ¬ Matched ts (chars ((m ++ r) ++ q))
    none_longer q matched =
        let split : chars ((m ++ r) ++ q) ≡ ((chars m ++ front) ++ (behind ++ chars q)) =
        chars-append (m ++ r) q (IsUtf8-append m r utf8_m utf8_r) ∙ ap (λ (w : List ℕ). w ++ chars q) (chars-append m r utf8_m) ∙ ap (λ (w : List ℕ). (chars m ++ w) ++ chars q) both
        ∙ parts (chars m) front behind (chars q) in
        let left : LeavesOpen (Matched ts) (n + 1) (chars m) front = record {
          some = some_chars m utf8_m longest.0.1;
          word = longest.0.2;
          long = length-take-le (n + 1) (chars r) (omega (arith, far));
          none = no_more;
          later = (behind ++ chars q, subst (Matched ts) split matched);
        } in
        absurd (omega (arith, most (n + 1) (chars m, front, left)))
      where
        parts : (a b c d : List ℕ) → (a ++ (b ++ c)) ++ d ≡ (a ++ b) ++ (c ++ d)
        parts a b c d = ap (λ (w : List ℕ). w ++ d) (sym (append_assoc a b c)) ∙ append_assoc (a ++ b) c d

  -- the match stays the longest whatever follows
  pub match_stays : (m r t later : List ℕ) (i : ℕ) → IsUtf8 ((m ++ r) ++ t) → IsUtf8 (m ++ r) → n < length (chars r) → IsLongest ts ps ((m ++ r) ++ t) (Some (i, m))
      → IsLongest ts ps ((m ++ r) ++ later) (Some (i, m))
  match_stays m r t later i utf8 utf8_front far longest =
      let utf8_m : IsUtf8 m = longest.0.0.1.1 in
      let utf8_r = utf8_later m r utf8_front utf8_m in (
        ((r ++ later, (append_assoc m r later, utf8_m)), longest.0.1, longest.0.2),
        (λ p match. elim (cases_lt (length (m ++ r)) (length p)) [
          | inl long ↦
              (let found = two_fronts (m ++ r) later p match.0.0 (sym match.0.1.0) (omega arith) in
              absurd (none_longer m r t i utf8 longest far utf8_m utf8_r found.0 (subst (λ (w : List ℕ). Matched ts (chars w)) found.1 match.2)))
          | inr short ↦
              (let found = two_fronts p match.0.0 (m ++ r) later match.0.1.0 short in
              longest.1 p ((found.0 ++ t, (ap (λ (w : List ℕ). w ++ t) found.1 ∙ append_assoc p found.0 t, match.0.1.1)), match.1, match.2))
        ]),
        longest.2,
      )

  -- ---- one token after another

  -- tokens lead onward
  lead_onward : (text : List ℕ) (at to : ℕ) (xs : List Token) → LeadTo ts ps text at to xs → at ≤ to
  lead_onward text at to [] h = omega (arith, h)
  lead_onward text at to (x ∷ xs) h = omega (arith, lead_onward text (at + length x.slice.now) to xs h.1)

  -- what is left at the end of a slice of the front
  left_after : (u t slice : List ℕ) (at : ℕ) → IsUtf8 (drop at u) → at + length slice ≤ length u → IsPrefix slice (drop at u ++ t)
      → (drop at u ≡ slice ++ drop (at + length slice) u) × IsUtf8 (drop (at + length slice) u)
  left_after u t slice at utf8 within front =
      let found = two_fronts slice front.0 (drop at u) t front.1.0 (omega (arith, within, left at u)) in
      let rest : drop (at + length slice) u ≡ found.0 = sym (drop-drop (length slice) at u) ∙ ap (drop (length slice)) found.1 ∙ drop_at slice found.0 (length slice) refl in
      (found.1 ∙ ap (λ (w : List ℕ). slice ++ w) (sym rest), subst IsUtf8 (sym rest) (utf8_later slice found.0 (subst IsUtf8 found.1 utf8) front.1.1))
    where
      left : (k : ℕ) (xs : List ℕ) → length xs ≤ k + length (drop k xs)
      left zero xs = omega arith
      left (suc k) [] = omega arith
      left (suc k) (x ∷ xs) = omega (arith, left k xs)

  -- fewer characters are left after each token
  fewer_left : (u t : List ℕ) (at to : ℕ) (xs : List Token) → IsUtf8 (drop at u) → to ≤ length u → LeadTo ts ps (u ++ t) at to xs
      → length (chars (drop to u)) ≤ length (chars (drop at u))
  fewer_left u t at to [] utf8 within h = omega (arith, ap (λ (k : ℕ). length (chars (drop k u))) h)
  fewer_left u t at to (x ∷ xs) utf8 within h =
      let next = at + length x.slice.now in
      let on = lead_onward (u ++ t) next to xs h.1 in
      let front : IsPrefix x.slice.now (drop at u ++ t) = subst (IsPrefix x.slice.now) (drop-append-le at u t (omega (arith, on, within))) h.0.1.0.0 in
      let left = left_after u t x.slice.now at utf8 (omega (arith, on, within)) front in
      let count : chars (drop at u) ≡ chars x.slice.now ++ chars (drop next u) = ap chars left.0 ∙ chars-append x.slice.now (drop next u) front.1.1 in
      omega (arith, fewer_left u t next to xs left.1 within h.1, ap length count, length-append (chars x.slice.now) (chars (drop next u)))

  stays_within : (u t later : List ℕ) (at to : ℕ) (xs : List Token) → IsUtf8 t → IsUtf8 (drop at u) → to ≤ length u → n < length (chars (drop to u))
      → LeadTo ts ps (u ++ t) at to xs → LeadTo ts ps (u ++ later) at to xs
  stays_within u t later at to [] utf8_t utf8 within far h = h
  stays_within u t later at to (x ∷ xs) utf8_t utf8 within far h =
      let m = x.slice.now in
      let next = at + length m in
      let on = lead_onward (u ++ t) next to xs h.1 in
      let here : drop at (u ++ t) ≡ drop at u ++ t = drop-append-le at u t (omega (arith, on, within)) in
      let there : drop at (u ++ later) ≡ drop at u ++ later = drop-append-le at u later (omega (arith, on, within)) in
      let left = left_after u t m at utf8 (omega (arith, on, within)) (subst (IsPrefix m) here h.0.1.0.0) in
      let fewer = fewer_left u t next to xs left.1 within h.1 in
      let longest : IsLongest ts ps ((m ++ drop next u) ++ t) (Some (x.index, m)) =
      subst (λ (w : List ℕ). IsLongest ts ps w (Some (x.index, m))) (here ∙ ap (λ (w : List ℕ). w ++ t) left.0) h.0.1 in
      let stays = match_stays m (drop next u) t later x.index (subst (λ (w : List ℕ). IsUtf8 (w ++ t)) left.0 (IsUtf8-append (drop at u) t utf8 utf8_t))
      (subst IsUtf8 left.0 utf8) (omega (arith, far, fewer)) longest in (
        (h.0.0, subst (λ (w : List ℕ). IsLongest ts ps w (Some (x.index, m))) (ap (λ (w : List ℕ). w ++ later) (sym left.0) ∙ sym there) stays),
        stays_within u t later next to xs utf8_t left.1 within far h.1,
      )

  -- tokens of the text u ++ t up to a place in u after which more than n characters of u come are those of each text that begins with u
  pub tokens_stay : (u t later : List ℕ) (to : ℕ) (xs : List Token) → IsUtf8 u → IsUtf8 t → n < length (chars (drop to u)) → LeadTo ts ps (u ++ t) 0 to xs
      → LeadTo ts ps (u ++ later) 0 to xs
  tokens_stay u t later to xs utf8 utf8_t far h = elim (cases_lt to (length u)) [
    | inl less ↦ stays_within u t later 0 to xs utf8_t utf8 (omega (arith, less)) far h
    | inr past ↦ absurd (omega (arith, far, ap (λ (w : List ℕ). length (chars w)) (drop_of_length-le u past), ap length chars-nil))
  ]

-- ---- the tokens of a text in two parts

-- the first ones lead to a place, from which the others are cut
pub tokens_lead : (ts : List Tree) (ps text : List ℕ) (at : ℕ) (xs : List Token) (ys : List (Result Token TokenFault)) → AreTokens ts ps text at (map Ok xs ++ ys)
    → (to : ℕ) × (LeadTo ts ps text at to xs × AreTokens ts ps text to ys)
tokens_lead ts ps text at [] ys are = (at, (refl, are))
tokens_lead ts ps text at (x ∷ xs) ys are =
    let later = tokens_lead ts ps text (at + length x.slice.now) xs ys are.1 in
    (later.0, (((are.0.0, are.0.1), later.1.0), later.1.1))

-- tokens that lead to where the others begin, and the others
pub tokens_led : (ts : List Tree) (ps text : List ℕ) (at to : ℕ) (xs : List Token) (ys : List (Result Token TokenFault)) → NoClash ts ps → LeadTo ts ps text at to xs
    → AreTokens ts ps text to ys → AreTokens ts ps text at (map Ok xs ++ ys)
tokens_led ts ps text at to [] ys none h k = subst (λ (n : ℕ). AreTokens ts ps text n ys) (sym h) k
tokens_led ts ps text at to (x ∷ xs) ys none h k = (
  (h.0.0, h.0.1, IsOnlyStrongest-from_greatest ts ps (chars x.slice.now) x.index none h.0.1.2),
  tokens_led ts ps text (at + length x.slice.now) to xs ys none h.1 k,
)

-- what is cut from a place on is cut from there whatever comes before
pub tokens_moved : (ts : List Tree) (ps front text : List ℕ) (at : ℕ) (xs : List (Result Token TokenFault)) → AreTokens ts ps text at xs
    → AreTokens ts ps (front ++ text) (length front + at) (map (moved (length front)) xs)
tokens_moved ts ps front text at [] are = drop-append-add front text at ∙ are
tokens_moved ts ps front text at (Ok token ∷ xs) are =
    let rest : drop at text ≡ drop (length front + at) (front ++ text) = sym (drop-append-add front text at) in
    let next : length front + (at + length token.slice.now) ≡ (length front + at) + length token.slice.now = omega arith in (
      (ap (λ (k : ℕ). length front + k) are.0.0, subst (λ (w : List ℕ). IsLongest ts ps w (Some (token.index, token.slice.now))) rest are.0.1, are.0.2),
      subst (λ (k : ℕ). AreTokens ts ps (front ++ text) k (map (moved (length front)) xs)) next (tokens_moved ts ps front text (at + length token.slice.now) xs are.1),
    )
tokens_moved ts ps front text at (Err fault ∷ xs) are =
    let rest : drop at text ≡ drop (length front + at) (front ++ text) = sym (drop-append-add front text at) in
    let next : length front + (at + length (drop fault.at text)) ≡ (length front + at) + length (drop (length front + fault.at) (front ++ text)) =
    omega (arith, ap length (drop-append-add front text fault.at)) in (
      ((λ none. are.0.0 (rest ∙ none)), subst (λ (w : List ℕ). IsLongest ts ps w None) rest are.0.1, ap (λ (k : ℕ). length front + k) are.0.2),
      subst (λ (k : ℕ). AreTokens ts ps (front ++ text) k (map (moved (length front)) xs)) next (tokens_moved ts ps front text (at + length (drop fault.at text)) xs are.1),
    )
