-- What is noted of runs, and what it says of the trees.
use Rattle.std.proofs.Common.{◌≡◌, ◌≢◌, ℕ, zero, suc, ◌+◌, ◌<◌, ◌≤◌, ◌⊎◌, inl, inr, ⊎_elim, Bool, true, false, List, [], ◌∷◌, ◌++◌, length, take, drop, refl, sym, ap, subst, ◌∙◌, arith, append_assoc, length-append, length-drop, length-take}
use Rattle.std.specs.Prelude.{slice_get, Option, Some, None, IsSomeAnd, IfSome, cond}
use Rattle.std.specs.Borrow.{Bor}
use Rattle.std.specs.Char.{encode_utf8}
use Rattle.std.specs.Cmp.{Equal-is}
use Rattle.std.specs.List.{All}
use Rattle.std.specs.Option.{option_map}
use Rattle.std.specs.Ordering.{nat_cmp, ordering_then}
use Rattle.std.specs.BTreeMap as tree
use Rattle.std.specs.BTreeMap.{is_at, Updates}
use Rattle.std.specs.Str.{chars, IsUtf8, encode_utf8_all}
use Rattle.std.proofs.lemmas.Bool.{cases_eq, cases_lt}
use Rattle.std.proofs.lemmas.List.{take-append-drop, drop_at, drop-drop}
use Rattle.std.proofs.lemmas.List.Elements.{All-head, All-tail, All-push}
use Rattle.std.proofs.lemmas.Map.Lookups.{CmpEqualImpliesEq, exact_pairs, exact_unsigned}
use Rattle.std.proofs.lemmas.Str.{chars-append, chars_past_char, encodes-chars, IsUtf8-past_char}
use Rattle.lalrpop_hir.specs.Tree.{Tree}
use Rattle.lalrpop_hir.specs.Longest.{IsLongest}
use Rattle.lalrpop_hir.specs.Prefix.{IsPrefix}
use Rattle.lalrpop_hir.specs.Winners.{Matched}
use Rattle.lalrpop_hir.proofs.Cuts.{IsCut, cut_more, cut_within, word_after, goes_on}
use Rattle.lalrpop_dfa.specs.Dfa.{Row, after, RecognizesAll, IsRightKind, IsReject}
use Rattle.lalrpop_dfa.specs.Lookahead.{IsTrim}
use Rattle.lalrpop_dfa.specs.declared.Kind.{Kind}
use Rattle.lalrpop_dfa.specs.declared.Kind.TheVariants.{Reject, Neither}
use Rattle.lalrpop_dfa.proofs.AfterLaws.{after_push}
use Rattle.lalrpop_dfa.proofs.LongestLemmas.{IsLongestUpTo, longest_start, longest_accept, part_accept, done}
use Rattle.lalrpop_rules.specs.Modes.{ModeRules}
use Rattle.bajofeki.specs.declared.cutter.Cutter.{Cutter}
use Rattle.bajofeki.specs.declared.memo.Memo.{Memo}
use Rattle.bajofeki.specs.declared.walker.Walker.{Walker}
use Rattle.bajofeki.specs.Lexed.{BeginsLonger}
use Rattle.bajofeki.specs.Internal.Reach.{IsClosed, IsSettledBy}
use Rattle.bajofeki.specs.Internal.Walking.{IsWalkerOf, behind, behind_from, next_of, says}
use Rattle.bajofeki.specs.Internal.Noted.{IsNoted, IsKnown, order_of, IsLast, GoesOn, IsOver, IsSound, MatchedLast, IsStand, IsCutter}
use Rattle.bajofeki.proofs.Runs.{none_behind, goes_on_to_match}
use Rattle.bajofeki.proofs.Walking.{text_scalars, behind_append, behind_push}

-- ---- the map

exact_order : CmpEqualImpliesEq order_of
exact_order = exact_pairs nat_cmp (λ x y. ordering_then (nat_cmp x.0 y.0) (nat_cmp x.1 y.1)) exact_unsigned (exact_pairs nat_cmp nat_cmp exact_unsigned exact_unsigned)

-- what is noted after one more pair was put into the map
pub noted_more : (m n : Memo) (mode place at size : ℕ) → Updates order_of m.noted n.noted (mode, (place, at)) (Some size) → (a p e k : ℕ) → IsNoted n a p e k
    → IsNoted m a p e k ⊎ ((a ≡ mode) × (p ≡ place) × (e ≡ at) × (k ≡ size))
noted_more m n mode place at size u a p e k noted = by_test (is_at (order_of (mode, (place, at))) (a, (p, e))) refl (sym (u.0 (a, (p, e))) ∙ noted)
  where
    by_test : (b : Bool) → is_at (order_of (mode, (place, at))) (a, (p, e)) ≡ b → cond b (Some size) (tree.get order_of m.noted (a, (p, e))) ≡ Some k
        → IsNoted m a p e k ⊎ ((a ≡ mode) × (p ≡ place) × (e ≡ at) × (k ≡ size))
    by_test true same is =
        let key : Path (ℕ × (ℕ × ℕ)) (mode, (place, at)) (a, (p, e)) = exact_order (mode, (place, at)) (a, (p, e)) ((Equal-is (order_of (mode, (place, at)) (a, (p, e)))).0 same) in
        let both : Some size ≡ Some k = is in let value : size ≡ k = cc (both) in
        inr (sym (ap (λ (x : ℕ × (ℕ × ℕ)). x.0) key), sym (ap (λ (x : ℕ × (ℕ × ℕ)). x.1.0) key), sym (ap (λ (x : ℕ × (ℕ × ℕ)). x.1.1) key), sym value)
    by_test false same is = inl is

-- what was known stays known
pub known_more : (m n : Memo) (mode place at size : ℕ) → Updates order_of m.noted n.noted (mode, (place, at)) (Some size) → (a p e : ℕ) → IsKnown m a p e → IsKnown n a p e
known_more m n mode place at size u a p e known = by_test (is_at (order_of (mode, (place, at))) (a, (p, e))) (u.0 (a, (p, e)))
  where
    by_test : (b : Bool) → tree.get order_of n.noted (a, (p, e)) ≡ cond b (Some size) (tree.get order_of m.noted (a, (p, e))) → IsKnown n a p e
    by_test true is = (size, is)
    by_test false is = (known.0, is ∙ known.1)

-- ---- the first character of a text

pub record Begins (rest : List ℕ) (c : ℕ) (v : List ℕ) : Type 0 where
  pub left : List ℕ
  pub is : rest ≡ encode_utf8 c ++ left
  pub utf8 : IsUtf8 left
  pub word : chars left ≡ v

pub begins : (rest : List ℕ) (c : ℕ) (v : List ℕ) → IsUtf8 rest → chars rest ≡ c ∷ v → Begins rest c v
begins rest c v utf8 e =
    let is : rest ≡ encode_utf8 c ++ encode_utf8_all v = sym (encodes-chars rest utf8) ∙ ap encode_utf8_all e in
    let word : c ∷ chars (encode_utf8_all v) ≡ c ∷ v = sym (chars_past_char rest (encode_utf8_all v) c utf8 is) ∙ e in
    record { left = encode_utf8_all v; is = is; utf8 = IsUtf8-past_char rest (encode_utf8_all v) c utf8 is; word = cc (word) }

no_bytes : (rest : List ℕ) → IsUtf8 rest → chars rest ≡ [] → length rest ≡ 0
no_bytes rest utf8 e = ap length (sym (encodes-chars rest utf8) ∙ ap encode_utf8_all e)

pub first_below : (rest : List ℕ) (c : ℕ) (v : List ℕ) → IsUtf8 rest → chars rest ≡ c ∷ v → c < 1114112
first_below rest c v utf8 e = All-head (λ n. n < 1114112) c v (subst (All (λ n. n < 1114112)) e (text_scalars rest utf8))

-- ---- along the walk

-- what settles a run is at most one byte more than there are
pub over_within : (w : Walker) (p n : ℕ) (rest v : List ℕ) → IsUtf8 rest → chars rest ≡ v → IsOver w p v n → n ≤ length rest + 1
over_within w p n rest [] utf8 e (inl o) = omega (arith, o.0)
over_within w p n rest [] utf8 e (inr o) = omega (arith, o.0)
over_within w p n rest (c ∷ v) utf8 e (inl o) = omega (arith, o.0)
over_within w p n rest (c ∷ v) utf8 e (inr (inl o)) =
    let b = begins rest c v utf8 e in
    omega (arith, o.0, ap length b.is, length-append (encode_utf8 c) b.left)
over_within w p n rest (c ∷ v) utf8 e (inr (inr (neither, (m, (size, o))))) =
    let b = begins rest c v utf8 e in
    omega (arith, size, ap length b.is, length-append (encode_utf8 c) b.left, over_within w (next_of w p c) m b.left v b.utf8 b.word o)

-- where the end of the text is seen, more may come
pub over_more : (w : Walker) (p n : ℕ) (rest v : List ℕ) → IsUtf8 rest → chars rest ≡ v → IsOver w p v n → length rest < n → GoesOn w (behind_from w p v)
over_more w p n rest [] utf8 e (inl o) past = absurd (omega (arith, o.0, past))
over_more w p n rest [] utf8 e (inr o) past = o.1
over_more w p n rest (c ∷ v) utf8 e (inl o) past = absurd (omega (arith, o.0, past))
over_more w p n rest (c ∷ v) utf8 e (inr (inl o)) past =
    let b = begins rest c v utf8 e in
    absurd (omega (arith, o.0, past, ap length b.is, length-append (encode_utf8 c) b.left))
over_more w p n rest (c ∷ v) utf8 e (inr (inr (neither, (m, (size, o))))) past =
    let b = begins rest c v utf8 e in
    over_more w (next_of w p c) m b.left v b.utf8 b.word o (omega (arith, size, past, ap length b.is, length-append (encode_utf8 c) b.left))

-- ---- what the walk says of the trees
module _ (w : Walker) (d : List Row) (ts : List Tree) (ps : List ℕ) (walks : IsWalkerOf w d) (h : RecognizesAll d ts ps) where
  right_kind : (u : List ℕ) (k : Kind) (o : Option Row) → IsSomeAnd o (λ r. r.kind ≡ k) → IsSomeAnd o (λ r. IsRightKind ts ps u r.kind) → IsRightKind ts ps u k
  right_kind u k None is right = absurd is
  right_kind u k (Some r) is right = subst (IsRightKind ts ps u) is right

  -- what the place after a word says is right
  pub says_right : (u : List ℕ) → All (λ c. c < 1114112) u → IsRightKind ts ps u (says w (behind w u))
  says_right u scalars = right_kind u (says w (behind w u)) (slice_get d (after d u)) (walks u scalars) (h.kinds u)

  same_kind : (k l : Kind) (o : Option Row) → k ≡ l → IsSomeAnd o (λ r. r.kind ≡ k) → IsSomeAnd o (λ r. r.kind ≡ l)
  same_kind k l o e is = subst (λ (x : Kind). IsSomeAnd o (λ r. r.kind ≡ x)) e is

  one_kind : (k l : Kind) (o : Option Row) → IsSomeAnd o (λ r. r.kind ≡ k) → IsSomeAnd o (λ r. r.kind ≡ l) → k ≡ l
  one_kind k l None is same = absurd is
  one_kind k l (Some r) is same = sym is ∙ same

  -- after a word at which the walk rejects, no tree matches
  pub none_after_reject : (u v : List ℕ) → All (λ c. c < 1114112) u → says w (behind w u) ≡ Reject → ¬ Matched ts (u ++ v)
  none_after_reject u v scalars reject =
      none_behind d ts ps h u v (same_kind (says w (behind w u)) Reject (slice_get d (after d u)) reject (walks u scalars))

  none_after_next : (u v : List ℕ) (c : ℕ) → All (λ c. c < 1114112) u → c < 1114112 → says w (next_of w (behind w u) c) ≡ Reject → ¬ Matched ts (u ++ c ∷ v)
  none_after_next u v c scalars below reject =
      subst (λ (x : List ℕ). ¬ Matched ts x) (append_assoc u (c ∷ []) v)
      (none_after_reject (u ++ c ∷ []) v (All-push (λ n. n < 1114112) u c scalars below) (ap (says w) (behind_push w u c) ∙ reject))

  closed_at_last : (u : List ℕ) → All (λ c. c < 1114112) u → IsLast w (behind w u) → IsClosed ts u
  closed_at_last u scalars last [] below some m = some refl
  closed_at_last u scalars last (c ∷ v) below some m =
      let small = All-head (λ n. n < 1114112) c v below in
      none_after_next u v c scalars small (last c small) m

  -- no nonempty front of what is left leads to a match
  pub over_none : (u v : List ℕ) (n : ℕ) → All (λ c. c < 1114112) u → All (λ c. c < 1114112) v → IsOver w (behind w u) v n → (z y : List ℕ) → v ≡ z ++ y → 0 < length z
      → ¬ Matched ts (u ++ z)
  over_none u [] n su sv o z y e some m = omega (arith, some, ap length e, length-append z y)
  over_none u (c ∷ v) n su sv o [] y e some m = omega (arith, some)
  over_none u (c ∷ v) n su sv (inl o) (b ∷ z) y e some m =
      let small = All-head (λ n. n < 1114112) c v sv in
      let first : c ≡ b = cc (e) in
      none_after_next u z c su small (o.1 c small) (subst (λ (x : ℕ). Matched ts (u ++ x ∷ z)) (sym first) m)
  over_none u (c ∷ v) n su sv (inr (inl o)) (b ∷ z) y e some m =
      let small = All-head (λ n. n < 1114112) c v sv in
      let first : c ≡ b = cc (e) in
      none_after_next u z c su small o.1 (subst (λ (x : ℕ). Matched ts (u ++ x ∷ z)) (sym first) m)
  over_none u (c ∷ v) n su sv (inr (inr (neither, (k, (size, o))))) (b ∷ []) y e some m =
      let small = All-head (λ n. n < 1114112) c v sv in
      let first : c ≡ b = cc (e) in
      let all = All-push (λ n. n < 1114112) u c su small in
      let right : IsRightKind ts ps (u ++ c ∷ []) Neither =
      subst (IsRightKind ts ps (u ++ c ∷ [])) (ap (says w) (behind_push w u c) ∙ neither) (says_right (u ++ c ∷ []) all) in
      right (subst (λ (x : ℕ). Matched ts (u ++ x ∷ [])) (sym first) m)
  over_none u (c ∷ v) n su sv (inr (inr (neither, (k, (size, o))))) (b ∷ a ∷ z) y e some m =
      let small = All-head (λ n. n < 1114112) c v sv in
      let first : c ≡ b = cc (e) in
      let left : v ≡ (a ∷ z) ++ y = cc (e) in
      let all = All-push (λ n. n < 1114112) u c su small in
      let there : IsOver w (behind w (u ++ c ∷ [])) v k = subst (λ (p : ℕ). IsOver w p v k) (sym (behind_push w u c)) o in
      over_none (u ++ c ∷ []) v k all (All-tail (λ n. n < 1114112) c v sv) there (a ∷ z) y left (omega arith)
      (subst (Matched ts) (sym (append_assoc u (c ∷ []) (a ∷ z))) (subst (λ (x : ℕ). Matched ts (u ++ x ∷ a ∷ z)) (sym first) m))

  settled_here : (text rest : List ℕ) (at n : ℕ) → IsCut text at rest → IsClosed ts (chars (take at text)) → IsSettledBy ts text (at + n)
  settled_here text rest at n cut closed = inr (take at text, ((rest, (cut.split, cut.seen_utf8)), omega (arith, cut.place), closed))

  -- so many bytes settle what matches
  pub over_settles : (text rest v : List ℕ) (at n : ℕ) → IsUtf8 text → IsCut text at rest → chars rest ≡ v → IsOver w (behind w (chars (take at text))) v n
      → IsSettledBy ts text (at + n)
  over_settles text rest [] at n utf8 cut e (inl o) = settled_here text rest at n cut (closed_at_last (chars (take at text)) (text_scalars (take at text) cut.seen_utf8) o.1)
  over_settles text rest [] at n utf8 cut e (inr o) = inl (omega (arith, o.0, cut_within text rest at cut, no_bytes rest cut.rest_utf8 e))
  over_settles text rest (c ∷ v) at n utf8 cut e (inl o) =
      settled_here text rest at n cut (closed_at_last (chars (take at text)) (text_scalars (take at text) cut.seen_utf8) o.1)
  over_settles text rest (c ∷ v) at n utf8 cut e (inr (inl o)) =
      let b = begins rest c v cut.rest_utf8 e in
      let cut2 = cut_more text rest b.left at (at + n) c utf8 cut b.is (omega (arith, o.0)) in
      let word = word_after text rest b.left at (at + n) c cut b.is (omega (arith, o.0)) in
      let reject : says w (behind w (chars (take (at + n) text))) ≡ Reject = ap (λ (u : List ℕ). says w (behind w u)) word ∙ ap (says w) (behind_push w (chars (take at text)) c) ∙ o.1 in
      inr (take (at + n) text, ((b.left, (cut2.split, cut2.seen_utf8)), omega (arith, cut2.place), λ z below some. none_after_reject (chars (take (at + n) text)) z (text_scalars (take (at + n) text) cut2.seen_utf8) reject))
  over_settles text rest (c ∷ v) at n utf8 cut e (inr (inr (neither, (m, (size, o))))) =
      let b = begins rest c v cut.rest_utf8 e in
      let at2 = at + length (encode_utf8 c) in
      let cut2 = cut_more text rest b.left at at2 c utf8 cut b.is refl in
      let word = word_after text rest b.left at at2 c cut b.is refl in
      let there : next_of w (behind w (chars (take at text))) c ≡ behind w (chars (take at2 text)) = sym (ap (behind w) word ∙ behind_push w (chars (take at text)) c) in
      let sum : at2 + m ≡ at + n = omega (arith, size) in
      subst (IsSettledBy ts text) sum (over_settles text b.left v at2 m utf8 cut2 b.word (subst (λ (p : ℕ). IsOver w p v m) there o))

  -- what matched last is the longest match
  pub over_longest : (text rest : List ℕ) (at n : ℕ) (best : Option (ℕ × List ℕ)) → IsCut text at rest → IsOver w (behind w (chars (take at text))) (chars rest) n
      → IsLongestUpTo ts ps text at best → IsLongest ts ps text best
  over_longest text rest at n best cut o up =
      done ts ps text at best
      (λ p m.
      ⊎_elim (λ (above : at < length p).
      let g = goes_on text rest at p cut m.0 (omega arith) in
      let word : chars p ≡ chars (take at text) ++ chars g.more = ap chars g.is ∙ chars-append (take at text) g.more cut.seen_utf8 in
      let left : chars rest ≡ chars g.more ++ chars g.left = ap chars g.rest_is ∙ chars-append g.more g.left g.utf8 in
      let some : 0 < length g.more = omega (arith, ap length g.is, length-append (take at text) g.more, cut.place) in
      absurd (over_none (chars (take at text)) (chars rest) n (text_scalars (take at text) cut.seen_utf8) (text_scalars rest cut.rest_utf8) o (chars g.more) (chars g.left) left (some_chars g.more g.utf8 some) (subst (Matched ts) word m.2)))
      (λ (below : length p ≤ at). below)
      (cases_lt at (length p)))
      up
    where
      some_chars : (more : List ℕ) → IsUtf8 more → 0 < length more → 0 < length (chars more)
      some_chars more utf8 some = by_chars (chars more) refl
        where
          by_chars : (cs : List ℕ) → chars more ≡ cs → 0 < length (chars more)
          by_chars [] e = absurd (omega (arith, some, no_bytes more utf8 e))
          by_chars (c ∷ cs) e = omega (arith, ap length e)

  -- and up to there it is
  pub last_up_to : (text rest : List ℕ) (at p : ℕ) (best : Option (ℕ × List ℕ)) → IsCut text at rest → p ≡ behind w (chars (take at text)) → MatchedLast w (take at text) p best
      → IsLongestUpTo ts ps text at best
  last_up_to text rest at p None cut reached none = subst (λ (n : ℕ). IsLongestUpTo ts ps text n None) (omega (arith, none, cut.place)) (longest_start ts ps text)
  last_up_to text rest at p (Some m) cut reached (some, is, accepts) =
      longest_accept ts ps text rest at m.0 m.1 cut (omega (arith, some, cut.place)) is
      (subst (IsRightKind ts ps (chars (take at text))) (ap (says w) (sym reached) ∙ accepts) (says_right (chars (take at text)) (text_scalars (take at text) cut.seen_utf8)))

  -- where a character leads on, some longer word matches
  pub leads_to_longer : (u : List ℕ) → IsTrim d → All (λ c. c < 1114112) u → GoesOn w (behind w u) → (v : List ℕ) × ((v ≢ []) × Matched ts (u ++ v))
  leads_to_longer u trim below (c, (less, on)) =
      let scalars = All-push (λ n. n < 1114112) u c below less in
      goes_on_to_match d ts ps h u c trim
      (λ reject. on (ap (says w) (sym (behind_push w u c)) ∙ one_kind (says w (behind w (u ++ c ∷ []))) Reject (slice_get d (after d (u ++ c ∷ []))) (walks (u ++ c ∷ []) scalars)
      (subst (IsReject d) (sym (after_push d u c)) reject)))

  -- so it does where the end was seen
  pub over_earliest : (text rest : List ℕ) (at n : ℕ) → IsTrim d → IsUtf8 text → IsCut text at rest → IsOver w (behind w (chars (take at text))) (chars rest) n → length rest < n
      → BeginsLonger ts text
  over_earliest text rest at n trim utf8 cut o past =
      let whole : chars text ≡ chars (take at text) ++ chars rest = ap chars cut.split ∙ chars-append (take at text) rest cut.seen_utf8 in
      let more = over_more w (behind w (chars (take at text))) n rest (chars rest) cut.rest_utf8 refl o past in
      let there : behind_from w (behind w (chars (take at text))) (chars rest) ≡ behind w (chars text) = sym (ap (behind w) whole ∙ behind_append w (chars (take at text)) (chars rest)) in
      leads_to_longer (chars text) trim (text_scalars text utf8) (subst (GoesOn w) there more)

-- ---- where a run stood

pub stand_cut : (w : Walker) (text : List ℕ) (end place : ℕ) (best : Option (ℕ × List ℕ)) → IsStand w text end place best → IsCut text end (drop end text)
stand_cut w text end place best h = record {
  split = sym (take-append-drop end text);
  place = omega (arith, length-take end text, h.within);
  seen_utf8 = h.seen;
  rest_utf8 = h.rest;
}

pub left_over : (text rest : List ℕ) (at : ℕ) → IsCut text at rest → drop at text ≡ rest
left_over text rest at cut = ap (drop at) cut.split ∙ drop_at (take at text) rest at cut.place

pub stand_there : (w : Walker) (text rest : List ℕ) (at place : ℕ) (best : Option (ℕ × List ℕ)) → IsCut text at rest → place ≡ behind w (chars (take at text))
    → MatchedLast w (take at text) place best → IsStand w text at place best
stand_there w text rest at place best cut reached last = record {
  within = omega (arith, cut_within text rest at cut);
  seen = cut.seen_utf8;
  rest = subst IsUtf8 (sym (left_over text rest at cut)) cut.rest_utf8;
  reached = reached;
  last = last;
}

-- ---- what is noted stays sound

-- from an open place a run goes on
pub over_open : (w : Walker) (p c n : ℕ) (v : List ℕ) → c < 1114112 → says w (next_of w p c) ≡ Neither → IsOver w p (c ∷ v) n
    → (m : ℕ) × ((n ≡ length (encode_utf8 c) + m) × IsOver w (next_of w p c) v m)
over_open w p c n v below neither (inl o) = let both : Reject ≡ Neither = sym (o.1 c below) ∙ neither in cc
over_open w p c n v below neither (inr (inl o)) = let both : Reject ≡ Neither = sym o.1 ∙ neither in cc
over_open w p c n v below neither (inr (inr o)) = o.1

-- one more pair was noted, after a front of the text
pub noted_sound : (w : Walker) (m n : Memo) (mode at place size to : ℕ) (text rest : List ℕ) (i : ℕ) → IsCut text i rest → to ≡ at + i → IsOver w place (chars rest) size
    → ((a p e k : ℕ) → IsNoted n a p e k → IsNoted m a p e k ⊎ ((a ≡ mode) × (p ≡ place) × (e ≡ to) × (k ≡ size)))
    → (begin j : ℕ) (all : List ℕ) → begin + j ≡ at → j ≤ length all → drop j all ≡ text → IsSound w m mode begin all → IsSound w n mode begin all
noted_sound w m n mode at place size to text rest i cut there o only begin j all sum within left sound p e k noted = by_pair (only mode p (begin + e) k noted)
  where
    by_pair : IsNoted m mode p (begin + e) k ⊎ ((mode ≡ mode) × (p ≡ place) × (begin + e ≡ to) × (k ≡ size)) → (e ≤ length all) × IsOver w p (chars (drop e all)) k
    by_pair (inl old) = sound p e k old
    by_pair (inr (_, same, here, value)) =
        let place_in : e ≡ j + i = omega (arith, here, there, sum) in
        let rest_is : drop e all ≡ rest = ap (λ (x : ℕ). drop x all) place_in ∙ sym (drop-drop i j all) ∙ ap (drop i) left ∙ left_over text rest i cut in (
          omega (arith, place_in, within, ap length left, length-drop j all, cut_within text rest i cut),
          rw (same, value, rest_is) o,
        )

-- what matched last is a nonempty front of the text
pub last_prefix : (w : Walker) (text rest : List ℕ) (at p : ℕ) (o : Option (ℕ × Bor (List ℕ))) → IsCut text at rest → MatchedLast w (take at text) p (option_map (λ m. (m.0, m.1.now)) o)
    → IfSome o (λ m. IsPrefix m.1.now text × (m.1.now ≢ []))
last_prefix w text rest at p None cut last = tt
last_prefix w text rest at p (Some m) cut (some, is, accepts) = part_accept text rest at m.1.now cut (omega (arith, some, cut.place)) is

-- what is noted for a later text is noted for the whole
pub whole_sound : (w : Walker) (m n : Memo) (mode at end : ℕ) (text : List ℕ) → end ≤ length text
    → ((begin i : ℕ) (all : List ℕ) → begin + i ≡ at + end → i ≤ length all → drop i all ≡ drop end text → IsSound w m mode begin all → IsSound w n mode begin all)
    → (begin i : ℕ) (all : List ℕ) → begin + i ≡ at → i ≤ length all → drop i all ≡ text → IsSound w m mode begin all → IsSound w n mode begin all
whole_sound w m n mode at end text within later begin i all sum less is sound =
    later begin (i + end) all (omega (arith, sum)) (omega (arith, within, less, ap length is, length-drop i all)) (sym (drop-drop end i all) ∙ ap (drop end) is) sound

-- and what is sound for the whole is sound for what is left of it
pub left_sound : (w : Walker) (m : Memo) (mode at k : ℕ) (text : List ℕ) → k ≤ length text → IsSound w m mode at text → IsSound w m mode (at + k) (drop k text)
left_sound w m mode at k text within sound p i n noted =
    let there = sound p (k + i) n (subst (λ (e : ℕ). IsNoted m mode p e n) (omega arith) noted) in
    (omega (arith, there.0, length-drop k text), rw (drop-drop i k text) there.1)

-- ---- the walks of all modes

pub pushed : {X : Type 0} (xs : List X) (x y : X) (m : ℕ) → slice_get (xs ++ x ∷ []) m ≡ Some y → (slice_get xs m ≡ Some y) ⊎ ((m ≡ length xs) × (y ≡ x))
pushed [] x y zero e = inr (refl, cc (e))
pushed [] x y (suc m) e = absurd (cc (e))
pushed (z ∷ xs) x y zero e = inl e
pushed (z ∷ xs) x y (suc m) e = elim (pushed xs x y m e) [
  | inl old ↦ inl old
  | inr new ↦ inr (omega (arith, new.0), new.1)
]

-- a piece was cut in one of them
pub cutter_next : (r : ModeRules) (c : Cutter) (memo : Memo) (mode at size : ℕ) (w : Walker) (text : List ℕ) → IsCutter r c at (drop at text) → slice_get c.walkers.items mode ≡ Some w
    → IsSound w memo mode at (drop at text) → ((m p e n : ℕ) → m ≢ mode → IsNoted memo m p e n → IsNoted c.memo m p e n) → size ≤ length (drop at text)
    → IsCutter r (record c { memo = memo }) (at + size) (drop (at + size) text)
cutter_next r c memo mode at size w text is here sound others within = record {
  count = is.count;
  right = is.right;
  same = is.same;
  one = is.one;
  sound = λ m v there. subst (λ (t : List ℕ). IsSound v memo m (at + size) t) (drop-drop size at text) (left_sound v memo m at size (drop at text) within (by_mode m v there (cases_eq m mode)));
}
  where
    by_mode : (m : ℕ) (v : Walker) → slice_get c.walkers.items m ≡ Some v → (m ≡ mode) ⊎ (m ≡ mode → ⊥) → IsSound v memo m at (drop at text)
    by_mode m v there (inl one) =
        let both : Some v ≡ Some w = sym there ∙ ap (slice_get c.walkers.items) one ∙ here in
        let same : v ≡ w = cc (both) in
        rw (one, same) sound
    by_mode m v there (inr other) = λ p i n noted. is.sound m v there p i n (others m p (at + i) n other noted)

-- one more walk is that of the automaton there
pub new_walk : (P : List Row → Type 0) (ds : List (List Row)) (d e f : List Row) (m k : ℕ) → P e → e ≡ f → slice_get ds k ≡ Some f → m ≡ k → slice_get ds m ≡ Some d → P d
new_walk P ds d e f m k walks same at here there =
    let both : Some d ≡ Some f = sym there ∙ ap (slice_get ds) here ∙ at in
    let one : d ≡ f = cc (both) in
    subst P (same ∙ sym one) walks
