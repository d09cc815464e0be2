use Rattle.std.proofs.Common.{◌≡◌, ℕ, ◌<◌, ◌+◌, ◌⊎◌, inl, inr, List, [], ◌∷◌, take, drop, refl, sym, ap, subst, ◌∙◌, arith}
use Rattle.std.specs.Prelude.{Option, Some, None}
use Rattle.std.specs.Option.{option_map}
use Rattle.std.specs.Str.{chars, IsUtf8, IsCharBoundary}
use Rattle.std.proofs.lemmas.Bool.{cases_order}
use Rattle.std.proofs.lemmas.Str.{IsUtf8-take}
use Rattle.lalrpop_hir.specs.Tree.{Tree}
use Rattle.lalrpop_hir.specs.Longest.{IsLongest}
use Rattle.lalrpop_dfa.specs.Dfa.{Row, RecognizesAll}
use Rattle.lalrpop_dfa.specs.Lookahead.{IsTrim}
use Rattle.bajofeki.specs.Lexed.{BeginsLonger}
use Rattle.bajofeki.specs.declared.walker.Walker.{Walker}
use Rattle.bajofeki.specs.Internal.Noted.{GoesOn, IsLast, IsOver, IsStand}
use Rattle.bajofeki.specs.Internal.Paying.{size_of}
use Rattle.bajofeki.specs.Internal.Reach.{IsSettledBy}
use Rattle.bajofeki.specs.Internal.Walking.{IsMet, IsWalkerOf, behind}
use Rattle.bajofeki.proofs.Noting.{leads_to_longer, over_settles, stand_cut}
use Rattle.bajofeki.proofs.Reading.{AreOpen, match_longer, open_matches, past_longest}
use Rattle.bajofeki.proofs.Vain.{stand_size}
use Rattle.bajofeki.proofs.Walking.{met_behind, text_scalars}
use Rattle.bajofeki.proofs.settled_token.least_settled.Goals as goal

-- the place where a run stood
stood : (w : Walker) (text : List ℕ) (end place : ℕ) (best : Option (ℕ × List ℕ)) → IsStand w text end place best → IsMet w place
stood w text end place best stand = subst (IsMet w) (sym stand.reached) (met_behind w (chars (take end text)) (text_scalars (take end text) stand.seen))

-- where each character leads to one that rejects, nothing after the place matters
last_over : (w : Walker) (p : ℕ) (v : List ℕ) → IsLast w p → IsOver w p v 0
last_over w p [] last = inl (refl, last)
last_over w p (c ∷ v) last = inl (refl, last)

-- a front that is shorter than the longest match
before_end : (ts : List Tree) (ps text : List ℕ) (o : Option (ℕ × List ℕ)) (n : ℕ) → IsLongest ts ps text o → n < size_of o → IsUtf8 (take n text) → BeginsLonger ts (take n text)
before_end ts ps text None n longest less u = absurd (omega (arith, less))
before_end ts ps text (Some m) n longest less u = match_longer ts text m.1 n longest.0 less u

module _ (w : Walker) (d : List Row) (ts : List Tree) (ps : List ℕ) (walks : IsWalkerOf w d) (h : RecognizesAll d ts ps) (text : List ℕ) (end place : ℕ) (best : Option (ℕ × List ℕ))
    (utf8 : IsUtf8 text) (stand : IsStand w text end place best) where
  last_settles : IsLast w place → IsSettledBy ts text end
  last_settles last =
      let whole : end + 0 ≡ end = omega arith in
      subst (IsSettledBy ts text) whole
      (over_settles w d ts ps walks h text (drop end text) (chars (drop end text)) end 0 utf8 (stand_cut w text end place best stand) refl
      (last_over w (behind w (chars (take end text))) (chars (drop end text)) (subst (IsLast w) stand.reached last)))

  none_earlier : IsTrim d → IsLongest ts ps text best → GoesOn w place → (reach : ℕ) → AreOpen w text (size_of best) reach → (n : ℕ) → n < reach → IsCharBoundary text n → BeginsLonger ts (take n text)
  none_earlier trim longest on reach neither n below boundary = by_order (cases_order n end)
    where
      size : size_of best ≡ end
      size = stand_size w text end place best stand

      u : IsUtf8 (take n text)
      u = IsUtf8-take text n utf8 boundary

      by_order : (n ≡ end) ⊎ ((n < end) ⊎ (end < n)) → BeginsLonger ts (take n text)
      by_order (inl same) =
          leads_to_longer w d ts ps walks h (chars (take n text)) trim (text_scalars (take n text) u)
          (subst (GoesOn w) (stand.reached ∙ ap (λ (k : ℕ). behind w (chars (take k text))) (sym same)) on)
      by_order (inr (inl before)) = before_end ts ps text best n longest (omega (arith, before, size)) u
      by_order (inr (inr past)) =
          past_longest ts ps text best n longest (omega (arith, past, size)) boundary.0 u
          (open_matches w d ts ps walks trim h (chars (take n text)) (text_scalars (take n text) u) (neither n (omega (arith, past, size)) below boundary.0 u))

pub is_last-requires-clause-met : goal.is_last-requires-clause-met
is_last-requires-clause-met c = let f = c.longest_settled-found in stood c.args.walker.now c.args.text.now f.result.end f.result.place _ f.ensures.stand

pub returns-then-is_last-clause-settled : goal.returns-then-is_last-clause-settled
returns-then-is_last-clause-settled c = λ d ts ps walks h.
    let f = c.longest_settled-found in
    last_settles c.args.walker.now d ts ps walks h c.args.text.now f.result.end f.result.place _ c.utf8.text f.ensures.stand (c.is_last.ensures.last c.if-is_last.true)

pub returns-then-is_last-clause-least : goal.returns-then-is_last-clause-least
returns-then-is_last-clause-least c = λ d ts ps walks trim h n below boundary.
    let f = c.longest_settled-found in
    let best = option_map (λ m. (m.0, m.1.now)) f.result.longest in
    before_end ts ps c.args.text.now best n (f.ensures.answer d ts ps walks h) (omega (arith, below, stand_size c.args.walker.now c.args.text.now f.result.end f.result.place best f.ensures.stand))
    (IsUtf8-take c.args.text.now n c.utf8.text boundary)

pub returns-then-is_last-clause-within : goal.returns-then-is_last-clause-within
returns-then-is_last-clause-within c = let within = c.longest_settled-found.ensures.stand.within in omega (arith, within)

pub returns-clause-least : goal.returns-clause-least
returns-clause-least c = λ d ts ps walks trim h n below boundary.
    let f = c.longest_settled-found in
    let best = option_map (λ m. (m.0, m.1.now)) f.result.longest in
    none_earlier c.args.walker.now d ts ps walks h c.args.text.now f.result.end f.result.place best c.utf8.text f.ensures.stand trim
    (f.ensures.answer d ts ps walks h) (c.is_last.ensures.goes_on c.if-is_last.false) f.result.reach f.ensures.all_open n below boundary
