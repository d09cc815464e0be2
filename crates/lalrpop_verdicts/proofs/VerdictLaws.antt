-- Verdicts on trees, from the automaton of all of them and the automaton of one alone.
use Rattle.std.proofs.Common.{◌≡◌, ◌≢◌, ℕ, zero, suc, ◌+◌, ◌-◌, ◌<◌, ◌↔◌, inl, inr, List, [], ◌∷◌, ◌++◌, length, length-append, take, drop, get_or, slice_range, Global, Vec, arith, subst, sym, ap, ◌∙◌, refl}
use Rattle.std.specs.Prelude.{slice_get, Option, Some, None, IsSomeAnd, option_map}
use Rattle.std.proofs.lemmas.Option.{slice_get-get_or}
use Rattle.lalrpop_hir.specs.Tree.{Tree, empty}
use Rattle.lalrpop_hir.specs.Language.{Matches}
use Rattle.lalrpop_hir.specs.Winners.{TreeMatches, Matched, IsOnlyStrongest}
use Rattle.lalrpop_hir.proofs.Pushed.{pushed_cases}
use Rattle.lalrpop_dfa.specs.Dfa.{Row, after, Recognizes, RecognizesAll, IsRightKind}
use Rattle.lalrpop_dfa.specs.Lookahead.{Accepted}
use Rattle.lalrpop_dfa.specs.Witness.{IsLeast}
use Rattle.lalrpop_dfa.specs.declared.Kind.{Kind}
use Rattle.lalrpop_dfa.specs.declared.Kind.TheVariants.{Accepts, Reject, Neither}
use Rattle.lalrpop_dfa.proofs.Recognized.{matched_accepts, accepted_matched}
use Rattle.lalrpop_verdicts.specs.Answers.{accepted_by, accepted_at, answer}
use Rattle.lalrpop_verdicts.specs.WonWord.{WonWord}
use Rattle.lalrpop_verdicts.specs.Verdicts.{AreWinners, IsVerdict, IsWonBy, words_of}
use Rattle.lalrpop_verdicts.specs.Internal.WonWords.{AreWonWords, IsBoth, IsLeastWon, IsOwn, StaysDead}
use Rattle.lalrpop_verdicts.specs.declared.verdict.Verdict.{Verdict}
use Rattle.lalrpop_verdicts.specs.declared.verdict.Verdict.TheVariants.{Wins, Shadowed, Unmatched}
use Rattle.lalrpop_verdicts.proofs.TextWordLaws.{text_is_word}
use Rattle.lalrpop_verdicts.proofs.WonWordLaws.{accepting}

-- the least word with a property is the least one with the same property in other words
same_least : (P Q : List ℕ → Type 0) → ((w : List ℕ) → P w ↔ Q w) → (w : List ℕ) → IsLeast P w → IsLeast Q w
same_least P Q same w h = record { holds = (same w).0 h.holds; least = λ u less q. h.least u less ((same u).1 q) }

-- ---- what the kind of a state says
module _ (ts : List Tree) (ps w : List ℕ) where
  strongest_of : (o : Option Row) (j : ℕ) → IsSomeAnd o (λ r. IsRightKind ts ps w r.kind) → accepted_at o ≡ Some j → IsOnlyStrongest ts ps w j
  strongest_of None j h e = absurd h
  strongest_of (Some r) j h e = by r.kind h e
    where
      by : (k : Kind) → IsRightKind ts ps w k → accepted_by k ≡ Some j → IsOnlyStrongest ts ps w j
      by (Accepts i) only e = let same : i ≡ j = cc in subst (λ x. IsOnlyStrongest ts ps w x) same only
      by Reject not e = cc
      by Neither not e = cc

  accepts_strongest : (o : Option Row) (j : ℕ) → IsSomeAnd o (λ r. IsRightKind ts ps w r.kind) → IsOnlyStrongest ts ps w j → accepted_at o ≡ Some j
  accepts_strongest None j h only = absurd h
  accepts_strongest (Some r) j h only = by r.kind h
    where
      by : (k : Kind) → IsRightKind ts ps w k → accepted_by k ≡ Some j
      by (Accepts i) one = ap (λ x. Some x) (sym (one.1 j only.0))
      by Reject not = absurd (not (j, only.0.0))
      by Neither not = absurd (not (j, only.0.0))

  accepts_some : (o : Option Row) → IsSomeAnd o (λ r. IsRightKind ts ps w r.kind) → Matched ts w → (j : ℕ) × (accepted_at o ≡ Some j)
  accepts_some None h m = absurd h
  accepts_some (Some r) h m = by r.kind h
    where
      by : (k : Kind) → IsRightKind ts ps w k → (j : ℕ) × (accepted_by k ≡ Some j)
      by (Accepts i) one = (i, refl)
      by Reject not = absurd (not m)
      by Neither not = absurd (not m)

-- ---- the automaton of all trees
module _ (d : List Row) (ts : List Tree) (ps : List ℕ) (h : Recognizes d ts ps) where
  self_won : (i : ℕ) (w : List ℕ) → IsBoth d d i w → IsWonBy (words_of ts i) ts ps i w
  self_won i w both =
      let only : IsOnlyStrongest ts ps w i = strongest_of ts ps w (slice_get d (after d w)) i (h.kinds w (text_is_word w both.0)) both.3 in
      (both.0, both.1, only.0.0, only)

  won_self : (i : ℕ) (w : List ℕ) → IsWonBy (words_of ts i) ts ps i w → IsBoth d d i w
  won_self i w won =
      let e : answer d w ≡ Some i = accepts_strongest ts ps w (slice_get d (after d w)) i (h.kinds w (text_is_word w won.0)) won.3 in
      (won.0, won.1, accepting (slice_get d (after d w)) i e, e)

  -- a tree with a least word wins
  pub wins : (i : ℕ) (w : Vec ℕ Global) → IsLeastWon d i (Some w.items) → IsVerdict ts ps i (Wins w)
  wins i w least = same_least (IsBoth d d i) (IsWonBy (words_of ts i) ts ps i) (λ u. (self_won i u, won_self i u)) w.items least

  -- a tree that wins nothing is hidden by the trees that win its words
  pub shadowed : (i : ℕ) (by : Vec WonWord Global) → AreWinners (words_of ts i) ts ps by.items → by.items ≢ [] → IsLeastWon d i None → IsVerdict ts ps i (Shadowed by)
  shadowed i by won some none = ((λ w wins. none w (won_self i w wins)), some, won)

  -- and if no tree wins its words, it has none: some tree wins each word that is matched
  pub unmatched : (i : ℕ) (found : List WonWord) → AreWinners (words_of ts i) ts ps found → found ≡ [] → IsVerdict ts ps i Unmatched
  unmatched i found won none = λ w text some m. (let kinds = h.kinds w (text_is_word w text) in
      let (j, e) = accepts_some ts ps w (slice_get d (after d w)) kinds (i, m) in
      let only : IsOnlyStrongest ts ps w j = strongest_of ts ps w (slice_get d (after d w)) j kinds e in
      let (x, ((k, l, same), by)) = won.all j w (text, some, m, only) in
      absurd (omega (arith, l, ap length none)))

-- ---- the automaton of one tree, beside the automaton of a list
module _ (us : List Tree) (i : ℕ) (o : List Row) (own : IsOwn us i o) where
  pub own_stays : StaysDead o
  own_stays p c fits = own.recognizes.stays p c

  own_accepts : (w : List ℕ) → TreeMatches us w i → Accepted o w
  own_accepts w (t, (at, m)) =
      let e : Some t ≡ Some own.tree = sym at ∙ own.at in
      let same : t ≡ own.tree = cc in
      matched_accepts o (own.tree ∷ []) (0 ∷ []) own.recognizes w (0, (own.tree, (refl, subst (λ x. Matches x w) same m)))

  only_tree : (k : ℕ) (t : Tree) → slice_get (own.tree ∷ []) k ≡ Some t → own.tree ≡ t
  only_tree zero t e = cc
  only_tree (suc k) t e = cc

  own_matches : (w : List ℕ) → Accepted o w → TreeMatches us w i
  own_matches w a =
      let (k, (t, (at, m))) = accepted_matched o (own.tree ∷ []) (0 ∷ []) own.recognizes w a in
      (own.tree, (own.at, subst (λ x. Matches x w) (sym (only_tree k t at)) m))

  module _ (d : List Row) (ts : List Tree) (ps : List ℕ) (h : Recognizes d ts ps) where
    both_won : (j : ℕ) (w : List ℕ) → IsBoth o d j w → IsWonBy (words_of us i) ts ps j w
    both_won j w both = (both.0, both.1, own_matches w both.2, strongest_of ts ps w (slice_get d (after d w)) j (h.kinds w (text_is_word w both.0)) both.3)

    won_both : (j : ℕ) (w : List ℕ) → IsWonBy (words_of us i) ts ps j w → IsBoth o d j w
    won_both j w won = (won.0, won.1, own_accepts w won.2, accepts_strongest ts ps w (slice_get d (after d w)) j (h.kinds w (text_is_word w won.0)) won.3)

    -- the trees that win words which both automata accept are the winners of its words
    pub are_winners : (found : List WonWord) → AreWonWords o d found → AreWinners (words_of us i) ts ps found
    are_winners found won = record {
      ascending = won.ascending;
      each = λ x has. same_least (IsBoth o d x.by) (IsWonBy (words_of us i) ts ps x.by) (λ u. (both_won x.by u, won_both x.by u)) x.word (won.each x has);
      all = λ j w wins. won.all j w (won_both j w wins);
    }

-- ---- one verdict after the other

-- the verdicts so far are right, and the rest has the least words of the trees after them
pub record AreVerdictsTo (d : List Row) (ts : List Tree) (found : List Verdict) (rest : List (Option (Vec ℕ Global))) : Type 0 where
  pub all : length found + length rest ≡ length ts
  pub each : (ps : List ℕ) → Recognizes d ts ps → (i : ℕ) (v : Verdict) → slice_get found i ≡ Some v → IsVerdict ts ps i v
  pub behind : StaysDead d → (k : ℕ) (o : Option (Vec ℕ Global)) → slice_get rest k ≡ Some o → IsLeastWon d (length found + k) (option_map (λ w. w.items) o)

pub no_verdicts : (d : List Row) (ts : List Tree) (rest : List (Option (Vec ℕ Global))) → length rest ≡ length ts
    → (StaysDead d → (i : ℕ) (o : Option (Vec ℕ Global)) → slice_get rest i ≡ Some o → IsLeastWon d i (option_map (λ w. w.items) o)) → AreVerdictsTo d ts [] rest
no_verdicts d ts rest long least = record {
  all = omega (arith, long);
  each = λ ps h i v at. cc;
  behind = λ stays k o at. (let same : k ≡ 0 + k = omega arith in subst (λ i. IsLeastWon d i (option_map (λ w. w.items) o)) same (least stays k o at));
}

module _ (d : List Row) (ts : List Tree) (found : List Verdict) (o : Option (Vec ℕ Global)) (rest : List (Option (Vec ℕ Global))) (h : AreVerdictsTo d ts found (o ∷ rest)) where
  -- the next tree's least word
  pub next_least : (ps : List ℕ) → Recognizes d ts ps → IsLeastWon d (length found) (option_map (λ w. w.items) o)
  next_least ps r =
      let same : length found + 0 ≡ length found = omega arith in
      subst (λ i. IsLeastWon d i (option_map (λ w. w.items) o)) same (h.behind (λ p c fits. r.stays p c fits) 0 o refl)

  pub next_within : length found < length ts
  next_within = omega (arith, h.all)

  pub next_verdict : (v : Verdict) → ((ps : List ℕ) → Recognizes d ts ps → IsVerdict ts ps (length found) v) → AreVerdictsTo d ts (found ++ v ∷ []) rest
  next_verdict v right = record {
    all = omega (arith, h.all, length-append found (v ∷ []));
    each = λ ps r i u at. elim (pushed_cases found v i u at) [
      | inl was ↦ h.each ps r i u was
      | inr new ↦ rw (new.0, new.1) (right ps r)
    ];
    behind = λ stays k p at. (let same : length found + suc k ≡ length (found ++ v ∷ []) + k = omega (arith, length-append found (v ∷ [])) in
        subst (λ i. IsLeastWon d i (option_map (λ w. w.items) p)) same (h.behind stays (suc k) p at));
  }

module _ (d : List Row) (ts : List Tree) (found found2 : List Verdict) (s t : List (Option (Vec ℕ Global))) (o : Option (Vec ℕ Global)) (v : Verdict) (h : AreVerdictsTo d ts found s) (turn : s ≡ o ∷ t) (more : found2 ≡ found ++ v ∷ []) where
  here : AreVerdictsTo d ts found (o ∷ t)
  here = subst (λ x. AreVerdictsTo d ts found x) turn h

  -- a tree with a least word wins
  pub won_turn : (w : Vec ℕ Global) → o ≡ Some w → v ≡ Wins w → AreVerdictsTo d ts found2 t
  won_turn w is wins_it = subst (λ x. AreVerdictsTo d ts x t) (sym more) (next_verdict d ts found o t here v (λ ps r.
      subst (λ x. IsVerdict ts ps (length found) x) (sym wins_it)
      (wins d ts ps r (length found) w (subst (λ x. IsLeastWon d (length found) (option_map (λ u. u.items) x)) is (next_least d ts found o t here ps r)))))

  -- another one has the verdict that is found for it
  pub other_turn : (n : ℕ) (u : Verdict) → o ≡ None → v ≡ u → n ≡ length found → ((ps : List ℕ) → Recognizes d ts ps → IsLeastWon d n None → IsVerdict ts ps n u) → AreVerdictsTo d ts found2 t
  other_turn n u is same place right = subst (λ x. AreVerdictsTo d ts x t) (sym more) (next_verdict d ts found o t here v (λ ps r.
      subst (λ x. IsVerdict ts ps (length found) x) (sym same) (subst (λ k. IsVerdict ts ps k u) place
      (right ps r (subst (λ k. IsLeastWon d k None) (sym place) (subst (λ x. IsLeastWon d (length found) (option_map (λ u. u.items) x)) is (next_least d ts found o t here ps r)))))))

-- ---- the automaton of one tree

take_one : (ts : List Tree) (i : ℕ) (t : Tree) → slice_get ts i ≡ Some t → take 1 (drop i ts) ≡ t ∷ []
take_one [] i t e = cc
take_one (x ∷ ts) zero t e = let same : x ≡ t = cc in ap (λ y. y ∷ []) same
take_one (x ∷ ts) (suc i) t e = take_one ts i t e

pub own_of : (ts : List Tree) (i : ℕ) (d : List Row) → i < length ts → RecognizesAll d (slice_range ts i (i + 1)) (0 ∷ []) → IsOwn ts i d
own_of ts i d within h =
    let n : (i + 1) - i ≡ 1 = omega arith in
    let at : slice_get ts i ≡ Some (get_or ts i empty) = slice_get-get_or ts i empty within in
    record {
      tree = get_or ts i empty;
      at = at;
      recognizes = subst (λ xs. RecognizesAll d xs (0 ∷ [])) (ap (λ k. take k (drop i ts)) n ∙ take_one ts i (get_or ts i empty) at) h;
    }

pub nothing_in : {X : Type 0} (xs : List X) → length xs ≡ 0 → xs ≡ []
nothing_in [] e = refl
nothing_in (x ∷ xs) e = absurd (omega (arith, e))
