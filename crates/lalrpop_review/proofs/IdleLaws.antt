-- The rules of a mode that never win, one after another.
use Rattle.std.proofs.Common.{◌≡◌, ℕ, ◌+◌, ◌<◌, ◌≤◌, inl, inr, List, [], ◌∷◌, ◌++◌, length, eq-or-lt_of_le, refl, sym, ap, ◌∙◌, subst, arith}
use Rattle.std.specs.Prelude.{Option, Some, None, Vec, slice_get, Contains}
use Rattle.std.specs.Global.{Global}
use Rattle.std.proofs.lemmas.List.Elements.{Contains-append_left, Contains-push, Contains-push_cases}
use Rattle.std.proofs.lemmas.Option.{get_or_from_slice_get, slice_get_within}
use Rattle.lalrpop_hir.specs.Language.{Matches, Words}
use Rattle.lalrpop_hir.specs.Tree.{Tree}
use Rattle.lalrpop_hir.proofs.Contained.{contains_none}
use Rattle.lalrpop_hir.proofs.Pushed.{pushed_cases}
use Rattle.lalrpop_rules.specs.Modes.{ModeRules, trees_in}
use Rattle.bajofeki_rules.specs.EnteredModes.{Belongs}
use Rattle.lalrpop_verdicts.specs.WonWord.{WonWord}
use Rattle.lalrpop_verdicts.specs.Verdicts.{AreWinners, IsVerdict, IsWonBy, words_of}
use Rattle.lalrpop_verdicts.specs.declared.verdict.Verdict.TheVariants.{Unmatched}
use Rattle.lalrpop_review.specs.Review.{AreIdle, IsIdle, NeverWins}
use Rattle.lalrpop_review.specs.Internal.Idle.{AreIdleBelow, AreOfOtherKinds, AreTold, AreWinnersIn, IsIdleAt}
use Rattle.lalrpop_review.specs.declared.idle.IdleRule.{IdleRule}

-- ---- who wins the words of a rule

-- a tree without words has no winners
pub no_winners : (ts : List Tree) (ps : List ℕ) (i : ℕ) → IsVerdict ts ps i Unmatched → AreWinners (words_of ts i) ts ps []
no_winners ts ps i none = record {
  ascending = λ a b x y less at there. absurd (cc);
  each = λ x has. absurd (contains_none x has);
  all = λ j w won. absurd (none w won.0 won.1 won.2);
}

-- the words of a tree, if there is one
abbrev words_at : Option Tree → Words
words_at o w = (t : Tree) × ((o ≡ Some t) × Matches t w)

-- where a rule has its own tree, its words are those of the tree
pub told_own : (r : ModeRules) (m i : ℕ) (told : Option (Vec WonWord Global)) → slice_get (trees_in r m) i ≡ slice_get r.trees i
    → AreTold (words_of (trees_in r m) i) (trees_in r m) r.precedences i told → AreTold (words_of r.trees i) (trees_in r m) r.precedences i told
told_own r m i told own are = subst (λ (o : Option Tree). AreTold (words_at o) (trees_in r m) r.precedences i told) own are

-- ---- one rule

module _ (r : ModeRules) (m i : ℕ) where
  -- a rule that wins a word itself wins
  wins_itself : (w : List ℕ) → IsWonBy (words_of r.trees i) (trees_in r m) r.precedences i w → ¬ NeverWins r m i
  wins_itself w won never = never.1 i w won refl

  module _ (found : Vec WonWord Global) (winners : AreWinnersIn r m i found.items) where
    -- so does one whose words another rule of its kind wins
    wins_by_kind : ¬ AreOfOtherKinds r.kinds i found.items → ¬ NeverWins r m i
    wins_by_kind not never = not (λ x has same. never.1 x.by x.word (winners.each x has).holds same)

    -- any other never wins
    never_wins : Belongs r.members m i → AreOfOtherKinds r.kinds i found.items → IsIdle r m (record { rule = i; winners = found })
    never_wins belongs others = record {
      never = (belongs, λ j w won same. (let (x, (has, by)) = winners.all j w won in others x has (same ∙ ap (slice_get r.kinds) (sym by))));
      winners = winners;
    }

-- whether a rule is idle, by the winners of its words
module _ (ks : List ℕ) (i : ℕ) (told : Option (Vec WonWord Global)) (r : ModeRules) (m : ℕ) (kinds : r.kinds ≡ ks) (are : AreTold (words_of r.trees i) (trees_in r m) r.precedences i told) where
  pub told_itself : told ≡ None → IsIdleAt r m i None
  told_itself none = let (w, won) = subst (AreTold (words_of r.trees i) (trees_in r m) r.precedences i) none are in wins_itself r m i w won

  module _ (found : Vec WonWord Global) (shown : List WonWord) (some : told ≡ Some found) (seen : shown ≡ found.items) where
    winners : AreWinnersIn r m i found.items
    winners = subst (AreTold (words_of r.trees i) (trees_in r m) r.precedences i) some are

    pub told_not : ¬ AreOfOtherKinds ks i shown → IsIdleAt r m i None
    told_not not = wins_by_kind r m i found winners (λ others. not (subst (AreOfOtherKinds ks i) (sym seen) (subst (λ ns. AreOfOtherKinds ns i found.items) kinds others)))

    pub told_idle : (n : ℕ) → n ≡ i → Belongs r.members m i → AreOfOtherKinds ks i shown → IsIdleAt r m i (Some (record { rule = n; winners = found }))
    told_idle n same belongs others = (
      same,
      subst (λ k. IsIdle r m (record { rule = k; winners = found })) (sym same)
          (never_wins r m i found winners belongs (subst (λ ns. AreOfOtherKinds ns i found.items) (sym kinds) (subst (AreOfOtherKinds ks i) seen others))),
    )

-- ---- one rule after another

pub none_idle : (r : ModeRules) (m : ℕ) → AreIdleBelow r m 0 []
none_idle r m = record {
  ascending = λ a b x y less at there. absurd (cc);
  each = λ x has. absurd (contains_none x has);
  all = λ i below never. absurd (omega (arith, below));
}

module _ (r : ModeRules) (m n : ℕ) (xs : List IdleRule) (h : AreIdleBelow r m n xs) where
  -- the next rule isn't such a rule
  not_idle : ¬ NeverWins r m n → AreIdleBelow r m (n + 1) xs
  not_idle not = record {
    ascending = h.ascending;
    each = λ x has. (let both = h.each x has in (omega (arith, both.0), both.1));
    all = λ i below never. (let least : i ≤ n = omega (arith, below) in
        elim (eq-or-lt_of_le least) [ inl same ↦ absurd (not (subst (NeverWins r m) same never)) | inr less ↦ h.all i less never ]);
  }

  -- the next rule is one
  next_idle : (x : IdleRule) → IsIdleAt r m n (Some x) → AreIdleBelow r m (n + 1) (xs ++ x ∷ [])
  next_idle x (rule, idle) = record { ascending = ascending; each = each; all = all }
    where
      ascending : (a b : ℕ) (y z : IdleRule) → a < b → slice_get (xs ++ x ∷ []) a ≡ Some y → slice_get (xs ++ x ∷ []) b ≡ Some z → y.rule < z.rule
      ascending a b y z less at there = elim (pushed_cases xs x b z there) [
        | inl old ↦
            let within : b < length xs = slice_get_within xs b z old in
            elim (pushed_cases xs x a y at) [ inl early ↦ h.ascending a b y z less early old | inr last ↦ absurd (omega (arith, less, within, last.0)) ]
        | inr new ↦
            elim (pushed_cases xs x a y at) [
              | inl early ↦ behind early new.1
              | inr last ↦ absurd (omega (arith, less, new.0, last.0))
            ]
      ]
        where
          behind : slice_get xs a ≡ Some y → z ≡ x → y.rule < z.rule
          behind early same =
              let has : Contains xs y = (a, slice_get_within xs a y early, get_or_from_slice_get xs a y y early) in
              let last : z.rule ≡ n = ap (λ (u : IdleRule). u.rule) same ∙ rule in
              omega (arith, (h.each y has).0, last)

      each : (y : IdleRule) → Contains (xs ++ x ∷ []) y → (y.rule < n + 1) × IsIdle r m y
      each y has = elim (Contains-push_cases xs x y has) [
        | inl old ↦ (let both = h.each y old in (omega (arith, both.0), both.1))
        | inr same ↦ subst (λ (u : IdleRule). (u.rule < n + 1) × IsIdle r m u) same (omega (arith, rule), idle)
      ]

      all : (i : ℕ) → i < n + 1 → NeverWins r m i → (y : IdleRule) × (Contains (xs ++ x ∷ []) y × (y.rule ≡ i))
      all i below never =
          let least : i ≤ n = omega (arith, below) in
          elim (eq-or-lt_of_le least) [
            | inl same ↦ (x, (Contains-push xs x, rule ∙ sym same))
            | inr less ↦ (let (y, (has, is)) = h.all i less never in (y, (Contains-append_left xs (x ∷ []) y has, is)))
          ]

-- the next rule
pub none_told : (r : ModeRules) (m n : ℕ) (xs new : List IdleRule) → AreIdleBelow r m n xs → IsIdleAt r m n None → new ≡ xs → AreIdleBelow r m (n + 1) new
none_told r m n xs new h not same = subst (AreIdleBelow r m (n + 1)) (sym same) (not_idle r m n xs h not)

pub rule_told : (r : ModeRules) (m n : ℕ) (xs new : List IdleRule) (x : IdleRule) → AreIdleBelow r m n xs → IsIdleAt r m n (Some x) → new ≡ xs ++ x ∷ [] → AreIdleBelow r m (n + 1) new
rule_told r m n xs new x h is pushed = subst (AreIdleBelow r m (n + 1)) (sym pushed) (next_idle r m n xs h x is)

-- all are looked at
pub all_idle : (r : ModeRules) (m : ℕ) (xs : List IdleRule) → AreIdleBelow r m (length r.trees) xs → AreIdle r m xs
all_idle r m xs h = record { ascending = h.ascending; each = λ x has. (h.each x has).1; all = h.all }
