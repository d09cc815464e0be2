-- The verdicts on the trees of a mode, one after another, and those on rules that have their own tree there.
use Rattle.std.proofs.Common.{◌≡◌, ℕ, zero, suc, ◌+◌, ◌<◌, ◌↔◌, List, ◌∷◌, ◌++◌, length, get_or, refl, sym, ap, ◌∙◌, subst, arith}
use Rattle.std.specs.Prelude.{Option, Some, None, IfSome, IsSome, IsSomeAnd, slice_get}
use Rattle.std.specs.Option.{option_to_list}
use Rattle.std.proofs.lemmas.Bool.{false≢true}
use Rattle.std.proofs.lemmas.Option.{slice_get-get_or, slice_get_within}
use Rattle.lalrpop_hir.specs.Tree.{empty}
use Rattle.lalrpop_rules.specs.Modes.{ModeRules, trees_in}
use Rattle.bajofeki_rules.specs.EnteredModes.{Belongs}
use Rattle.lalrpop_verdicts.specs.Verdicts.{IsVerdict}
use Rattle.lalrpop_verdicts.specs.declared.verdict.Verdict.{Verdict}
use Rattle.lalrpop_review.specs.Internal.Idle.{AreVerdictsFrom, IsOwnVerdict}
use Rattle.lalrpop_review.proofs.Counting.{AreCounts}
use Rattle.lalrpop_review.proofs.OwnTrees.{own_tree}

module _ (r : ModeRules) (m n : ℕ) where
  -- the first of them is on the tree n
  pub first_verdict : (o : Option Verdict) (old new : List Verdict) → old ≡ option_to_list o ++ new → AreVerdictsFrom r m n old → (v : Verdict) → o ≡ Some v
      → IsVerdict (trees_in r m) r.precedences n v
  first_verdict o old new parts are v is =
      let all : old ≡ v ∷ new = parts ∙ ap (λ (p : Option Verdict). option_to_list p ++ new) is in
      let place : n + 0 ≡ n = omega arith in
      subst (λ i. IsVerdict (trees_in r m) r.precedences i v) place (are 0 v (ap (λ vs. slice_get vs 0) all))

  -- the others are on the trees after it; if there is none, there are no others
  pub other_verdicts : (o : Option Verdict) (old new : List Verdict) → old ≡ option_to_list o ++ new → (o ≡ None → length old ≡ 0) → AreVerdictsFrom r m n old
      → AreVerdictsFrom r m (n + 1) new
  other_verdicts None old new parts none are k v at =
      let within : k < length new = slice_get_within new k v at in
      absurd (omega (arith, within, none refl, ap length parts))
  other_verdicts (Some u) old new parts none are k v at =
      let place : n + suc k ≡ (n + 1) + k = omega arith in
      subst (λ i. IsVerdict (trees_in r m) r.precedences i v) place (are (suc k) v (ap (λ vs. slice_get vs (suc k)) parts ∙ at))

  -- a rule that is alone in its kind has its own tree
  alone : (counts : List ℕ) (o : Option ℕ) → slice_get r.kinds n ≡ o → IsSomeAnd o (λ k. slice_get counts k ≡ Some 1) → AreCounts r m (length r.kinds) counts → Belongs r.members m n → n < length r.trees
      → slice_get (trees_in r m) n ≡ slice_get r.trees n
  alone counts None at one are belongs within = absurd one
  alone counts (Some k) at one are belongs within =
      let there : slice_get r.trees n ≡ Some (get_or r.trees n empty) = slice_get-get_or r.trees n empty within in
      let count = are k 1 one in
      own_tree r m n k (get_or r.trees n empty) (belongs, at)
      (λ j is. count.one refl j n (slice_get_within r.kinds j k is.1) (slice_get_within r.kinds n k at) is (belongs, at)) there ∙ sym there

  pub own_is_right : (counts ks cs : List ℕ) (own verdict : Option Verdict) → ks ≡ r.kinds → cs ≡ counts → IfSome own (λ v. verdict ≡ Some v) → IfSome own (λ _. IsSomeAnd (slice_get ks n) (λ k. slice_get cs k ≡ Some 1))
      → AreCounts r m (length r.kinds) counts → Belongs r.members m n → n < length r.trees → ((v : Verdict) → verdict ≡ Some v → IsVerdict (trees_in r m) r.precedences n v) → IfSome own (IsOwnVerdict r m n)
  own_is_right counts ks cs None verdict kinds seen same one are belongs within right = tt
  own_is_right counts ks cs (Some v) verdict kinds seen same one are belongs within right =
      let one_of : IsSomeAnd (slice_get r.kinds n) (λ k. slice_get counts k ≡ Some 1) =
      subst (λ ns. IsSomeAnd (slice_get r.kinds n) (λ k. slice_get ns k ≡ Some 1)) seen (subst (λ ns. IsSomeAnd (slice_get ns n) (λ k. slice_get cs k ≡ Some 1)) kinds one) in
      record { own = alone counts (slice_get r.kinds n) refl one_of are belongs within; verdict = right v same }

-- an iterator that gives nothing has nothing left
pub none_left : (o : Option Verdict) (count : ℕ) → IsSome o ↔ (0 < count) → o ≡ None → count ≡ 0
none_left o zero is none = refl
none_left None (suc count) is none = absurd (false≢true (is.1 (omega arith)))
none_left (Some v) (suc count) is none = cc
