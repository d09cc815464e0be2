-- The first number with a value, as a walk over the numbers finds it.
use Rattle.std.proofs.Common.{◌≡◌, ◌≢◌, ℕ, ◌+◌, ◌<◌, ◌≤◌, subst, arith, ⊎_elim}
use Rattle.std.specs.Prelude.{Option, Some, None}
use Rattle.std.proofs.lemmas.Bool.{cases_lt}
use Rattle.lalrpop_verdicts.specs.Internal.WonWords.{IsFirst}

module _ (f : ℕ → Option ℕ) (n q : ℕ) where
  none_more : IsFirst f n q None → f n ≢ Some q → IsFirst f (n + 1) q None
  none_more none here k l e =
      ⊎_elim (λ (b : k < n). none k b e)
      (λ (b : n ≤ k). let same : k ≡ n = omega arith in here (subst (λ x. f x ≡ Some q) same e))
      (cases_lt k n)

  -- a number without the value changes nothing
  pub first_passed : (o : Option ℕ) → f n ≢ Some q → IsFirst f n q o → IsFirst f (n + 1) q o
  first_passed None here none = none_more none here
  first_passed (Some k) here (below, is, least) = (omega arith, is, least)

  -- nor does one if an earlier one has the value
  pub first_kept : (o : Option ℕ) (k : ℕ) → o ≡ Some k → IsFirst f n q o → IsFirst f (n + 1) q o
  first_kept None k e h = cc
  first_kept (Some j) k e (below, is, least) = (omega arith, is, least)

  -- the first number with the value
  pub first_found : (o : Option ℕ) → o ≡ None → f n ≡ Some q → IsFirst f n q o → IsFirst f (n + 1) q (Some n)
  first_found None e is none = (omega arith, is, none)
  first_found (Some k) e is h = cc
