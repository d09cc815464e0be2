-- Cases of specs/Calls.antt.
use Rattle.std.proofs.Common.{◌≡◌, ◌≢◌, ℕ, [], ◌∷◌, true, false, Ok, Err, refl, arith}
use Rattle.lexdfa_lib.specs.Calls.{late_after, read_failed, write_failed}

-- a call counts if an earlier one failed, and not otherwise
call_after_a_failure : (late_after true 0 ≡ 1) × (late_after true 4 ≡ 5)
call_after_a_failure = (refl, refl)

call_before_a_failure : late_after false 4 ≡ 4
call_before_a_failure = refl

call_after_a_failure_not_counted : late_after true 4 ≢ 4
call_after_a_failure_not_counted e = let n : 5 ≡ 4 = e in omega (arith, n)

-- a read fails by an error; reading nothing is not a failure
reads_that_fail : (read_failed {E = ℕ} (Err 0) ≡ true) × (read_failed {E = ℕ} (Ok 0) ≡ false)
reads_that_fail = (refl, refl)

-- a write fails by an error, or if it takes none of some bytes
writes_that_fail : (write_failed {E = ℕ} (97 ∷ []) (Err 0) ≡ true) × (write_failed {E = ℕ} (97 ∷ []) (Ok 0) ≡ true)
writes_that_fail = (refl, refl)

-- and not if it takes some of them, or there are none
writes_that_do_not_fail : (write_failed {E = ℕ} (97 ∷ 98 ∷ []) (Ok 1) ≡ false) × (write_failed {E = ℕ} [] (Ok 0) ≡ false)
writes_that_do_not_fail = (refl, refl)
