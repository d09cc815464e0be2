-- A reader or a writer whose calls are watched, as a tuple, which proofs use to tell one from another.
use Rattle.std.specs.Prelude.{ℕ, Bool, refl}
use Rattle.std.specs.Coded.{Coded, code_by, coded×, coded_ℕ, coded_bool}
use Rattle.lexdfa_lib.specs.Calls.{Watch, Piped}

abbrev pub watch_code : {T : Type 0} → Coded T → Coded (Watch T)
watch_code {T} code =
    code_by (T × (Bool × ℕ)) (coded× code (coded× coded_bool coded_ℕ)) (λ w. (w.inner, (w.is_broken, w.late)))
    (λ p. record { inner = p.0; is_broken = p.1.0; late = p.1.1 }) (λ _. refl)

abbrev pub piped_code : {T : Type 0} → Coded T → Coded (Piped T)
piped_code {T} code =
    code_by (T × Bool) (coded× code coded_bool) (λ o. (o.inner, o.is_closed)) (λ p. record { inner = p.0; is_closed = p.1 }) (λ _. refl)
