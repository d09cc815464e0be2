-- What holds of every error.
use Rattle.std.proofs.Common.{◌≡◌, Result, Ok, Err, sym, subst}
use Rattle.std.specs.Prelude.{IfErr}
use Rattle.std.specs.Result.{IsErrAnd}

pub any_error : {T E P : Type 0} (r : Result T E) → P → IfErr r (λ _. P)
any_error (Ok x) p = tt
any_error (Err e) p = p

-- what holds of the error that a `?` hands on
pub handed_on : {T E : Type 0} (P : E → Type 0) (r : Result T E) (own : E) → IsErrAnd r (λ e. e ≡ own) → P own → IfErr r P
handed_on P (Ok x) own is p = tt
handed_on P (Err e) own is p = subst P (sym is) p
