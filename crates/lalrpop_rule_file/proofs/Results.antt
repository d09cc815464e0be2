-- What holds of every error.
use Rattle.std.proofs.Common.{◌≡◌, Result, Ok, Err, Option, Some, None, true, false, sym, subst}
use Rattle.std.specs.Prelude.{IfErr, IfNone, IfSome}
use Rattle.std.specs.Option.{is_some}
use Rattle.std.proofs.lemmas.Bool.{false≢true}
use Rattle.std.specs.Result.{IsErrAnd}

pub any_error : {T E P : Type 0} (r : Result T E) → P → IfErr r (λ _. P)
any_error (Ok x) p = tt
any_error (Err e) p = p

-- what holds of the error that a `?` hands on
pub handed_on : {T E : Type 0} (P : E → Type 0) (r : Result T E) (own : E) → IsErrAnd r (λ e. e ≡ own) → P own → IfErr r P
handed_on P (Ok x) own is p = tt
handed_on P (Err e) own is p = subst P (sym is) p

-- what follows from there being no value
pub if_none : {T P Q : Type 0} (r : Option T) → (P → Q) → IfNone r P → IfNone r Q
if_none None f h = f h
if_none (Some x) f h = tt

-- what holds where there is no value, or of the value that is there
pub if_not_some : {T P : Type 0} (r : Option T) → is_some r ≡ false → IfNone r P → P
if_not_some None e h = h
if_not_some (Some x) e h = absurd (false≢true (sym e))

pub if_some : {T : Type 0} (Q : T → Type 0) (r : Option T) → is_some r ≡ true → IfSome r Q → (x : T) × Q x
if_some Q None e h = absurd (false≢true e)
if_some Q (Some x) e h = (x, h)
