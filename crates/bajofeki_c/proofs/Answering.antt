-- What the program answers about rules, in an array.
use Rattle.std.proofs.Common.{ℕ, List, inl, inr}
use Rattle.std.specs.Prelude.{◌⊎◌, Result, Ok, Err, IfOk, OnErr}
use Rattle.reports_lib.specs.Answer.{Answer}
use Rattle.bajofeki_c.specs.Answered.{IsAnswered, IsNotChecked, IsPut}
use Rattle.bajofeki_c.specs.declared.check.Checked.{Checked}

-- an answer of some kind, or refused memory, was put into an array
pub is_answered : {E : Type 0} (r : Result Answer E) (Is : Answer → Type 0) (before after : List ℕ) (checked : Checked) → IfOk r Is
    → IfOk r (λ a. IsPut a before checked after ⊎ IsNotChecked 7 before checked after) → OnErr r (IsNotChecked 7 before checked after)
    → IsAnswered Is before checked after
is_answered (Ok a) Is before after checked is (inl put) refused = inl (a, (is, put))
is_answered (Ok a) Is before after checked is (inr none) refused = inr none
is_answered (Err e) Is before after checked is put refused = inr refused
