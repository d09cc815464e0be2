use Rattle.std.proofs.Common.{◌≡◌, ◌-◌, ◌++◌, ℕ, List, length, replicate, string_bytes, true, ap, subst}
use Rattle.std.specs.Prelude.{Option, Some, codes}
use Rattle.std.specs.Fmt.{AppendsText, digits, styled_digits_output, ◌++?◌}
use Rattle.std.proofs.lemmas.Result.{on_ok_weaker}
use Rattle.lalrpop_verdicts.proofs.Codes.{padded_four}
use Rattle.lalrpop_verdicts.specs.Picture.{code_text}
use Rattle.lalrpop_verdicts.proofs.picture.push_code.Goals as goal

pub returns : goal.returns
unfolding code_text
returns c =
    let number = digits 16 true c.args.value in
    let laid_out = c.laid_out.ensures in
    let in_radix = c.in_radix.ensures in
    let written : styled_digits_output c.in_radix.result c.laid_out.result ≡ Some (replicate (4 - length number) 48 ++ number) =
    rw (laid_out, in_radix) (ap (λ (t : List ℕ). Some t) (padded_four number)) in
    let Appends : Option (List ℕ) → Type 0 = λ o. AppendsText (string_bytes c.args.text.now) (string_bytes c.write.new.self) (Some (codes "U+") ++? o) in
    on_ok_weaker c.write.result (λ h. subst Appends written h) c.write.ensures.bytes
