use Rattle.std.proofs.Common.{◌≡◌, ◌∙◌, ◌<◌, ◌≤◌, ◌^◌, ◌+◌, ◌*◌, arith, sym, ap, subst}
use Rattle.std.specs.Char.{digit_value}
use Rattle.lalrpop_re.proofs.Numbers.{number, number_turn, number_refused, number_end}
use Rattle.lalrpop_re.proofs.number.number_of.Goals as goal

pub returns-in_err-checked_mul : goal.returns-in_err-checked_mul
returns-in_err-checked_mul c =
    c.from_residual-in_err-checked_mul.ensures
    ∙ sym (number_refused c.args.radix c.args.digits.now c.loop-digit.digit-index c.loop-digit.number c.digit-item.result c.loop-digit.invariant (omega arith) c.digit-item.is (omega arith) (omega (arith, c.in_err-checked_mul.ensures)))

pub returns-in_err-number : goal.returns-in_err-number
returns-in_err-number c =
    c.from_residual-in_err-number.ensures
    ∙ sym (number_refused c.args.radix c.args.digits.now c.loop-digit.digit-index c.loop-digit.number c.digit-item.result c.loop-digit.invariant (omega arith) c.digit-item.is (omega arith)
    (omega (arith, c.in_err-number.ensures, c.in_ok-checked_mul.ensures.1, c.in_ok-digit.ensures.value.1)))

pub loop-digit-preserved : goal.loop-digit-preserved
loop-digit-preserved c =
    let d = c.in_ok-digit.ensures.value in
    let p = c.in_ok-checked_mul.ensures in
    let s = c.in_ok-number.ensures in
    let value : c.in_ok-number.number ≡ c.loop-digit.number * c.args.radix + digit_value c.digit-item.result = omega (arith, d.1, p.1, s.1) in
    ap (λ n. number c.args.radix (Rattle.std.proofs.Common.drop (c.loop-digit.digit-index + 1) c.args.digits.now) n) value
    ∙ number_turn c.args.radix c.args.digits.now c.loop-digit.digit-index c.loop-digit.number c.digit-item.result c.loop-digit.invariant (omega arith) c.digit-item.is d.0 (omega (arith, s.0))

pub returns : goal.returns
returns c = number_end c.args.radix c.args.digits.now c.loop-digit.digit-index c.loop-digit.number c.loop-digit.invariant (omega arith) (omega arith)
