use Rattle.std.proofs.Common.{◌≡◌, ℕ, ◌+◌, ◌-◌, ◌∙◌, length, take, get_or, subst, ap, arith}
use Rattle.std.proofs.lemmas.Bool.{not-false}
use Rattle.lalrpop_dense.specs.Leading.{IsDeadAt}
use Rattle.lalrpop_dense.proofs.run.longest_within_by.Goals as goal

pub returns-in-Some-clause-answer : goal.returns-in-Some-clause-answer
returns-in-Some-clause-answer g c = λ ts ps s.
    let cells = g.C.Cells.numbers c.args.cells.now in
    let pattern : c.new.result ≡ get_or cells (c.in-Some.row + c.args.layout.now.width) 0 =
    c.new.ensures.value ∙ c.at-pattern.ensures in
    let slice : c.range.result.now ≡ take c.in-Some.end c.args.text.now =
    (let all : c.in-Some.end - 0 ≡ c.in-Some.end = omega arith in c.range.ensures.value ∙ ap (λ (n : ℕ). take n c.args.text.now) all) in
    rw (pattern, slice) (rw c.in-Some.is at (c.walk-stop.ensures.answer ts ps s (not-false c.walk-stop.result.is_settled c.if-not-stop.false)))

pub returns-in-None-clause-answer : goal.returns-in-None-clause-answer
returns-in-None-clause-answer g c = λ ts ps s. rw c.in-None.is at (c.walk-stop.ensures.answer ts ps s (not-false c.walk-stop.result.is_settled c.if-not-stop.false))

pub returns-in-Some-clause-read : goal.returns-in-Some-clause-read
returns-in-Some-clause-read g c =
    let slice : c.range.result.now ≡ take c.in-Some.end c.args.text.now =
    (let all : c.in-Some.end - 0 ≡ c.in-Some.end = omega arith in c.range.ensures.value ∙ ap (λ (n : ℕ). take n c.args.text.now) all) in
    rw slice (rw c.in-Some.is at c.walk-stop.ensures.read)

pub returns-in-Some-clause-within : goal.returns-in-Some-clause-within
returns-in-Some-clause-within g c =
    let past = rw c.in-Some.is at c.walk-stop.ensures.past in
    omega (arith, past.0, c.range.ensures.len, c.walk-stop.ensures.within)

pub returns-in-Some-clause-dead : goal.returns-in-Some-clause-dead
returns-in-Some-clause-dead g c = λ inside.
    let past = rw c.in-Some.is at c.walk-stop.ensures.past in
    let sum : c.walk-stop.result.at ≡ length c.range.result.now + (c.walk-stop.result.at - c.in-Some.end) = omega (arith, past.0, c.range.ensures.len) in
    subst (IsDeadAt c.args.dfa.now c.args.text.now) sum
    (c.walk-stop.ensures.dead (omega (arith, sum, inside)) (not-false c.walk-stop.result.is_settled c.if-not-stop.false))
