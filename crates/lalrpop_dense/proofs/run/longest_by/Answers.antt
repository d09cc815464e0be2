use Rattle.std.proofs.Common.{◌≡◌, ℕ, ◌+◌, ◌-◌, ◌∙◌, take, get_or, ap, arith, refl}
use Rattle.lalrpop_dense.proofs.run.longest_by.Goals as goal

pub returns-in-Some-clause-answer : goal.returns-in-Some-clause-answer
returns-in-Some-clause-answer g c = λ ts ps s.
    let cells = g.C.Cells.numbers c.args.cells.now in
    let pattern : c.new.result ≡ get_or cells (c.in-Some.row + c.args.layout.now.width) 0 =
    c.new.ensures.value ∙ c.at-pattern.ensures in
    let slice : c.range.result.now ≡ take c.in-Some.end c.args.text.now =
    (let all : c.in-Some.end - 0 ≡ c.in-Some.end = omega arith in c.range.ensures.value ∙ ap (λ (n : ℕ). take n c.args.text.now) all) in
    rw (pattern, slice) (rw c.in-Some.is at (c.walk-stop.ensures.answer ts ps s (c.walk-stop.ensures.settled refl)))

pub returns-in-None-clause-answer : goal.returns-in-None-clause-answer
returns-in-None-clause-answer g c = λ ts ps s. rw c.in-None.is at (c.walk-stop.ensures.answer ts ps s (c.walk-stop.ensures.settled refl))

pub overflow_add-row : goal.overflow_add-row
overflow_add-row g c = let place = rw c.in-Some.is at c.walk-stop.ensures.place in omega (arith, c.requires.short, place.cell)

pub returns-in-Some-clause-looked : goal.returns-in-Some-clause-looked
returns-in-Some-clause-looked g c = λ n most.
    let slice : c.range.result.now ≡ take c.in-Some.end c.args.text.now =
    (let all : c.in-Some.end - 0 ≡ c.in-Some.end = omega arith in c.range.ensures.value ∙ ap (λ (n : ℕ). take n c.args.text.now) all) in
    rw slice (rw c.in-Some.is at (c.walk-stop.ensures.looked n most))

pub returns-in-Some-clause-read : goal.returns-in-Some-clause-read
returns-in-Some-clause-read g c =
    let slice : c.range.result.now ≡ take c.in-Some.end c.args.text.now =
    (let all : c.in-Some.end - 0 ≡ c.in-Some.end = omega arith in c.range.ensures.value ∙ ap (λ (n : ℕ). take n c.args.text.now) all) in
    rw slice (rw c.in-Some.is at c.walk-stop.ensures.read)
