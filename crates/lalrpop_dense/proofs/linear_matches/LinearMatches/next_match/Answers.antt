use Rattle.std.proofs.Common.{◌≡◌, ℕ, arith, subst}
use Rattle.lalrpop_dense.proofs.Blocks.{IsLinear, linear_held, remembering}
use Rattle.lalrpop_dense.proofs.linear_matches.LinearMatches.next_match.Goals as goal

pub returns-in-Some-clause-answer : goal.returns-in-Some-clause-answer
returns-in-Some-clause-answer c = rw (← c.self.view_is) c.in-Some.ensures.answer

pub returns-in-None-clause-answer : goal.returns-in-None-clause-answer
returns-in-None-clause-answer c =
    let i = c.self.inside in
    let same : c.next_found.new.steps ≡ c.args.steps.now = omega (arith, c.in-None.ensures.counted) in
    let later : IsLinear (remembering c.next_found.new.self i.credit i.counted i.memo) c.next_sought.new.self c.next_sought.result c.args.steps.now c.next_sought.new.steps =
    subst (λ (n : ℕ). IsLinear (remembering c.next_found.new.self i.credit i.counted i.memo) c.next_sought.new.self c.next_sought.result n c.next_sought.new.steps) same (c.next_sought.ensures.next, c.next_sought.ensures.paid) in
    (linear_held c.args.self.now c.next_sought.new.self i.ahead c.next_found.new.self c.next_sought.result i.credit i.counted i.memo c.args.steps.now c.next_sought.new.steps c.self.view_is c.in-None.ensures.stays later).0.answer
