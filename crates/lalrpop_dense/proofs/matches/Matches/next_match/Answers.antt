use Rattle.std.proofs.Common.{◌≡◌, ℕ, arith, subst}
use Rattle.std.specs.Prelude.{Some}
use Rattle.lalrpop_dense.specs.Matching.{Matching}
use Rattle.lalrpop_dense.proofs.Blocks.{IsHandedOut, IsMatch, handed_settled, plain_handed, plain_held, plain}
use Rattle.lalrpop_dense.proofs.matches.Matches.next_match.Goals as goal

handed : (c : goal.In-Some) → IsHandedOut c.self.inside.ahead c.next_found.new.self c.in-Some.found c.args.steps.now c.next_found.new.steps
handed c = let e = c.in-Some.ensures in record { answer = e.answer; prefix = e.prefix; goes_on = e.goes_on; counted = e.counted }

pub invariant_of-self : goal.invariant_of-self
invariant_of-self c = let i = c.self.inside in handed_settled _ _ _ i.credit i.settled _ _ c.self.invariant (handed c)

-- ---- what is found ahead
found : (c : goal.In-Some) → IsMatch c.args.self.now (plain c.next_found.new.self c.self.inside.credit c.self.inside.settled) (Some c.in-Some.found) c.args.steps.now c.next_found.new.steps
found c =
    let i = c.self.inside in
    subst (λ (s : Matching). IsMatch s (plain c.next_found.new.self i.credit i.settled) (Some c.in-Some.found) c.args.steps.now c.next_found.new.steps) c.self.view_is
    (plain_handed i.ahead c.next_found.new.self c.in-Some.found i.credit i.settled c.args.steps.now c.next_found.new.steps c.self.invariant (handed c))

pub returns-in-Some-clause-next : goal.returns-in-Some-clause-next
returns-in-Some-clause-next c = (found c).0

pub returns-in-Some-clause-paid : goal.returns-in-Some-clause-paid
returns-in-Some-clause-paid c = (found c).1

-- ---- what is sought
sought : (c : goal.After-next_sought) → IsMatch c.args.self.now c.next_sought.new.self c.next_sought.result c.args.steps.now c.next_sought.new.steps
sought c =
    let i = c.self.inside in
    let same : c.next_found.new.steps ≡ c.args.steps.now = omega (arith, c.in-None.ensures.counted) in
    let later : IsMatch (plain c.next_found.new.self i.credit i.settled) c.next_sought.new.self c.next_sought.result c.args.steps.now c.next_sought.new.steps =
    subst (λ (n : ℕ). IsMatch (plain c.next_found.new.self i.credit i.settled) c.next_sought.new.self c.next_sought.result n c.next_sought.new.steps) same (c.next_sought.ensures.next, c.next_sought.ensures.paid) in
    plain_held c.args.self.now c.next_sought.new.self i.ahead c.next_found.new.self c.next_sought.result i.credit i.settled c.args.steps.now c.next_sought.new.steps c.self.view_is c.in-None.ensures.stays later

pub returns-in-None-clause-next : goal.returns-in-None-clause-next
returns-in-None-clause-next c = (sought c).0

pub returns-in-None-clause-paid : goal.returns-in-None-clause-paid
returns-in-None-clause-paid c = (sought c).1
