use Rattle.std.proofs.Common.{◌≡◌, ◌+◌, ◌-◌, ◌∙◌, arith}
use Rattle.std.specs.Prelude.{Some}
use Rattle.lalrpop_dense.specs.Internal.Blocks.{IsSettled}
use Rattle.lalrpop_dense.proofs.Blocks.{IsHandedOut, IsMatch, handed_settled, less_credit, plain, plain_handed, plain_block}
use Rattle.lalrpop_dense.proofs.matches.Matches.next_sought.Goals as goal

handed : (c : goal.In-Some) → IsHandedOut c.read_block-vain.new.self c.next_found.new.self c.in-Some.found c.read_block-vain.new.steps c.next_found.new.steps
handed c = let e = c.in-Some.ensures in record { answer = e.answer; prefix = e.prefix; goes_on = e.goes_on; counted = e.counted }

settled : (c : goal.In-Some) → IsSettled c.read_block-vain.new.self.text (c.self.inside.credit - c.read_block-vain.result) c.self.inside.settled c.read_block-vain.new.self.at
settled c =
    let i = c.self.inside in
    less_credit i.ahead c.read_block-vain.new.self i.credit i.settled c.read_block-vain.result c.self.invariant c.read_block-vain.ensures.same

pub invariant_of-self : goal.invariant_of-self
invariant_of-self c = handed_settled _ _ _ (c.self.inside.credit - c.read_block-vain.result) c.self.inside.settled _ _ (settled c) (handed c)

-- ---- what is found in the block
found : (c : goal.In-Some) → IsMatch c.args.self.now (plain c.next_found.new.self (c.self.inside.credit - c.read_block-vain.result) c.self.inside.settled) (Some c.in-Some.found) c.args.steps.now c.next_found.new.steps
found c =
    let i = c.self.inside in
    let r1 = c.read_block-vain.new.self in
    let vain = c.read_block-vain.result in
    plain_block _ _ i.ahead r1 (Some c.in-Some.found) i.credit i.settled vain c.args.steps.now c.read_block-vain.new.steps c.next_found.new.steps (c.self.view_is ∙ c.settle.ensures.same) c.read_block-vain.ensures.same
    c.read_block-vain.ensures.limit c.read_block-vain.ensures.counted
    (plain_handed r1 c.next_found.new.self c.in-Some.found (i.credit - vain) i.settled c.read_block-vain.new.steps c.next_found.new.steps (settled c) (handed c))

pub returns-in-Some-clause-next : goal.returns-in-Some-clause-next
returns-in-Some-clause-next c = (found c).0

pub returns-in-Some-clause-paid : goal.returns-in-Some-clause-paid
returns-in-Some-clause-paid c = (found c).1

-- ---- what is found alone
alone : (c : goal.After-next_alone-in-None) → IsMatch c.args.self.now c.next_alone-in-None.new.self c.next_alone-in-None.result c.args.steps.now c.next_alone-in-None.new.steps
alone c =
    let i = c.self.inside in
    let e = c.in-None.ensures in
    let vain = c.read_block-vain.result in
    let counted : c.next_found.new.steps ≡ c.args.steps.now + vain = omega (arith, e.counted, c.read_block-vain.ensures.counted) in
    plain_block _ _ i.ahead c.next_found.new.self c.next_alone-in-None.result i.credit i.settled vain c.args.steps.now c.next_found.new.steps c.next_alone-in-None.new.steps (c.self.view_is ∙ c.settle.ensures.same)
    (e.stays ∙ c.read_block-vain.ensures.same) c.read_block-vain.ensures.limit counted (c.next_alone-in-None.ensures.next, c.next_alone-in-None.ensures.paid)

pub returns-in-None-clause-next : goal.returns-in-None-clause-next
returns-in-None-clause-next c = (alone c).0

pub returns-in-None-clause-paid : goal.returns-in-None-clause-paid
returns-in-None-clause-paid c = (alone c).1
