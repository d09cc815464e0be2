use Rattle.std.proofs.Common.{◌≡◌, ◌+◌, ◌-◌, ◌∙◌, ◌≤◌, arith}
use Rattle.std.specs.Prelude.{Some}
use Rattle.lalrpop_dense.proofs.Blocks.{IsHandedOut, linear_handed, linear_block}
use Rattle.lalrpop_dense.proofs.linear_matches.LinearMatches.next_sought.Goals as goal

pub returns-in-Some-clause-next : goal.returns-in-Some-clause-next
returns-in-Some-clause-next c =
    let i = c.self.inside in
    let e = c.in-Some.ensures in
    let r1 = c.read_block-vain.new.self in
    let vain = c.read_block-vain.result in
    let out : IsHandedOut r1 c.next_found.new.self c.in-Some.found c.read_block-vain.new.steps c.next_found.new.steps =
    record { answer = e.answer; prefix = e.prefix; goes_on = e.goes_on; counted = e.counted } in
    let more : c.saturating_add-self-inside.result ≤ (i.credit - vain) + 64 = omega (arith, c.saturating_add-self-inside.ensures) in
    (linear_block _ _ i.ahead r1 (Some c.in-Some.found) i.credit i.counted i.memo vain c.args.steps.now c.read_block-vain.new.steps c.next_found.new.steps c.self.view_is c.read_block-vain.ensures.same
    c.read_block-vain.ensures.limit c.read_block-vain.ensures.counted
    (linear_handed r1 c.next_found.new.self c.in-Some.found (i.credit - vain) c.saturating_add-self-inside.result i.counted i.memo c.read_block-vain.new.steps c.next_found.new.steps more out)).0

pub returns-in-None-clause-next : goal.returns-in-None-clause-next
returns-in-None-clause-next c =
    let i = c.self.inside in
    let e = c.in-None.ensures in
    let vain = c.read_block-vain.result in
    let counted : c.next_found.new.steps ≡ c.args.steps.now + vain = omega (arith, e.counted, c.read_block-vain.ensures.counted) in
    (linear_block _ _ i.ahead c.next_found.new.self c.next_alone-in-None.result i.credit i.counted i.memo vain c.args.steps.now c.next_found.new.steps c.next_alone-in-None.new.steps c.self.view_is
    (e.stays ∙ c.read_block-vain.ensures.same) c.read_block-vain.ensures.limit counted (c.next_alone-in-None.ensures.next, c.next_alone-in-None.ensures.paid)).0
