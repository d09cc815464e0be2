use Rattle.std.proofs.Common.{◌≡◌, ◌-◌, suc, arith}
use Rattle.lalrpop_dfa.proofs.Walks.{following_some, following_more, following_end}
use Rattle.lalrpop_dfa.proofs.witness.open_values.Goals as goal

pub unwrap-value-requires : goal.unwrap-value-requires
unwrap-value-requires c =
    let left = c.loop-left.left in
    let is : left ≡ suc (left - 1) = omega (arith, c.loop-left-test.true) in
    following_some c.args.dfa.now c.least_value.ensures.well_formed c.args.count c.args.goal c.args.depths.now c.requires.depths c.loop-left.values.items c.loop-left.state left (left - 1) is
    c.loop-left.invariant c.least_value.result c.least_value.ensures.least

pub loop-left-preserved : goal.loop-left-preserved
loop-left-preserved c =
    let left = c.loop-left.left in
    let is : left ≡ suc (left - 1) = omega (arith, c.loop-left-test.true) in
    following_more c.args.dfa.now c.least_value.ensures.well_formed c.args.count c.args.goal c.args.depths.now c.requires.depths c.loop-left.values.items c.loop-left.state left (left - 1) is
    c.loop-left.invariant c.least_value.result c.least_value.ensures.least c.unwrap-value.result c.push.new.self.items c.step-state.result c.unwrap-value.ensures c.in_ok-push.ensures.items
    c.step-state.ensures.leads

pub returns : goal.returns
returns c =
    let none : c.loop-left.left ≡ 0 = omega (arith, c.loop-left-test.false) in
    following_end c.args.dfa.now c.args.count c.args.goal c.loop-left.values.items c.loop-left.state c.loop-left.left none c.loop-left.invariant
