use Rattle.std.proofs.Common.{arith}
use Rattle.lalrpop_emit.proofs.RunBits.{is_some_left, taken}
use Rattle.lalrpop_emit.proofs.ahead_driver.take.Goals as goal

pub overflow_sub-run : goal.overflow_sub-run
overflow_sub-run c =
    let there = c.requires.1.1 in
    omega (arith, is_some_left c.requires.0 c.args.run.now c.requires.1.0 there.1.0 there.0 there.1.1)

pub returns-clause-place : goal.returns-clause-place
returns-clause-place c = λ least place end h n. taken least c.args.run.now place h end n
