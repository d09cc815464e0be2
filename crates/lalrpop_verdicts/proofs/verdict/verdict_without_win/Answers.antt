use Rattle.std.proofs.Common.{◌≡◌, ◌<◌, length, rules, arith, ap}
use Rattle.lalrpop_verdicts.proofs.VerdictLaws.{nothing_in, shadowed, unmatched}
use Rattle.lalrpop_verdicts.proofs.verdict.verdict_without_win.Goals as goal

pub returns-then-is_empty-clause-verdict : goal.returns-then-is_empty-clause-verdict
returns-then-is_empty-clause-verdict c = λ ps h none.
    (let empty : length c.in_ok-found.found.items ≡ 0 = search rules in
    unmatched c.args.dfa.now c.args.regexs.now ps h c.args.index c.in_ok-found.found.items (c.in_ok-found.ensures.winners c.args.regexs.now ps h) (nothing_in c.in_ok-found.found.items empty))

pub returns-else-is_empty-clause-verdict : goal.returns-else-is_empty-clause-verdict
returns-else-is_empty-clause-verdict c = λ ps h none.
    (let some : 0 < length c.in_ok-found.found.items = search rules in
    shadowed c.args.dfa.now c.args.regexs.now ps h c.args.index c.in_ok-found.found (c.in_ok-found.ensures.winners c.args.regexs.now ps h) (λ e. omega (arith, ap length e, some)) none)
