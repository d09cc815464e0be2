use Rattle.std.proofs.Common.{◌≡◌, length, rules, arith}
use Rattle.std.specs.Vec.Iter.{into_iter_items}
use Rattle.lalrpop_verdicts.proofs.VerdictLaws.{other_turn, won_turn}
use Rattle.lalrpop_verdicts.proofs.verdict.verdicts.Goals as goal
use Rattle.lalrpop_verdicts.proofs.verdict.verdicts.Goals.{in-Some-least, in-None-least+in_ok-verdict-in-None-least}

pub loop-least-preserved : goal.loop-least-preserved
loop-least-preserved c =
    let (counted, told) = c.loop-least.invariant in
    let s = c.in-Some.ensures.steps in (
      omega (arith, counted, simp s.0 at counted, s.1),
      elim c.match-least.branch [
        | in-Some-least w ↦
            won_turn c.args.dfa.now c.args.regexs.now c.loop-least.found.items c.push.new.self.items (into_iter_items c.loop-least.least-iterator) (into_iter_items c.next.new.self) c.in-Some.least c.match-least.verdict
            told s.0 c.in_ok-push.ensures.items _ w.in-Some-least.is w.verdict-is
        | in-None-least+in_ok-verdict-in-None-least w ↦
            (let place : w.len.result ≡ length c.loop-least.found.items = search rules in
            other_turn c.args.dfa.now c.args.regexs.now c.loop-least.found.items c.push.new.self.items (into_iter_items c.loop-least.least-iterator) (into_iter_items c.next.new.self) c.in-Some.least c.match-least.verdict
            told s.0 c.in_ok-push.ensures.items w.len.result _ w.in-None-least.is w.verdict-is place w.in_ok-verdict-in-None-least.ensures.verdict)
      ],
    )
