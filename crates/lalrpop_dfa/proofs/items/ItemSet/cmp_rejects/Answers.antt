use Rattle.std.proofs.Common.{arith, ◌∙◌, sym}
use Rattle.lalrpop_dfa.proofs.SetOrder.{numbers_same, live_patterns_alike, alike_of, bools_apart, bools_same, told_equal, told_same, told_greater, told_less, told_more}
use Rattle.lalrpop_dfa.proofs.items.ItemSet.cmp_rejects.Goals as goal
use Rattle.lalrpop_dfa.proofs.items.ItemSet.cmp_rejects.Goals.{then-self-other-2, else-self-other-2}

pub returns-then-eq : goal.returns-then-eq
returns-then-eq c =
    told_equal c.self.inside.patterns c.other.inside.patterns c.self.inside.live_patterns.items c.other.inside.live_patterns.items c.self.inside.live.items c.other.inside.live.items c.self.invariant.split c.other.invariant.split c.args.self.now c.args.other.now c.self.view_is c.other.view_is
    c.if-self-other.true (numbers_same c.self.inside.live_patterns.items c.other.inside.live_patterns.items (sym c.eq.ensures ∙ c.if-eq.true))

pub returns-then-here : goal.returns-then-here
returns-then-here c =
    told_greater c.self.inside.patterns c.other.inside.patterns c.self.inside.live_patterns.items c.other.inside.live_patterns.items c.self.inside.live.items c.other.inside.live.items c.self.invariant.split c.other.invariant.split c.args.self.now c.args.other.now c.self.view_is c.other.view_is
    c.loop-pattern.pattern c.has_reject-here.result c.has_reject.result c.loop-pattern.invariant c.has_reject-here.ensures c.has_reject.ensures c.if-here.true (bools_apart c.has_reject-here.result c.has_reject.result c.if-here-has_reject.true)

pub returns-else-here : goal.returns-else-here
returns-else-here c =
    told_less c.self.inside.patterns c.other.inside.patterns c.self.inside.live_patterns.items c.other.inside.live_patterns.items c.self.inside.live.items c.other.inside.live.items c.self.invariant.split c.other.invariant.split c.args.self.now c.args.other.now c.self.view_is c.other.view_is
    c.loop-pattern.pattern c.has_reject-here.result c.has_reject.result c.loop-pattern.invariant c.has_reject-here.ensures c.has_reject.ensures c.if-here.false (bools_apart c.has_reject-here.result c.has_reject.result c.if-here-has_reject.true)

pub loop-pattern-preserved : goal.loop-pattern-preserved
loop-pattern-preserved c =
    told_more c.self.inside.patterns c.other.inside.patterns c.self.inside.live_patterns.items c.other.inside.live_patterns.items c.self.inside.live.items c.other.inside.live.items c.self.invariant.split c.other.invariant.split c.args.self.now c.args.other.now c.self.view_is c.other.view_is
    c.loop-pattern.pattern c.has_reject-here.result c.has_reject.result c.loop-pattern.invariant c.has_reject-here.ensures c.has_reject.ensures (bools_same c.has_reject-here.result c.has_reject.result c.if-here-has_reject.false)

pub returns : goal.returns
returns c =
    told_same c.self.inside.patterns c.other.inside.patterns c.self.inside.live_patterns.items c.other.inside.live_patterns.items c.self.inside.live.items c.other.inside.live.items c.self.invariant.split c.other.invariant.split c.args.self.now c.args.other.now c.self.view_is c.other.view_is
    c.loop-pattern.pattern (let h = c.max-pattern-end.ensures in omega arith) (omega arith) c.loop-pattern.invariant

pub loop-pattern-init : goal.loop-pattern-init
loop-pattern-init c j l = elim c.if-self-other-2.branch [
  | then-self-other-2 w ↦
      live_patterns_alike c.self.inside.patterns c.other.inside.patterns c.self.inside.live_patterns.items c.other.inside.live_patterns.items c.self.inside.live.items c.other.inside.live.items c.self.invariant.split c.other.invariant.split c.args.self.now c.args.other.now c.self.view_is c.other.view_is
      w.if-self-other-2.true w.first_apart-first.result
      (alike_of c.self.inside.live_patterns.items c.other.inside.live_patterns.items w.deref.result.now w.deref-then-self-other-2.result.now w.first_apart-first.result w.deref.ensures.value w.deref-then-self-other-2.ensures.value w.first_apart-first.ensures)
      j (omega (arith, w.first-is))
  | else-self-other-2 w ↦ absurd (omega (arith, w.first-is))
]
