use Rattle.std.proofs.Common.{◌≡◌, ◌<◌, length, length-append, ap, ◌∙◌, subst, arith}
use Rattle.std.specs.Vec.Iter.{into_iter_items, into_iter_len}
use Rattle.lalrpop_review.specs.Internal.Idle.{AreIdleBelow, IsIdleAt}
use Rattle.lalrpop_review.proofs.IdleLaws.{all_idle, none_told, rule_told}
use Rattle.lalrpop_review.proofs.OwnVerdicts.{first_verdict, none_left, other_verdicts, own_is_right}
use Rattle.lalrpop_review.proofs.idle_rules.idle_rules.Goals as goal
use Rattle.lalrpop_review.proofs.idle_rules.idle_rules.Goals.{in-Some+in_ok-push-in-Some, in-None}

pub idle_at-requires-clause-own : goal.idle_at-requires-clause-own
idle_at-requires-clause-own c = λ belongs.
    (let r = c.args.lexer.now in
    let within : c.loop-index.index < length r.trees = omega (arith, c.loop-index-test.true, ap length c.regexs-index-end.ensures.trees) in
    own_is_right r c.args.mode c.loop-index.index c.in_ok-counts.counts.items c.kinds.result.now c.deref.result.now c.own_verdict-own.result c.next.result c.kinds.ensures.kinds c.deref.ensures.value
    c.own_verdict-own.ensures.same c.own_verdict-own.ensures.alone c.in_ok-counts.ensures.counts belongs within
    (first_verdict r c.args.mode c.loop-index.index c.next.result (into_iter_items c.loop-index.verdicts) (into_iter_items c.next.new.self) c.next.ensures.items c.loop-index.invariant.1))

pub loop-index-preserved : goal.loop-index-preserved
loop-index-preserved c =
    let r = c.args.lexer.now in
    let (counted, verdicts, idle) = c.loop-index.invariant in
    let parts = simp length-append at (ap length c.next.ensures.items) in
    let none = none_left c.next.result (into_iter_len c.loop-index.verdicts) c.next.ensures.variant in (
      omega (arith, counted, parts, c.next.ensures.len),
      other_verdicts r c.args.mode c.loop-index.index c.next.result (into_iter_items c.loop-index.verdicts) (into_iter_items c.next.new.self) c.next.ensures.items
          (λ e. let left : into_iter_len c.loop-index.verdicts ≡ 0 = none e in omega (arith, counted, left)) verdicts,
      elim c.match-found.branch [
        | in-Some+in_ok-push-in-Some w ↦
            rule_told r c.args.mode c.loop-index.index c.loop-index.idle.items _ w.in-Some.rule idle
            (subst (IsIdleAt r c.args.mode c.loop-index.index) w.in-Some.is c.in_ok-found.ensures.idle) (ap (λ v. v.items) w.idle-is ∙ w.in_ok-push-in-Some.ensures.items)
        | in-None w ↦
            none_told r c.args.mode c.loop-index.index c.loop-index.idle.items _ idle
            (subst (IsIdleAt r c.args.mode c.loop-index.index) w.in-None.is c.in_ok-found.ensures.idle) (ap (λ v. v.items) w.idle-is)
      ],
    )

pub returns : goal.returns
returns c =
    let r = c.args.lexer.now in
    let all : c.loop-index.index ≡ length r.trees = omega (arith, c.loop-index-test.false, c.loop-index.auto.index-end, ap length c.regexs-index-end.ensures.trees) in
    record { idle = all_idle r c.args.mode c.loop-index.idle.items (subst (λ n. AreIdleBelow r c.args.mode n c.loop-index.idle.items) all c.loop-index.invariant.2) }
