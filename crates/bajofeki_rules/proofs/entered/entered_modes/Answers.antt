use Rattle.std.proofs.Common.{◌≡◌, ap, arith, length, map, subst}
use Rattle.bajofeki_rules.specs.Internal.Marks.{HasMarked, HasRound}
use Rattle.bajofeki_rules.proofs.MarkedModes.{first_marked, round_last, written}
use Rattle.bajofeki_rules.proofs.entered.entered_modes.Goals as goal

pub loop-init : goal.loop-init
loop-init c =
    let rs = c.args.rules.now in
    let old = c.in_ok-marks.marks.items in
    let new = c.mark.new.marks in
    let marked = subst (λ m. HasMarked m (λ k. k ≡ 0) new c.mark.result) c.deref_mut.ensures.value c.mark.ensures in
    let count : c.in_ok-marks.marks.len ≡ length old = omega (arith, c.deref_mut.ensures.len, ap length c.deref_mut.ensures.value) in
    let is = written new old c.in_ok-marks.marks.len marked.same_length count in
    let first = first_marked (map (λ r. r.modes.now) rs) (map (λ r. r.actions.now) rs) c.args.modes old new _ (c.in_ok-marks.ensures.items_if_clones_equal (λ y e. e)) marked in
    rw is record { same_length = first.0; first = first.1; only = first.2 }

pub returns-clause-each : goal.returns-clause-each
returns-clause-each c =
    let rs = c.args.rules.now in
    let old = c.loop.marks.items in
    let new = c.mark_round.new.marks in
    let round = subst (λ m. HasRound (map (λ r. r.modes.now) rs) (map (λ r. r.actions.now) rs) (length rs) m new c.mark_round.result) c.deref_mut-in-loop.ensures.value c.mark_round.ensures in
    let count : c.loop.marks.len ≡ length old = omega (arith, c.deref_mut-in-loop.ensures.len, ap length c.deref_mut-in-loop.ensures.value) in
    let is = written new old c.loop.marks.len round.same_length count in
    let h = c.loop.invariant in
    rw is (round_last rs old new c.args.modes c.mark_round.result h.same_length h.first h.only round c.loop-test.false)
