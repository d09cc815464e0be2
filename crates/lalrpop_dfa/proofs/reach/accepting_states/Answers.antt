use Rattle.std.proofs.Common.{◌≡◌, ℕ}
use Rattle.lalrpop_dfa.specs.declared.Kind.TheVariants.{Accepts}
use Rattle.lalrpop_dfa.specs.Lookahead.{IsAccepting}
use Rattle.lalrpop_dfa.proofs.Marking.{kind_read, marks_pushed}
use Rattle.lalrpop_dfa.proofs.reach.accepting_states.Goals as goal

pub loop-state-preserved : goal.loop-state-preserved
loop-state-preserved c =
    let d = c.args.dfa.now in
    let i = c.loop-state.invariant in
    let k = c.loop-state.state-index in
    let step = marks_pushed (IsAccepting d) c.loop-state.marks.items c.push.new.self.items k c.is_accepting.result i.same_length i.each
    (kind_read (λ x. (j : ℕ) × (x ≡ Accepts j)) d c.states-state-items.result.now k c.state-item.result c.kind.result.now c.is_accepting.result c.states-state-items.ensures.states c.loop-state-test.true c.state-item.is c.kind.ensures.kind c.is_accepting.ensures)
    c.in_ok-push.ensures.items in
    record { same_length = step.0; each = step.1 }
