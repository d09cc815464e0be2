use Rattle.std.proofs.Common.{◌≡◌, ◌<◌, true, false, length, ap, sym, subst, arith}
use Rattle.std.specs.Prelude.{◌↔◌, IsTrue}
use Rattle.std.proofs.lemmas.Option.{slice_get_within}
use Rattle.lalrpop_dfa.specs.SameAutomata.{IsSameAutomaton, same_automaton}
use Rattle.lalrpop_dfa.proofs.SameTables.{same_automaton_decides, all_same, some_differ}
use Rattle.lalrpop_dfa.proofs.equality.DfaPartialEq.eq.Goals as goal

pub returns : goal.returns
returns c =
    let long : length c.args.self.now ≡ length c.args.other.now = omega (arith, ap length c.self.view_is, ap length c.other.view_is, c.len.ensures, c.len-2.ensures, c.if-len.false) in
    let value : true ≡ same_automaton c.args.self.now c.args.other.now = sym (all_same c.args.self.now c.args.other.now long
    (λ p r s a b. c.loop-number.invariant p r s (omega (arith, slice_get_within c.args.self.now p r a, ap length c.self.view_is, c.len-number-end.ensures, c.loop-number-test.false)) a b)) in
    record { same = subst (λ b. IsTrue b ↔ IsSameAutomaton c.args.self.now c.args.other.now) (sym value) (same_automaton_decides c.args.self.now c.args.other.now) }

pub returns-then-not-is_same_at : goal.returns-then-not-is_same_at
returns-then-not-is_same_at c =
    let here : c.loop-number.number < length c.args.self.now = omega (arith, ap length c.self.view_is, c.len-number-end.ensures, c.loop-number-test.true) in
    let there : c.loop-number.number < length c.args.other.now = omega (arith, ap length c.self.view_is, ap length c.other.view_is, c.len.ensures, c.len-2.ensures, c.if-len.false) in
    let value : false ≡ same_automaton c.args.self.now c.args.other.now = sym (some_differ c.args.self.now c.args.other.now c.loop-number.number here there (rw c.new.ensures.value at c.if-not-is_same_at.ensures)) in
    record { same = subst (λ b. IsTrue b ↔ IsSameAutomaton c.args.self.now c.args.other.now) (sym value) (same_automaton_decides c.args.self.now c.args.other.now) }
