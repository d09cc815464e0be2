use Rattle.std.proofs.Common.{◌≢◌, ◌-◌, ℕ, List, length, take, drop, arith, sym, ap, subst, ◌∙◌}
use Rattle.std.specs.Prelude.{None}
use Rattle.lalrpop_lexer.specs.Dfa.{Row}
use Rattle.lalrpop_rules.specs.Pieces.{IsFault}
use Rattle.lalrpop_rules.specs.Internal.Finding.{memo_of, ForRules}
use Rattle.lalrpop_rules.proofs.Finding.{paid_on}
use Rattle.lalrpop_rules.proofs.Waiting.{passing_some, passing_on, fault_before, fault_at_end, same_automaton}
use Rattle.lalrpop_rules.proofs.front.pass_fault.Goals as goal

pub returns-then-end-text-clause-fault : goal.returns-then-end-text-clause-fault
returns-then-end-text-clause-fault c =
    let i = c.passing.invariant in
    let text = c.args.text.now in
    let is = fault_at_end text c.args.at c.range_from.result.now c.passing.matches i.passing i.some (sym c.offset-end.ensures.offset ∙ c.if-end-text.true) c.range_from.ensures.value in
    subst (λ (d : List Row). ForRules d (λ ts _. IsFault ts (drop c.args.at text) c.range_from.result.now)) i.same is.0

pub next_or_pass-requires : goal.next_or_pass-requires
next_or_pass-requires c =
    let m = c.passing.matches in
    let on : m.at ≢ length c.args.text.now = omega (arith, c.offset-end.ensures.offset, c.if-end-text.false) in
    record { some = (passing_some c.args.text.now c.args.at m c.passing.invariant.passing on).0 }

pub returns-in-Some-clause-fault : goal.returns-in-Some-clause-fault
returns-in-Some-clause-fault c =
    let i = c.passing.invariant in
    let text = c.args.text.now in
    let e = c.in-Some.ensures in
    let is = fault_before text c.args.at c.in-Some.found c.range.result.now c.passing.matches c.next_or_pass.new.matches i.passing i.some e.answer e.passes
    (c.range.ensures.value ∙ ap (λ (k : ℕ). take (k - c.args.at) (drop c.args.at text)) c.offset-end.ensures.offset) in
    subst (λ (d : List Row). ForRules d (λ ts _. IsFault ts (drop c.args.at text) c.range.result.now)) i.same is.0

pub returns-in-Some-clause-waiting : goal.returns-in-Some-clause-waiting
returns-in-Some-clause-waiting c =
    let i = c.passing.invariant in
    let e = c.in-Some.ensures in
    (fault_before c.args.text.now c.args.at c.in-Some.found c.range.result.now c.passing.matches c.next_or_pass.new.matches i.passing i.some e.answer e.passes
    (c.range.ensures.value ∙ ap (λ (k : ℕ). take (k - c.args.at) (drop c.args.at c.args.text.now)) c.offset-end.ensures.offset)).1

pub passing-smaller : goal.passing-smaller
passing-smaller c =
    let m = c.passing.matches in
    let i = c.passing.invariant in
    let on : m.at ≢ length c.args.text.now = omega (arith, c.offset-end.ensures.offset, c.if-end-text.false) in
    omega (
      arith,
      (passing_some c.args.text.now c.args.at m i.passing on).1,
      (passing_on c.args.text.now c.args.at m c.next_or_pass.new.matches i.passing c.in_default.ensures.answer c.in_default.ensures.passes).1,
    )

pub passing-preserved : goal.passing-preserved
passing-preserved c =
    let m = c.passing.matches in
    let n = c.next_or_pass.new.matches in
    let i = c.passing.invariant in
    let e = c.in_default.ensures in
    let on = passing_on c.args.text.now c.args.at m n i.passing e.answer e.passes in
    record {
      passing = on.0;
      some = omega (arith, on.1, i.some);
      same = same_automaton m n None e.passes ∙ i.same;
      paid = paid_on c.args.steps.now c.passing.steps c.next_or_pass.new.steps (memo_of c.args.matches.now) (memo_of m) (memo_of n) i.paid e.paid;
    }
