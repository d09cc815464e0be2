use Rattle.std.proofs.Common.{◌≡◌, ◌<◌, ◌∙◌, ap, length, subst, arith}
use Rattle.std.specs.Prelude.{replicate}
use Rattle.lalrpop_dfa.specs.Internal.Waits.{AreLonger}
use Rattle.lalrpop_dfa.proofs.Ranked.{written}
use Rattle.lalrpop_dfa.proofs.Totals.{copied, told_apart, told_same, total, total_less}
use Rattle.lalrpop_dfa.proofs.Waiting.{none_yet, total_bound, waits_end}
use Rattle.lalrpop_dfa.proofs.lookahead.waits.Goals as goal

pub loop-numbers-init : goal.loop-numbers-init
loop-numbers-init c =
    let d = c.args.dfa.now in
    let n = c.len.result in
    let same : n ≡ length d = omega (arith, c.len.ensures, c.in_ok-waiting.ensures.marks.same_length) in
    none_yet d c.args.ever.now c.in_ok-numbers.numbers.items (c.in_ok-numbers.ensures.items_if_clones_equal (λ y e. e) ∙ ap (λ k. replicate k 0) same)

pub lengthen-requires-clause-fits : goal.lengthen-requires-clause-fits
lengthen-requires-clause-fits c = omega (arith, c.deref_mut.type_inv.0, c.deref_mut.type_inv.1, ap length c.deref_mut.ensures.value, c.loop-numbers.invariant.same_length)

pub returns-then-eq : goal.returns-then-eq
returns-then-eq c =
    let d = c.args.dfa.now in
    let ever = c.args.ever.now in
    let old = c.loop-numbers.numbers.items in
    let new = c.lengthen.new.numbers in
    let on : AreLonger d ever old new = subst (λ m. AreLonger d ever m new) c.deref_mut.ensures.value c.lengthen.ensures in
    let long : length new ≡ length old = omega (arith, on.are.same_length, c.loop-numbers.invariant.same_length) in
    let count : c.loop-numbers.numbers.len ≡ length old = omega (arith, c.deref_mut.ensures.len, ap length c.deref_mut.ensures.value) in
    let is = written new old c.loop-numbers.numbers.len long count in
    let same : new ≡ old = told_same new c.in_ok-before.before.items c.eq.result (rw is at c.eq.ensures) c.if-eq.true ∙ copied old c.in_ok-before.before.items c.in_ok-before.ensures.cases.0 in
    rw (is, same) (waits_end d ever c.requires.ever c.in_ok-waiting.ensures.well_formed old (subst (AreLonger d ever old) same on))

pub loop-numbers-smaller : goal.loop-numbers-smaller
loop-numbers-smaller c =
    let d = c.args.dfa.now in
    let ever = c.args.ever.now in
    let old = c.loop-numbers.numbers.items in
    let new = c.lengthen.new.numbers in
    let on : AreLonger d ever old new = subst (λ m. AreLonger d ever m new) c.deref_mut.ensures.value c.lengthen.ensures in
    let long : length new ≡ length old = omega (arith, on.are.same_length, c.loop-numbers.invariant.same_length) in
    let count : c.loop-numbers.numbers.len ≡ length old = omega (arith, c.deref_mut.ensures.len, ap length c.deref_mut.ensures.value) in
    let is = written new old c.loop-numbers.numbers.len long count in
    let copy = copied old c.in_ok-before.before.items c.in_ok-before.ensures.cases.0 in
    let grows : total old < total new =
    total_less new old (omega (arith, long)) (λ p l. on.least p (omega (arith, l, on.are.same_length))) (λ e. told_apart new c.in_ok-before.before.items c.eq.result (rw is at c.eq.ensures) c.if-eq.false (rw copy (let f : new ≡ old = cc in f))) in
    let bound = total_bound d ever c.requires.ever new on.are in
    rw is (omega (arith, grows, bound))

pub loop-numbers-preserved : goal.loop-numbers-preserved
loop-numbers-preserved c =
    let d = c.args.dfa.now in
    let ever = c.args.ever.now in
    let old = c.loop-numbers.numbers.items in
    let new = c.lengthen.new.numbers in
    let on : AreLonger d ever old new = subst (λ m. AreLonger d ever m new) c.deref_mut.ensures.value c.lengthen.ensures in
    let long : length new ≡ length old = omega (arith, on.are.same_length, c.loop-numbers.invariant.same_length) in
    let count : c.loop-numbers.numbers.len ≡ length old = omega (arith, c.deref_mut.ensures.len, ap length c.deref_mut.ensures.value) in
    rw (written new old c.loop-numbers.numbers.len long count) on.are
