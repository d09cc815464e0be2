use Rattle.std.proofs.Common.{◌≡◌, ◌<◌, ◌≤◌, ◌∙◌, List, ℕ, length, ap, subst, arith}
use Rattle.std.specs.List.{Contains}
use Rattle.lalrpop_verdicts.specs.Internal.Classes.{leads_of}
use Rattle.lalrpop_verdicts.specs.Internal.ClassRows.{AreNumbered, IsMetClass}
use Rattle.lalrpop_verdicts.proofs.ClassWalks.{reached_few}
use Rattle.lalrpop_verdicts.proofs.StateCounts.{IsRead, count_more, is_read, read_within}
use Rattle.lalrpop_verdicts.proofs.state_count.met_states.Goals as goal

pub number_all-requires-clause-within : goal.number_all-requires-clause-within
number_all-requires-clause-within c =
    let d = c.args.dfa.now in
    let table = c.args.table.now in
    let states = c.loop-place.met.states.items in
    let place = c.loop-place.place in
    let p = c.index-state.result.now in
    let v = c.index-table-index.result in
    let next : place < length states = omega (arith, c.loop-place-test.true, c.len.ensures, c.loop-place.met.states.ok.0) in
    let read : IsRead d table states place p v =
    is_read d c.args.classes.items table states place p c.index.result v c.requires.leads c.loop-place.invariant.walk next c.index-state.ensures c.index.ensures.value c.index-table-index.is in
    λ t m.
    let within : t < length d = read_within d table states place p v c.requires.well_formed c.requires.leads read t (subst (λ (ts : List ℕ). Contains ts t) c.deref.ensures.value m) in
    omega (arith, within, c.requires.classes.same_length, ap length c.loop-place.invariant.classes)

pub loop-place-smaller : goal.loop-place-smaller
loop-place-smaller c =
    let d = c.args.dfa.now in
    let states = c.loop-place.met.states.items in
    let next : c.loop-place.place < length states = omega (arith, c.loop-place-test.true, c.len.ensures, c.loop-place.met.states.ok.0) in
    let few : length states ≤ length d = reached_few d c.args.classes.items states c.loop-place.invariant.walk.reached in
    omega (arith, next, few)

pub loop-place-preserved : goal.loop-place-preserved
loop-place-preserved c =
    let d = c.args.dfa.now in
    let table = c.args.table.now in
    let classes = c.args.classes.items in
    let old = c.loop-place.met.states.items in
    let new = c.number_all.new.met.states.items in
    let numbers = c.number_all.new.met.numbers.items in
    let place = c.loop-place.place in
    let p = c.index-state.result.now in
    let v = c.index-table-index.result in
    let targets = c.deref.result.now in
    let leads = c.requires.leads in
    let i = c.loop-place.invariant in
    let next : place < length old = omega (arith, c.loop-place-test.true, c.len.ensures, c.loop-place.met.states.ok.0) in
    let read : IsRead d table old place p v = is_read d classes table old place p c.index.result v leads i.walk next c.index-state.ensures c.index.ensures.value c.index-table-index.is in
    let row : targets ≡ leads_of d leads.values p = c.deref.ensures.value ∙ leads.leads.each p v read.list in
    let same_classes = c.in_ok-number_all.ensures.classes ∙ i.classes in
    let numbered = subst (λ (cs : List ℕ). AreNumbered cs numbers new) same_classes c.in_ok-number_all.ensures.numbered in
    let looked : (q : ℕ) → Contains targets q → IsMetClass classes new q = λ q m. subst (λ (cs : List ℕ). IsMetClass cs new q) same_classes (c.in_ok-number_all.ensures.all q m) in
    record {
      classes = same_classes;
      numbered = numbered;
      walk = count_more d classes numbers old new place p leads.values targets c.requires.classes leads.tried i.walk numbered next read.state row c.in_ok-number_all.ensures.met looked;
    }
