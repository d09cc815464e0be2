use Rattle.std.proofs.Common.{sym, refl}
use Rattle.lalrpop_dfa.specs.Internal.Numbered.{in_order}
use Rattle.lalrpop_dfa.proofs.NumberedLemmas.{distinct_numbered, added_there, list_pushed, number_pushed, distinct_pushed, set_pushed}
use Rattle.lalrpop_dfa.proofs.kernel_set.KernelSet.add_state.Goals as goal

pub returns-in-Some-clause-list : goal.returns-in-Some-clause-list
returns-in-Some-clause-list g c =
    rw (← c.self.view_is) (rw (added_there g.met.K.Ord.total c.self.inside.numbers (in_order c.self.inside.numbers.entries) c.args.kernel c.in-Some.number.now c.self.invariant.numbered (sym c.in-Some.ensures.value)) refl)

pub returns-in-Some-clause-distinct : goal.returns-in-Some-clause-distinct
returns-in-Some-clause-distinct g c =
    rw (← c.self.view_is) (distinct_numbered g.met.K.Ord.total c.self.inside.numbers (in_order c.self.inside.numbers.entries) c.self.invariant.numbered)

pub invariant_of-self-in-None : goal.invariant_of-self-in-None
invariant_of-self-in-None g c =
    let inserted = c.in_ok-insert-in-None.ensures in
    rw (c.in_ok-push_back-in-None.ensures.items, c.reserve.ensures.items) (set_pushed g.met.K.Ord.total c.self.invariant c.insert.new.self c.args.kernel c.len-number.result c.len-number.ensures.len (sym c.in-None.ensures.value) inserted.entries inserted.updates c.in_ok-copy-in-None.copy c.in_ok-copy-in-None.ensures.cases c.len-number.ensures.small)

pub returns-in_ok-push_back-in-None-clause-number : goal.returns-in_ok-push_back-in-None-clause-number
returns-in_ok-push_back-in-None-clause-number g c =
    (c.len-number.result, c.index-in-None.ensures.value, number_pushed g.met.K.Ord.total c.self.invariant c.insert.new.self c.args.kernel c.len-number.result c.len-number.ensures.len (sym c.in-None.ensures.value) c.in_ok-insert-in-None.ensures.entries)

pub returns-in_ok-push_back-in-None-clause-list : goal.returns-in_ok-push_back-in-None-clause-list
returns-in_ok-push_back-in-None-clause-list g c =
    rw (← c.self.view_is, list_pushed g.met.K.Ord.total c.self.invariant c.insert.new.self c.args.kernel c.len-number.result c.len-number.ensures.len (sym c.in-None.ensures.value) c.in_ok-insert-in-None.ensures.entries) refl

pub returns-in_ok-push_back-in-None-clause-distinct : goal.returns-in_ok-push_back-in-None-clause-distinct
returns-in_ok-push_back-in-None-clause-distinct g c =
    distinct_pushed g.met.K.Ord.total c.self.invariant c.insert.new.self c.args.kernel c.len-number.result c.len-number.ensures.len (sym c.in-None.ensures.value) c.in_ok-insert-in-None.ensures.entries c.in_ok-insert-in-None.ensures.updates
