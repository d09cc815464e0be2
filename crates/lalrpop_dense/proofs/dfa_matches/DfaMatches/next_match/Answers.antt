use Rattle.std.proofs.Common.{length, refl}
use Rattle.std.proofs.lemmas.Str.{IsCharBoundary-from_rest}
use Rattle.lalrpop_dense.specs.Matching.{Matching}
use Rattle.lalrpop_dense.proofs.Cuttings.{cut_behind}
use Rattle.lalrpop_dense.proofs.Blocks.{run_some, alone_none}
use Rattle.lalrpop_dense.proofs.dfa_matches.DfaMatches.next_match.Goals as goal

pub invariant_of-self : goal.invariant_of-self
invariant_of-self c =
    let p = rw c.range_from-rest.ensures.value at c.in-Some.ensures.prefix in
    let u = rw c.range_from-rest.ensures.value at c.range_from-rest.utf8 in
    IsCharBoundary-from_rest c.self.inside.text.now c.self.inside.at (length c.in-Some.found.1.now) c.self.invariant.0 (cut_behind _ _ u p.0)

pub returns-in-Some-clause-next : goal.returns-in-Some-clause-next
returns-in-Some-clause-next c =
    let i = c.self.inside in
    let e = c.in-Some.ensures in
    rw (← c.self.view_is) (run_some i.dfa.now i.text.now _ i.at c.in-Some.found _ _ c.range_from-rest.ensures.value e.answer e.prefix e.looked e.read).0

pub returns-in-Some-clause-paid : goal.returns-in-Some-clause-paid
returns-in-Some-clause-paid c =
    let i = c.self.inside in
    let e = c.in-Some.ensures in
    rw (← c.self.view_is) (run_some i.dfa.now i.text.now _ i.at c.in-Some.found _ _ c.range_from-rest.ensures.value e.answer e.prefix e.looked e.read).1

pub returns-in-None-clause-next : goal.returns-in-None-clause-next
returns-in-None-clause-next c =
    let i = c.self.inside in
    let e = c.in-None.ensures in
    let s : Matching = record { automaton = i.dfa.now; text = i.text.now; at = i.at; spare = 0 } in
    rw (← c.self.view_is) (alone_none s i.dfa.now _ _ _ refl c.range_from-rest.ensures.value e.answer e.never_falls e.cost).0
