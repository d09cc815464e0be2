use Rattle.std.proofs.Common.{ap, sym, subst}
use Rattle.std.specs.Str.{IsUtf8}
use Rattle.lalrpop_hir.specs.Prefix.{IsPrefix}
use Rattle.lalrpop_dense.specs.Matching.{Matching}
use Rattle.lalrpop_dense.specs.Internal.Blocks.{Rest}
use Rattle.lalrpop_dense.specs.Internal.Standing.{IsReached, spare_of}
use Rattle.lalrpop_dense.proofs.Blocks.{next_through, remembering, sought_none}
use Rattle.lalrpop_dense.proofs.Standings.{reached_on}
use Rattle.lalrpop_dense.proofs.linear_matches.LinearMatches.next_alone.Goals as goal

pub returns-in_default-clause-next : goal.returns-in_default-clause-next
returns-in_default-clause-next c =
    let i = c.self.inside in
    next_through c.args.self.now (remembering i.ahead 0 i.counted i.memo) c.next_remembered.new.self c.next_remembered.result
    (ap (λ (s : Matching). record s { spare = spare_of i.ahead.text 0 i.counted i.memo }) c.self.view_is) c.next_remembered.ensures.next

pub invariant_of-self-in-Some-longest : goal.invariant_of-self-in-Some-longest
invariant_of-self-in-Some-longest c =
    let i = c.self.inside in
    let p = c.in-Some-longest.slice.now in
    let prefix = rw c.in-Some-longest.is at c.in-Some.ensures.prefix in
    subst (λ (r : Rest). IsReached r.automaton r.text r.at i.counted i.index i.memo) (sym c.pass.ensures.passes)
    (reached_on i.ahead.automaton i.ahead.text p i.ahead.at i.counted i.index i.memo (subst IsUtf8 c.rest-rest.ensures.rest c.rest-rest.utf8) (subst (IsPrefix p) c.rest-rest.ensures.rest prefix.0) c.self.invariant)

pub returns-in_default-longest-clause-next : goal.returns-in_default-longest-clause-next
returns-in_default-longest-clause-next c =
    sought_none _ c.self.inside.ahead c.dense-dense.result.now c.rest-rest.result.now c.in-Some.settled.longest _ _ c.in_default-longest.is c.self.view_is c.dense-dense.ensures.same c.rest-rest.ensures.rest
    c.in-Some.ensures.answer
