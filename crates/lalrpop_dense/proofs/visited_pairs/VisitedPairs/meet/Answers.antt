use Rattle.std.proofs.Common.{◌∙◌, ◌+◌, ◌<◌, sym, length, arith}
use Rattle.lalrpop_dense.proofs.Marks.{begins_read, noted_only, room_less}
use Rattle.lalrpop_dense.proofs.visited_pairs.VisitedPairs.meet.Goals as goal

pub returns-clause-only : goal.returns-clause-only
returns-clause-only c =
    let begins = begins_read c.self.inside.firsts.items c.args.state c.index-2.result c.len.result c.in-Some.first c.index-3.result.now c.index-2.ensures.value (c.len.ensures ∙ c.self.inside.firsts.ok.0) (omega (arith, c.index.ensures.value, c.index-2.ensures.value)) c.index-3.ensures c.in-Some.is in
    rw (← c.self.view_is) (noted_only c.self.inside.firsts.items c.self.inside.places c.self.inside.marks.items c.args.state c.args.place c.in-Some.first c.self.invariant begins (omega arith))

pub returns-clause-noted : goal.returns-clause-noted
returns-clause-noted c =
    let begins = begins_read c.self.inside.firsts.items c.args.state c.index-2.result c.len.result c.in-Some.first c.index-3.result.now c.index-2.ensures.value (c.len.ensures ∙ c.self.inside.firsts.ok.0) (omega (arith, c.index.ensures.value, c.index-2.ensures.value)) c.index-3.ensures c.in-Some.is in
    let within : c.in-Some.first + c.args.place < length c.self.inside.marks.items = omega (arith, c.self.invariant.fits c.args.state c.in-Some.first begins) in
    rw (← c.self.view_is) (λ h e. room_less c.self.inside.marks.items (c.in-Some.first + c.args.place) c.index-4.result.now within (sym c.index-4.ensures ∙ c.if-index.false))
