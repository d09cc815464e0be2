use Rattle.std.proofs.Common.{arith, ap, sym, ◌∙◌}
use Rattle.std.specs.Str.{bytes_eq}
use Rattle.lalrpop_emit.proofs.NameLists.{place_here, place_nowhere, others_more}
use Rattle.lalrpop_emit.proofs.naming.place_of.Goals as goal

pub returns-then-eq-clause-place : goal.returns-then-eq-clause-place
returns-then-eq-clause-place c =
    place_here c.args.names.now c.loop-place.place c.index-names-place.result c.args.name.now (omega arith) c.index-names-place.is c.loop-place.invariant
    (ap (bytes_eq c.args.name.now) (sym c.as_str.ensures.value) ∙ sym c.eq.ensures ∙ c.if-eq.true)

pub loop-place-preserved : goal.loop-place-preserved
loop-place-preserved c =
    others_more c.args.names.now c.loop-place.place c.index-names-place.result c.args.name.now (omega arith) c.index-names-place.is c.loop-place.invariant
    (ap (bytes_eq c.args.name.now) (sym c.as_str.ensures.value) ∙ sym c.eq.ensures ∙ c.if-eq.false)

pub returns-clause-place : goal.returns-clause-place
returns-clause-place c = place_nowhere c.args.names.now c.loop-place.place c.args.name.now (omega arith) (omega arith) c.loop-place.invariant
