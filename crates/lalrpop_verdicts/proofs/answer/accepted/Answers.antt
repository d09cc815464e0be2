use Rattle.std.proofs.Common.{refl, ◌∙◌}
use Rattle.std.proofs.lemmas.Option.{slice_get_read}
use Rattle.lalrpop_verdicts.proofs.Differing.{accepted_stored}
use Rattle.lalrpop_verdicts.proofs.answer.accepted.Goals as goal

pub returns : goal.returns
returns c =
    let states = c.states.result.now in
    let state = c.in_ok-get.field-0.now in
    let found = c.in_ok-get.ensures.lookup in
    let there = slice_get_read states _ c.index.result state refl found.3.0 found.1 in
    let stored = accepted_stored c.args.dfa.now states c.args.state state c.kind.result.now c.states.ensures.states (rw (← c.index.ensures.value) there) c.kind.ensures.kind in
    record { accepted = c.accepted_by.ensures.accepted ∙ stored }
