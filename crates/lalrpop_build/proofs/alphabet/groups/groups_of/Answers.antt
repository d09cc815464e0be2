use Rattle.std.proofs.Common.{◌≡◌, length, refl, arith, subst, sym}
use Rattle.std.specs.Prelude.{slice_get, Some}
use Rattle.std.proofs.lemmas.Option.{slice_get_read}
use Rattle.lalrpop_build.specs.Internal.Grouped.{AreGrouped}
use Rattle.lalrpop_build.proofs.EdgeGroupLaws.{nfas_more, grouped}
use Rattle.lalrpop_build.proofs.alphabet.groups.groups_of.Goals as goal

pub loop-nfa-preserved : goal.loop-nfa-preserved
loop-nfa-preserved c =
    let here : slice_get c.args.nfas.now c.loop-nfa.nfa-index ≡ Some c.nfa-item.result = slice_get_read c.args.nfas.now (length c.args.nfas.now) c.loop-nfa.nfa-index c.nfa-item.result refl (omega arith) c.nfa-item.is in
    nfas_more c.loop-nfa.lists c.states_of.new.self c.args.nfas.now c.loop-nfa.nfa-index c.nfa-item.result c.loop-nfa.edge_groups.items c.push.new.self.items (record { states = c.in_ok-states.states }) c.loop-nfa.invariant c.in_ok-states.ensures.grown here c.in_ok-states.ensures.states c.in_ok-push.ensures.items

pub returns : goal.returns
returns c =
    let all : c.loop-nfa.nfa-index ≡ length c.args.nfas.now = omega arith in
    subst (λ lists. AreGrouped c.args.nfas.now lists c.loop-nfa.edge_groups.items) (sym c.lists-2.view_is) (grouped c.loop-nfa.lists c.args.nfas.now c.loop-nfa.nfa-index c.loop-nfa.edge_groups.items c.loop-nfa.invariant all)
