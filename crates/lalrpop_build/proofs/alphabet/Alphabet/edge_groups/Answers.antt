use Rattle.std.proofs.Common.{◌≡◌, ℕ, ◌<◌, List, length, get_or, Some, sym, subst, ap, ◌∙◌, arith}
use Rattle.std.specs.Prelude.{slice_get}
use Rattle.std.proofs.lemmas.Option.{slice_get_within}
use Rattle.lalrpop_build.specs.Internal.Alphabet.{Classes, HasState, IsSound}
use Rattle.lalrpop_build.specs.declared.alphabet.NfaEdgeGroups.{NfaEdgeGroups}
use Rattle.lalrpop_build.proofs.Assembling.{at}
use Rattle.lalrpop_build.proofs.alphabet.Alphabet.edge_groups.Goals as goal

-- the automaton's place is within the list, and the state's place within that automaton
within : (nfas : List NfaEdgeGroups) (i p : ℕ) (x : NfaEdgeGroups) → HasState nfas i p → x ≡ get_or nfas i x → p < length x.states.items
within nfas i p x (y, (there, l)) e =
    let same : y ≡ x = (let f : Some y ≡ Some x = sym there ∙ at nfas i x (slice_get_within nfas i y there) e in cc) in
    subst (λ (z : NfaEdgeGroups). p < length z.states.items) same l

pub index-requires : goal.index-requires
index-requires c =
    let h = subst (λ (a : Classes). HasState a.nfas c.args.automaton c.args.state) (sym c.self.view_is) c.requires.has_state in
    omega (arith, c.self.inside.nfas.ok, slice_get_within c.self.inside.nfas.items c.args.automaton h.0 h.1.0)

pub index-requires-3 : goal.index-requires-3
index-requires-3 c =
    let h = subst (λ (a : Classes). HasState a.nfas c.args.automaton c.args.state) (sym c.self.view_is) c.requires.has_state in
    omega (arith, c.index-2.ensures.value, within c.self.inside.nfas.items c.args.automaton c.args.state c.index.result.now h c.index.ensures)

pub returns : goal.returns
returns c =
    let h = subst (λ (a : Classes). HasState a.nfas c.args.automaton c.args.state) (sym c.self.view_is) c.requires.has_state in
    let l = within c.self.inside.nfas.items c.args.automaton c.args.state c.index.result.now h c.index.ensures in
    let first : slice_get c.args.self.now.nfas c.args.automaton ≡ Some c.index.result.now =
    ap (λ (a : Classes). slice_get a.nfas c.args.automaton) (sym c.self.view_is) ∙ at c.self.inside.nfas.items c.args.automaton c.index.result.now (slice_get_within c.self.inside.nfas.items c.args.automaton h.0 h.1.0) c.index.ensures in
    let second : slice_get c.index.result.now.states.items c.args.state ≡ Some c.index-3.result.now =
    at c.index.result.now.states.items c.args.state c.index-3.result.now l (subst (λ (k : ℕ). c.index-3.result.now ≡ get_or c.index.result.now.states.items k c.index-3.result.now) c.index-2.ensures.value c.index-3.ensures) in
    record { edge_groups = (c.index.result.now, c.index-3.result.now, (first, second, c.as_slice.ensures)); sound = subst IsSound c.self.view_is c.self.invariant }
