use Rattle.std.proofs.Common.{◌≡◌, ◌↔◌, ◌∷◌, ◌∙◌, ℕ, List, [], Bool, true, false, not, IsTrue, map, refl, ap, sym}
use Rattle.std.specs.Borrow.{Bor}
use Rattle.std.specs.Option.{is_some}
use Rattle.std.specs.Prelude.{Option, Some, None, MatchOption}
use Rattle.lalrpop_nfa.specs.declared.edge.Edge.{Edge}
use Rattle.lalrpop_nfa.specs.declared.edge.Noop.{Noop}
use Rattle.lalrpop_dfa.specs.Ascending.{Item}
use Rattle.lalrpop_build.proofs.Inserting.{steps_here}
use Rattle.lalrpop_build.proofs.closure.stays.Goals as goal

by_bool : (b : Bool) → false ≡ not b → IsTrue b
by_bool true e = refl
by_bool false e = cc

-- if there is no edge there is no first edge
told : (r : Option (Bor (Edge Noop))) (es rest : List (Edge Noop)) (i : ℕ) (all : List Item) (b : Bool) → MatchOption r ((es ≡ []) × (rest ≡ [])) (λ e. es ≡ e.now ∷ rest) → is_some r ≡ not b
    → map (λ (e : Edge Noop). let z : Item = (i, e.to) in z) es ≡ all → IsTrue b ↔ (all ≡ [])
told None es rest i all b h tells is = (λ t. sym is ∙ ap (map (λ (e : Edge Noop). let z : Item = (i, e.to) in z)) h.0, λ n. by_bool b tells)
told (Some e) es rest i all true h tells is = (λ t. cc, λ n. refl)
told (Some e) es rest i all false h tells is = (λ t. cc, λ n. (let one : map (λ (f : Edge Noop). let z : Item = (i, f.to) in z) (e.now ∷ rest) ≡ [] = ap (map (λ (f : Edge Noop). let z : Item = (i, f.to) in z)) (sym h) ∙ (is ∙ n) in cc))

pub returns : goal.returns
returns c =
    told c.next.result c.edges-edges.result c.next.new.self c.args.item.0 _ c.is_none.result c.next.ensures.steps c.is_none.ensures
    (steps_here c.args.nfas.now c.args.item c.nfa.result.now c.state.result c.edges-edges.result c.nfa.ensures c.state.ensures c.edges-edges.ensures.edges)
