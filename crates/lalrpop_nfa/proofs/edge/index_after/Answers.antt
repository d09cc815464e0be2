use Rattle.std.proofs.Common.{◌+◌, ap, refl, sym, ◌∙◌}
use Rattle.std.proofs.lemmas.Bool.{eqb-true}
use Rattle.lalrpop_nfa.proofs.WalkLemmas.{IsAt-read}
use Rattle.lalrpop_nfa.proofs.edge.index_after.Goals as goal

pub returns-then-eq-clause-at : goal.returns-then-eq-clause-at
returns-then-eq-clause-at g c =
    IsAt-read c.args.from (c.args.index + 1) c.args.edges.now c.index-edges-next_index.result c.if-next_index-edges.true c.index-edges-next_index.is
    (ap (λ e. e.from) c.index-edges-next_index.is ∙ eqb-true _ _ (sym c.eq.ensures ∙ c.if-eq.true))

pub returns-then-eq-clause-walk : goal.returns-then-eq-clause-walk
returns-then-eq-clause-walk g c = refl
