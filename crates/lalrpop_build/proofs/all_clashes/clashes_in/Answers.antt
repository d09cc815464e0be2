use Rattle.std.proofs.Common.{◌≡◌, ◌↔◌, List, length, map, subst, rules}
use Rattle.std.specs.List.{Contains}
use Rattle.lalrpop_dfa.proofs.EdgeTargets.{the_some}
use Rattle.lalrpop_dfa.specs.Ascending.{Item}
use Rattle.lalrpop_build.specs.Internal.Built.{IsStrongestIn}
use Rattle.lalrpop_build.proofs.AllClashes.{row_set, listed_one, all_found}
use Rattle.lalrpop_build.proofs.all_clashes.clashes_in.Goals as goal

pub strongest-requires-clause-inside : goal.strongest-requires-clause-inside
strongest-requires-clause-inside c =
    let e = c.args.expansion.now in
    let (ps, built) = c.requires.built in
    let row = the_some _ _ c.item_set-set.ensures in
    (row_set e.automata.graphs ps e.kernels.list e.origins e.written.rows built c.loop-number.number row.0 c.item_set-set.result.now row.1.0 row.1.1).2

pub strongest-requires-clause-ascending : goal.strongest-requires-clause-ascending
strongest-requires-clause-ascending c =
    let e = c.args.expansion.now in
    let (ps, built) = c.requires.built in
    let row = the_some _ _ c.item_set-set.ensures in
    (row_set e.automata.graphs ps e.kernels.list e.origins e.written.rows built c.loop-number.number row.0 c.item_set-set.result.now row.1.0 row.1.1).3

pub loop-number-preserved : goal.loop-number-preserved
loop-number-preserved c =
    let e = c.args.expansion.now in
    let ps = map (λ p. p.0) c.args.precedences.now in
    let (apart, built) = c.requires.built in
    let row = the_some _ _ c.item_set-set.ensures in
    let set = row_set e.automata.graphs apart e.kernels.list e.origins e.written.rows built c.loop-number.number row.0 c.item_set-set.result.now row.1.0 row.1.1 in
    record {
      listed = listed_one ps e.automata.graphs e.kernels.list e.origins built.breadth_first c.loop-number.number set.0 c.in_ok-strongest.strongest.items c.in_ok-strongest.ensures.ascending
          (λ i. subst (λ (s : List Item). Contains c.in_ok-strongest.strongest.items i ↔ IsStrongestIn ps s i) set.1 (c.in_ok-strongest.ensures.all i))
          c.loop-number.ties.clashes.items c.add_all.new.self.clashes.items c.loop-number.invariant.listed
          (rw (← c.deref.ensures.value) (rw c.origins.ensures at c.in_ok-add_all.ensures.added));
      pairs = c.in_ok-add_all.ensures.pairs;
    }

pub returns-clause-ok : goal.returns-clause-ok
returns-clause-ok c =
    let e = c.args.expansion.now in
    let (apart, built) = c.requires.built in
    let end : c.loop-number.number ≡ length e.written.rows = search rules in
    all_found e.automata.graphs apart (map (λ p. p.0) c.args.precedences.now) e.kernels.list e.origins e.written.rows built
    c.loop-number.number end c.loop-number.ties.clashes.items c.loop-number.invariant.listed
