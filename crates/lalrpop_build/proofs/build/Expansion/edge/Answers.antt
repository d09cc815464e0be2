use Rattle.std.proofs.Common.{◌≡◌, ◌<◌, ◌∙◌, ℕ, length, map, ap, subst, arith, true}
use Rattle.std.specs.Prelude.{slice_get, not}
use Rattle.lalrpop_build.specs.Internal.Blocks.{has_edges}
use Rattle.lalrpop_build.specs.Internal.Stage.{IsTarget}
use Rattle.lalrpop_build.proofs.StageLaws.{number_read, target_of_found, block_written}
use Rattle.lalrpop_build.proofs.build.Expansion.edge.Goals as goal
use Rattle.lalrpop_build.proofs.build.Expansion.edge.Goals.{in-Some, in-None-2+in_ok-target-in-None-2}

pub target-requires-clause-take : goal.target-requires-clause-take
target-requires-clause-take c = rw c.origin.ensures c.requires.take

pub returns : goal.returns
returns c =
    let class = c.args.block.from.class in
    let within : class < length c.self.inside.cache.by_class.items = (let l = rw (← c.self.view_is) at c.requires.class in omega (arith, c.self.invariant.count, l)) in
    let some : has_edges (slice_get c.args.self.now.by_class class) ≡ true =
    elim c.match-index.branch [
      | in-Some w ↦ rw (← c.self.view_is) (c.self.invariant.some class w.in-Some.target (number_read c.self.inside.cache.by_class.items class w.in-Some.target c.index.result.now within c.index.ensures w.in-Some.is))
      | in-None-2+in_ok-target-in-None-2 w ↦ rw (← c.self.view_is) (w.has_no_edges.ensures ∙ ap not w.if-has_no_edges.false)
    ] in
    let to : IsTarget c.args.self.now c.args.set.now c.args.block.from.first c.match-index.target c.match-index.self =
    elim c.match-index.branch [
      | in-Some w ↦
          (let found = number_read c.self.inside.cache.by_class.items class w.in-Some.target c.index.result.now within c.index.ensures w.in-Some.is in
          let (t, (at, are)) = (rw (← c.self.view_is) at c.requires.take) (c.self.invariant.some class w.in-Some.target found) in
          rw (w.target-is, w.self-is, ← c.self.view_is)
          (target_of_found c.self.inside.automata (map (λ p. p.0) c.self.inside.precedences.now) c.self.inside.sets c.self.inside.number c.self.inside.scratch c.self.inside.writer c.args.set.now c.args.block.from.first w.in-Some.target
          ((c.self.invariant.cache_is c.args.set.now (rw (← c.self.view_is) at c.requires.at.here)).classes class w.in-Some.target c.args.block.from.first t found at are)))
      | in-None-2+in_ok-target-in-None-2 w ↦
          rw (w.target-is, w.self-is) (subst (λ (o : ℕ × ℕ). IsTarget c.args.self.now c.args.set.now o.1 w.in_ok-target-in-None-2.target w.target-in-None-2.new.self) w.origin.ensures w.in_ok-target-in-None-2.ensures)
    ] in
    block_written c.args.self.now c.args.set.now c.args.block.from c.args.block.to c.self-2.inside.automata (map (λ p. p.0) c.self-2.inside.precedences.now) c.self-2.inside.sets c.self-2.inside.number c.self-2.inside.scratch c.self-2.inside.writer c.write_edge.new.writer c.match-index.target
    some (rw (← c.self-2.view_is) at to) c.in_ok-write_edge.ensures.rows c.in_ok-write_edge.ensures.tests
