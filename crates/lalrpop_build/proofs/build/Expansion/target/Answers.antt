use Rattle.std.proofs.Common.{◌≡◌, ◌<◌, ℕ, length, map, ap, arith}
use Rattle.std.proofs.lemmas.Option.{slice_get_within}
use Rattle.lalrpop_build.proofs.ClassCache.{class_takes}
use Rattle.lalrpop_build.proofs.Adding.{added_at}
use Rattle.lalrpop_build.proofs.CacheLaws.{cache_found}
use Rattle.lalrpop_build.proofs.StageLaws.{expansion_grows, expansion_inserted, expansion_noted, target_of_found, target_of_added}
use Rattle.lalrpop_build.proofs.build.Expansion.target.Goals as goal
use Rattle.lalrpop_build.proofs.build.Expansion.target.Goals.{in-Some, in-None+in_ok-number-in-None+in_ok-insert-in-None}

pub successor-requires-clause-inside : goal.successor-requires-clause-inside
successor-requires-clause-inside c = rw (← c.self.view_is) at c.requires.at.inside

pub successor-requires-clause-transitions : goal.successor-requires-clause-transitions
successor-requires-clause-transitions c =
    let takes = (rw (← c.self.view_is) at c.requires.take) (rw (← c.self.view_is) at c.requires.some) in
    rw c.deref.ensures.value (class_takes c.self.inside.automata.graphs c.args.set.now c.self.inside.scratch.edges.lists.items c.args.class c.args.origin.1 c.index.result.now c.index.ensures takes)

pub invariant_of-self : goal.invariant_of-self
invariant_of-self c = expansion_grows _ _ _ _ _ _ _ c.args.set.now c.self.invariant (rw (← c.self.view_is) at c.requires.at.here) c.in_err-number-in-None.ensures.kept

pub insert-requires : goal.insert-requires
insert-requires c =
    let (t, (at, are)) = (rw (← c.self.view_is) at c.requires.take) (rw (← c.self.view_is) at c.requires.some) in
    slice_get_within c.self.inside.scratch.edges.lists.items c.args.class t at

pub invariant_of-self-in_err-insert-in-None : goal.invariant_of-self-in_err-insert-in-None
invariant_of-self-in_err-insert-in-None c =
    let here = rw (← c.self.view_is) at c.requires.at.here in
    let takes = (rw (← c.self.view_is) at c.requires.take) (rw (← c.self.view_is) at c.requires.some) in
    let added = c.in_ok-number-in-None.ensures.added.0 in
    let kept = c.in_ok-number-in-None.ensures.kept in
    let grown = expansion_grows _ _ _ _ _ _ _ c.args.set.now c.self.invariant here kept in
    expansion_inserted c.self.inside.automata (length c.self.inside.precedences.now) c.successor.new.self.kernels.list c.self.inside.number c.self.inside.scratch c.self.inside.cache c.insert.new.self c.args.set.now grown (kept _ _ here)
    c.args.class c.in_ok-number-in-None.number c.args.origin.1 takes (added_at _ _ _ _ _ _ _ _ added) c.in_err-insert-in-None.ensures.same c.in_err-insert-in-None.ensures.edges

pub note-requires : goal.note-requires
note-requires c =
    let (t, (at, are)) = (rw (← c.self.view_is) at c.requires.take) (rw (← c.self.view_is) at c.requires.some) in
    let within : c.args.class < length c.self.inside.cache.by_class.items = omega (arith, c.self.invariant.count, slice_get_within c.self.inside.scratch.edges.lists.items c.args.class t at) in
    elim c.match-find.branch [
      | in-Some w ↦ rw w.self-inside-is within
      | in-None+in_ok-number-in-None+in_ok-insert-in-None w ↦ rw (w.self-inside-is, w.in_ok-insert-in-None.ensures.same) within
    ]

pub invariant_of-self-2 : goal.invariant_of-self-2
invariant_of-self-2 c =
    let a = c.self.inside.automata in
    let n = length c.self.inside.precedences.now in
    let scratch = c.self.inside.scratch in
    let here = rw (← c.self.view_is) at c.requires.at.here in
    let edges = rw (← c.self.view_is) at c.requires.some in
    let takes = (rw (← c.self.view_is) at c.requires.take) edges in
    elim c.match-find.branch [
      | in-Some w ↦
          (let to = cache_found a.graphs c.args.set.now scratch.edges.lists.items c.self.inside.cache c.self.inside.sets.kernels.list c.args.class w.in-Some.number c.args.origin.1 (c.self.invariant.cache_is c.args.set.now here) takes w.in-Some.ensures in
          rw w.self-inside-is
          (expansion_noted a n c.self.inside.sets.kernels.list c.self.inside.number scratch c.self.inside.cache c.note.new.self c.args.set.now c.self.invariant here c.args.class w.in-Some.number c.args.origin.1 takes to edges
          (rw (w.self-inside-is, w.number-is) at c.note.ensures.class) (rw w.self-inside-is at c.note.ensures.edges)))
      | in-None+in_ok-number-in-None+in_ok-insert-in-None w ↦
          (let added = w.in_ok-number-in-None.ensures.added.0 in
          let kept = w.in_ok-number-in-None.ensures.kept in
          let to = added_at _ _ _ _ _ _ _ _ added in
          let grown = expansion_grows a n c.self.inside.sets.kernels.list w.successor.new.self.kernels.list c.self.inside.number scratch c.self.inside.cache c.args.set.now c.self.invariant here kept in
          let inserted = expansion_inserted a n w.successor.new.self.kernels.list c.self.inside.number scratch c.self.inside.cache w.insert.new.self c.args.set.now grown (kept _ _ here) c.args.class w.in_ok-number-in-None.number c.args.origin.1 takes to
          w.in_ok-insert-in-None.ensures.same w.in_ok-insert-in-None.ensures.edges in
          rw w.self-inside-is
          (expansion_noted a n w.successor.new.self.kernels.list c.self.inside.number scratch w.insert.new.self c.note.new.self c.args.set.now inserted (kept _ _ here) c.args.class w.in_ok-number-in-None.number c.args.origin.1 takes to edges
          (rw (w.self-inside-is, w.number-is) at c.note.ensures.class) (rw w.self-inside-is at c.note.ensures.edges)))
    ]

pub returns : goal.returns
returns c =
    let a = c.self.inside.automata in
    let ps = map (λ p. p.0) c.self.inside.precedences.now in
    let scratch = c.self.inside.scratch in
    let here = rw (← c.self.view_is) at c.requires.at.here in
    let takes = (rw (← c.self.view_is) at c.requires.take) (rw (← c.self.view_is) at c.requires.some) in
    let origin : c.args.origin ≡ (c.self.inside.number, c.args.origin.1) = ap (λ (k : ℕ). (k, c.args.origin.1)) (rw (← c.self.view_is) at c.requires.number) in
    rw (← c.self.view_is)
    (elim c.match-find.branch [
      | in-Some w ↦ rw (w.self-inside-is, w.number-is)
          (target_of_found a ps c.self.inside.sets c.self.inside.number scratch c.self.inside.writer c.args.set.now c.args.origin.1 w.in-Some.number
          (cache_found a.graphs c.args.set.now scratch.edges.lists.items c.self.inside.cache c.self.inside.sets.kernels.list c.args.class w.in-Some.number c.args.origin.1 (c.self.invariant.cache_is c.args.set.now here) takes w.in-Some.ensures))
      | in-None+in_ok-number-in-None+in_ok-insert-in-None w ↦ rw (w.self-inside-is, w.number-is)
          (target_of_added a ps c.self.inside.sets w.successor.new.self c.self.inside.number scratch c.self.inside.writer c.args.set.now c.args.origin c.args.origin.1 w.in_ok-number-in-None.number origin w.in_ok-number-in-None.ensures.added)
    ])
