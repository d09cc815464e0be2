use Rattle.std.proofs.Common.{◌≡◌, ◌<◌, [], length, take, drop, ap, arith}
use Rattle.std.specs.Option.{option_map}
use Rattle.std.specs.Str.{chars}
use Rattle.std.proofs.lemmas.Bool.{leb-true}
use Rattle.std.proofs.lemmas.Str.{chars-nil}
use Rattle.lalrpop_hir.proofs.Cuts.{cut_within}
use Rattle.lalrpop_dfa.proofs.LongestLemmas.{longest_start}
use Rattle.lalrpop_dense.specs.Internal.Reading.{found}
use Rattle.lalrpop_dense.proofs.Walks.{walked_start, walked_more, in_row, walked_on, walked_boundary, walk_accepts, walk_place, walk_passes, walk_rejects, walk_dead, walk_ends, walk_counts, walk_count, walk_trail, walk_trails, past_more, past_of}
use Rattle.lalrpop_dfa.proofs.Trails.{some_read, trail_cost, still_pays}
use Rattle.lalrpop_dense.proofs.run.walk.Goals as goal

pub walk-init : goal.walk-init
walk-init g c = record {
  walked = walked_start c.args.layout.now c.args.dfa.now c.args.text.now c.index.result.now c.utf8.text c.states-states.ensures.well_formed.some c.requires.table.rows c.index.ensures;
  best = λ ts ps s. longest_start ts ps c.args.text.now;
  place = tt;
  cost = let none : length (chars []) ≡ 0 = ap length chars-nil in omega arith;
  below = let none : length (chars []) ≡ 0 = ap length chars-nil in omega arith;
  limit = let none : length (chars []) ≡ 0 = ap length chars-nil in omega arith;
  past = let none : length (chars []) ≡ 0 = ap length chars-nil in omega arith;
  read = tt;
  trail = tt;
}

pub read_class-class-requires-clause-boundary : goal.read_class-class-requires-clause-boundary
read_class-class-requires-clause-boundary g c = walked_boundary c.args.layout.now c.args.dfa.now c.args.text.now c.walk.at c.walk.state c.utf8.text c.walk.invariant.walked

pub returns-then-state-layout-clause-answer : goal.returns-then-state-layout-clause-answer
returns-then-state-layout-clause-answer g c = λ ts ps s settled.
    let read = c.read_class-class.ensures in
    let w = c.walk.invariant.walked in
    let w2 = walked_more c.args.layout.now (g.C.Cells.numbers c.args.cells.now) c.args.dfa.now c.args.text.now c.walk.at c.read_class-class.new.at c.walk.state c.at-state.result c.read_class-class.result read.0
    c.requires.table c.states-states.ensures.well_formed c.utf8.text w read.1.0 read.1.1 c.at-state.ensures in
    walk_rejects c.args.layout.now (g.C.Cells.numbers c.args.cells.now) c.args.dfa.now c.args.text.now c.walk.at c.read_class-class.new.at c.walk.state c.at-state.result read.0 (option_map (found c.args.layout.now (g.C.Cells.numbers c.args.cells.now) c.args.text.now) c.walk.longest)
    c.requires.table w w2 read.1.0 c.if-state-layout.true ts ps s (c.walk.invariant.best ts ps s)

pub walk-smaller-then-state-layout-2 : goal.walk-smaller-then-state-layout-2
walk-smaller-then-state-layout-2 g c = let read = c.read_class-class.ensures in omega (arith, c.walk-test.true, walked_on c.args.text.now c.walk.at c.read_class-class.new.at read.0 read.1.0)

pub walk-smaller : goal.walk-smaller
walk-smaller g c = let read = c.read_class-class.ensures in omega (arith, c.walk-test.true, walked_on c.args.text.now c.walk.at c.read_class-class.new.at read.0 read.1.0)

pub walk-preserved-then-state-layout-2 : goal.walk-preserved-then-state-layout-2
walk-preserved-then-state-layout-2 g c =
    let read = c.read_class-class.ensures in
    let w = c.walk.invariant.walked in
    let w2 = walked_more c.args.layout.now (g.C.Cells.numbers c.args.cells.now) c.args.dfa.now c.args.text.now c.walk.at c.read_class-class.new.at c.walk.state c.at-state.result c.read_class-class.result read.0
    c.requires.table c.states-states.ensures.well_formed c.utf8.text w read.1.0 read.1.1 c.at-state.ensures in
    let some : 0 < c.read_class-class.new.at = omega (arith, walked_on c.args.text.now c.walk.at c.read_class-class.new.at read.0 read.1.0) in
    let more = walk_counts c.args.layout.now c.args.dfa.now c.args.text.now c.walk.at c.read_class-class.new.at c.walk.state read.0 w read.1.0 in
    let on = walked_on c.args.text.now c.walk.at c.read_class-class.new.at read.0 read.1.0 in
    record {
      walked = w2;
      best = walk_accepts c.args.layout.now (g.C.Cells.numbers c.args.cells.now) c.args.dfa.now c.args.text.now c.read_class-class.new.at c.at-state.result c.requires.table w2 some c.if-state-layout.false c.if-state-layout-2.true;
      place = walk_place c.args.layout.now (g.C.Cells.numbers c.args.cells.now) c.args.dfa.now c.args.text.now c.read_class-class.new.at c.at-state.result c.requires.table c.utf8.text w2 some;
      cost = omega (arith, c.walk.invariant.cost);
      below = omega (arith, c.walk.invariant.below);
      limit = omega (arith, c.walk.invariant.below, c.walk-test.true);
      past = (omega arith, omega arith);
      read = omega (arith, more, c.walk.invariant.cost);
      trail = walk_trail c.args.layout.now (g.C.Cells.numbers c.args.cells.now) c.args.dfa.now c.args.text.now c.read_class-class.new.at c.at-state.result c.requires.table w2 c.if-state-layout.false c.if-state-layout-2.true
          (some_read c.args.text.now (drop c.walk.at c.args.text.now) (drop c.read_class-class.new.at c.args.text.now) c.walk.at c.read_class-class.new.at read.0 w.cut read.1.0.split read.1.0.place);
    }

pub walk-preserved : goal.walk-preserved
walk-preserved g c =
    let read = c.read_class-class.ensures in
    let w = c.walk.invariant.walked in
    let w2 = walked_more c.args.layout.now (g.C.Cells.numbers c.args.cells.now) c.args.dfa.now c.args.text.now c.walk.at c.read_class-class.new.at c.walk.state c.at-state.result c.read_class-class.result read.0
    c.requires.table c.states-states.ensures.well_formed c.utf8.text w read.1.0 read.1.1 c.at-state.ensures in
    let more = walk_counts c.args.layout.now c.args.dfa.now c.args.text.now c.walk.at c.read_class-class.new.at c.walk.state read.0 w read.1.0 in
    let on = walked_on c.args.text.now c.walk.at c.read_class-class.new.at read.0 read.1.0 in
    record {
      walked = w2;
      best = λ ts ps s. walk_passes c.args.layout.now (g.C.Cells.numbers c.args.cells.now) c.args.dfa.now c.args.text.now c.walk.at c.read_class-class.new.at c.walk.state c.at-state.result read.0 (option_map (found c.args.layout.now (g.C.Cells.numbers c.args.cells.now) c.args.text.now) c.walk.longest)
          c.requires.table w w2 read.1.0 c.if-state-layout.false c.if-state-layout-2.false ts ps s (c.walk.invariant.best ts ps s);
      place = c.walk.invariant.place;
      cost = omega (arith, c.walk.invariant.cost);
      below = omega (arith, c.walk.invariant.below);
      limit = omega (arith, c.walk.invariant.below, c.walk-test.true);
      past = past_more c.args.text.now c.walk.at c.read_class-class.new.at 0 (length (chars (take c.walk.at c.args.text.now))) (length (chars (take c.read_class-class.new.at c.args.text.now))) c.walk.longest more on c.walk.invariant.past;
      read = still_pays (λ m. take m.1 c.args.text.now) c.args.steps.now c.walk.steps c.tick.new.self c.walk.longest (omega arith) c.walk.invariant.read;
      trail = walk_trails c.args.layout.now (g.C.Cells.numbers c.args.cells.now) c.args.dfa.now c.args.text.now c.walk.at c.read_class-class.new.at c.walk.state c.at-state.result read.0 c.walk.longest c.requires.table w w2 read.1.0 c.if-state-layout.false c.if-state-layout-2.false c.walk.invariant.trail;
    }

pub returns-clause-answer : goal.returns-clause-answer
returns-clause-answer g c = λ ts ps s settled.
    walk_ends c.args.layout.now c.args.dfa.now c.args.text.now c.walk.at c.walk.state (option_map (found c.args.layout.now (g.C.Cells.numbers c.args.cells.now) c.args.text.now) c.walk.longest) c.walk.invariant.walked (leb-true (length c.args.text.now) c.walk.at settled) ts ps (c.walk.invariant.best ts ps s)

pub overflow_add-state : goal.overflow_add-state
overflow_add-state g c =
    let read = c.read_class-class.ensures in
    omega (
      arith,
      c.requires.table.short,
      in_row c.args.layout.now (g.C.Cells.numbers c.args.cells.now) c.args.dfa.now c.args.text.now c.walk.at c.read_class-class.new.at c.walk.state c.read_class-class.result read.0
          c.requires.table c.walk.invariant.walked read.1.0 read.1.1,
    )

pub at-state-requires : goal.at-state-requires
at-state-requires g c =
    let read = c.read_class-class.ensures in
    in_row c.args.layout.now (g.C.Cells.numbers c.args.cells.now) c.args.dfa.now c.args.text.now c.walk.at c.read_class-class.new.at c.walk.state c.read_class-class.result read.0
    c.requires.table c.walk.invariant.walked read.1.0 read.1.1

pub returns-then-state-layout-clause-cost : goal.returns-then-state-layout-clause-cost
returns-then-state-layout-clause-cost g c =
    let read = c.read_class-class.ensures in
    let w = c.walk.invariant.walked in
    let w2 = walked_more c.args.layout.now (g.C.Cells.numbers c.args.cells.now) c.args.dfa.now c.args.text.now c.walk.at c.read_class-class.new.at c.walk.state c.at-state.result c.read_class-class.result read.0
    c.requires.table c.states-states.ensures.well_formed c.utf8.text w read.1.0 read.1.1 c.at-state.ensures in
    let more = walk_counts c.args.layout.now c.args.dfa.now c.args.text.now c.walk.at c.read_class-class.new.at c.walk.state read.0 w read.1.0 in
    let few = walk_count c.args.layout.now c.args.dfa.now c.args.text.now c.read_class-class.new.at c.at-state.result w2 in
    omega (arith, c.walk.invariant.cost)

pub returns-then-state-layout-clause-looked : goal.returns-then-state-layout-clause-looked
returns-then-state-layout-clause-looked g c = λ n most.
    trail_cost (λ m. take m.1 c.args.text.now) c.args.dfa.now c.args.text.now c.walk.at n c.args.steps.now c.tick.new.self c.walk.longest most (omega (arith, c.walk.invariant.cost)) c.walk.invariant.trail

pub returns-clause-cost : goal.returns-clause-cost
returns-clause-cost g c =
    let few = walk_count c.args.layout.now c.args.dfa.now c.args.text.now c.walk.at c.walk.state c.walk.invariant.walked in
    omega (arith, c.walk.invariant.cost)

pub returns-clause-looked : goal.returns-clause-looked
returns-clause-looked g c = λ n most.
    trail_cost (λ m. take m.1 c.args.text.now) c.args.dfa.now c.args.text.now c.walk.at n c.args.steps.now c.walk.steps c.walk.longest most (omega (arith, c.walk.invariant.cost)) c.walk.invariant.trail

pub returns-then-state-layout-clause-past : goal.returns-then-state-layout-clause-past
returns-then-state-layout-clause-past g c =
    let read = c.read_class-class.ensures in
    let w = c.walk.invariant.walked in
    let more = walk_counts c.args.layout.now c.args.dfa.now c.args.text.now c.walk.at c.read_class-class.new.at c.walk.state read.0 w read.1.0 in
    let on = walked_on c.args.text.now c.walk.at c.read_class-class.new.at read.0 read.1.0 in
    past_of c.args.text.now c.read_class-class.new.at c.args.steps.now c.tick.new.self (length (chars (take c.read_class-class.new.at c.args.text.now))) c.walk.longest (omega (arith, c.walk.invariant.cost))
    (past_more c.args.text.now c.walk.at c.read_class-class.new.at 0 (length (chars (take c.walk.at c.args.text.now))) (length (chars (take c.read_class-class.new.at c.args.text.now))) c.walk.longest more on c.walk.invariant.past)

pub returns-clause-past : goal.returns-clause-past
returns-clause-past g c = past_of c.args.text.now c.walk.at c.args.steps.now c.walk.steps (length (chars (take c.walk.at c.args.text.now))) c.walk.longest c.walk.invariant.cost c.walk.invariant.past

pub returns-then-state-layout-clause-read : goal.returns-then-state-layout-clause-read
returns-then-state-layout-clause-read g c =
    still_pays (λ m. take m.1 c.args.text.now) c.args.steps.now c.walk.steps c.tick.new.self c.walk.longest (omega arith) c.walk.invariant.read

pub returns-then-state-layout-clause-within : goal.returns-then-state-layout-clause-within
returns-then-state-layout-clause-within g c =
    let read = c.read_class-class.ensures in
    let w2 = walked_more c.args.layout.now (g.C.Cells.numbers c.args.cells.now) c.args.dfa.now c.args.text.now c.walk.at c.read_class-class.new.at c.walk.state c.at-state.result c.read_class-class.result read.0
    c.requires.table c.states-states.ensures.well_formed c.utf8.text c.walk.invariant.walked read.1.0 read.1.1 c.at-state.ensures in
    omega (arith, cut_within c.args.text.now (drop c.read_class-class.new.at c.args.text.now) c.read_class-class.new.at w2.cut)

pub returns-clause-within : goal.returns-clause-within
returns-clause-within g c = omega (arith, cut_within c.args.text.now (drop c.walk.at c.args.text.now) c.walk.at c.walk.invariant.walked.cut)

pub returns-then-state-layout-clause-dead : goal.returns-then-state-layout-clause-dead
returns-then-state-layout-clause-dead g c = λ inside settled.
    let read = c.read_class-class.ensures in
    let w2 = walked_more c.args.layout.now (g.C.Cells.numbers c.args.cells.now) c.args.dfa.now c.args.text.now c.walk.at c.read_class-class.new.at c.walk.state c.at-state.result c.read_class-class.result read.0
    c.requires.table c.states-states.ensures.well_formed c.utf8.text c.walk.invariant.walked read.1.0 read.1.1 c.at-state.ensures in
    record {
      boundary = walked_boundary c.args.layout.now c.args.dfa.now c.args.text.now c.read_class-class.new.at c.at-state.result c.utf8.text w2;
      dead = walk_dead c.args.layout.now (g.C.Cells.numbers c.args.cells.now) c.args.dfa.now c.args.text.now c.read_class-class.new.at c.at-state.result c.requires.table w2 c.if-state-layout.true;
    }

pub returns-clause-dead : goal.returns-clause-dead
returns-clause-dead g c = λ inside settled. absurd (omega (arith, leb-true (length c.args.text.now) c.walk.at settled, inside))
