use Rattle.std.proofs.Common.{◌≡◌, ℕ, ◌<◌, ◌+◌, ◌∙◌, get_or, length, sym, ap, arith, refl}
use Rattle.std.proofs.lemmas.List.{get_or_read_under}
use Rattle.lalrpop_dfa.specs.Dfa.{step, edge_target}
use Rattle.lalrpop_dfa.proofs.EdgeTargets.{step_within}
use Rattle.lalrpop_dense.specs.Internal.Table.{row_of}
use Rattle.lalrpop_dense.specs.Internal.Runs.{IsRun}
use Rattle.lalrpop_dense.proofs.Rights.{row_leads, right_on}
use Rattle.lalrpop_dense.proofs.check.leads_right_below.Goals as goal

pub index-requires-in-loop-value-2 : goal.index-requires-in-loop-value-2
index-requires-in-loop-value-2 c =
    let to : step c.args.dfa.now c.args.index c.loop-value.value ≡ c.segment_at-target.result.0 =
    row_leads c.args.dfa.now c.args.index _ _ _ c.test_edges-edges.ensures.tests c.state.ensures.at c.other_edge-other.ensures.other c.loop-value.value
    ∙ c.segment_at-target.ensures.leads c.loop-value.value (omega arith) c.segment_at-target.ensures.some in
    omega (arith, to, step_within c.args.dfa.now c.args.index c.loop-value.value c.state.ensures.well_formed c.requires.within, c.index-in-loop-value.ensures.value, c.args.layout.now.rows.ok.0)

pub loop-value-preserved-then-end-run : goal.loop-value-preserved-then-end-run
loop-value-preserved-then-end-run c =
    let t = c.args.layout.now in
    let cells = c.args.cells.now in
    let d = c.args.dfa.now in
    let p = c.args.index in
    let run = get_or c.args.runs.now c.loop-run.run-index record { start = 0; end = 0; class = 0 } in
    let leads : (v : ℕ) → step d p v ≡ edge_target c.test_edges-edges.result.now c.other_edge-other.result v =
    row_leads d p _ _ _ c.test_edges-edges.ensures.tests c.state.ensures.at c.other_edge-other.ensures.other in
    let target = c.segment_at-target.result.0 in
    let within : target < length t.rows.items =
    omega (arith, leads c.loop-value.value, c.segment_at-target.ensures.leads c.loop-value.value (omega arith) c.segment_at-target.ensures.some, step_within d p c.loop-value.value c.state.ensures.well_formed c.requires.within, c.requires.rows) in
    let row : c.index-2.result.now ≡ row_of t p =
    get_or_read_under t.rows.items _ _ _ 0 c.index-2.ensures (omega (arith, c.index.ensures.value, c.requires.within, c.requires.rows)) refl ∙ ap (row_of t) c.index.ensures.value in
    let in_row : c.index-2.result.now + run.class < length cells =
    omega (arith, row, c.requires.cells p (omega (arith, c.requires.within, c.requires.rows)), c.if-run-layout.false) in
    let cell : get_or cells (row_of t p + run.class) 0 ≡ row_of t target =
    ap (λ (r : ℕ). get_or cells (r + run.class) 0) (sym row)
    ∙ c.if-cells-row.false
    ∙ get_or_read_under t.rows.items _ _ _ 0 c.index-in-loop-value-2.ensures (omega (arith, c.index-in-loop-value.ensures.value, within)) refl
    ∙ ap (row_of t) c.index-in-loop-value.ensures.value in
    let is : IsRun t run = c.requires.runs c.loop-run.run-index (record { start = 0; end = 0; class = 0 }) c.loop-run-test.true in
    record {
      passed = λ k u l e. omega (arith, c.segment_at-target.ensures.passed k u l e, c.segment_at-target.ensures.some);
      right = right_on t cells d p run c.loop-value.value c.segment_at-target.result.1 c.segment_at-target.result.1 target is c.loop-value.invariant.right c.loop-value.invariant.from
          (λ v from below. leads v ∙ c.segment_at-target.ensures.leads v from below) cell (omega arith) (omega arith);
      from = omega (arith, c.loop-value.invariant.from, c.segment_at-target.ensures.some);
    }

pub loop-value-preserved : goal.loop-value-preserved
loop-value-preserved c =
    let t = c.args.layout.now in
    let cells = c.args.cells.now in
    let d = c.args.dfa.now in
    let p = c.args.index in
    let run = get_or c.args.runs.now c.loop-run.run-index record { start = 0; end = 0; class = 0 } in
    let leads : (v : ℕ) → step d p v ≡ edge_target c.test_edges-edges.result.now c.other_edge-other.result v =
    row_leads d p _ _ _ c.test_edges-edges.ensures.tests c.state.ensures.at c.other_edge-other.ensures.other in
    let target = c.segment_at-target.result.0 in
    let within : target < length t.rows.items =
    omega (arith, leads c.loop-value.value, c.segment_at-target.ensures.leads c.loop-value.value (omega arith) c.segment_at-target.ensures.some, step_within d p c.loop-value.value c.state.ensures.well_formed c.requires.within, c.requires.rows) in
    let row : c.index-2.result.now ≡ row_of t p =
    get_or_read_under t.rows.items _ _ _ 0 c.index-2.ensures (omega (arith, c.index.ensures.value, c.requires.within, c.requires.rows)) refl ∙ ap (row_of t) c.index.ensures.value in
    let in_row : c.index-2.result.now + run.class < length cells =
    omega (arith, row, c.requires.cells p (omega (arith, c.requires.within, c.requires.rows)), c.if-run-layout.false) in
    let cell : get_or cells (row_of t p + run.class) 0 ≡ row_of t target =
    ap (λ (r : ℕ). get_or cells (r + run.class) 0) (sym row)
    ∙ c.if-cells-row.false
    ∙ get_or_read_under t.rows.items _ _ _ 0 c.index-in-loop-value-2.ensures (omega (arith, c.index-in-loop-value.ensures.value, within)) refl
    ∙ ap (row_of t) c.index-in-loop-value.ensures.value in
    let is : IsRun t run = c.requires.runs c.loop-run.run-index (record { start = 0; end = 0; class = 0 }) c.loop-run-test.true in
    record {
      passed = λ k u l e. omega (arith, c.segment_at-target.ensures.passed k u l e, c.segment_at-target.ensures.some, c.loop-value-test.true);
      right = right_on t cells d p run c.loop-value.value run.end c.segment_at-target.result.1 target is c.loop-value.invariant.right c.loop-value.invariant.from
          (λ v from below. leads v ∙ c.segment_at-target.ensures.leads v from below) cell (omega arith) (omega arith);
      from = omega (arith, c.loop-value.invariant.from, c.segment_at-target.ensures.some, c.loop-value-test.true);
    }
