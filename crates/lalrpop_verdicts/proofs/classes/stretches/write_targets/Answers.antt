use Rattle.std.proofs.Common.{◌∙◌, ◌+◌, get_or, refl, sym, arith}
use Rattle.std.proofs.Math.ListN.{length-set}
use Rattle.std.proofs.lemmas.Grind.{take-set_at}
use Rattle.std.proofs.lemmas.List.{take_all}
use Rattle.lalrpop_dfa.specs.Dfa.{step}
use Rattle.lalrpop_verdicts.proofs.StretchLaws.{along_edges, passed_on, targets_all, targets_more}
use Rattle.lalrpop_verdicts.proofs.classes.stretches.write_targets.Goals as goal

pub loop-index-init : goal.loop-index-init
loop-index-init c = record { same_length = c.requires.same_length; written = refl; passed = λ j a b k t l e. absurd (omega arith) }

pub walk_to-requires-clause-passed : goal.walk_to-requires-clause-passed
walk_to-requires-clause-passed c = c.loop-index.invariant.passed c.loop-index.index (omega arith) c.loop-index-test.true

pub loop-index-preserved : goal.loop-index-preserved
loop-index-preserved c =
    let d = c.args.dfa.now in
    let values = c.args.values.now in
    let i = c.loop-index.index in
    let targets = c.loop-index.targets in
    let target = c.index.result in
    let edges = c.test_edges-edges.result.now in
    let inv = c.loop-index.invariant in
    let leads = c.index.ensures.value ∙ c.walk_to.ensures.leads ∙ along_edges d c.args.state edges c.state.result.now c.other_edge-other.result (get_or values i 0) c.test_edges-edges.ensures.tests c.state.ensures.at c.other_edge-other.ensures.other in
    record {
      same_length = length-set targets i target ∙ inv.same_length;
      written = targets_more (step d c.args.state) values _ _ i target c.loop-index-test.true inv.written (take-set_at targets i (i + 1) target refl (omega (arith, c.loop-index-test.true, inv.same_length))) leads;
      passed = passed_on edges c.walk_to.new.place i values c.requires.ascending c.walk_to.ensures.passed;
    }

pub returns : goal.returns
returns c =
    let i = c.loop-index.index in
    let targets = c.loop-index.targets in
    let all = targets_all (step c.args.dfa.now c.args.state) c.args.values.now _ i (omega arith) c.loop-index.invariant.written in
    sym (take_all i targets (omega (arith, c.loop-index-test.false, c.loop-index.invariant.same_length))) ∙ all
