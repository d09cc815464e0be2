use Rattle.std.proofs.Common.{◌≡◌, ⊎_elim, refl, sym, ◌∙◌, subst}
use Rattle.std.specs.List.{Contains}
use Rattle.std.proofs.lemmas.Bool.{eq-eqb}
use Rattle.lalrpop_hir.specs.Range.{Covers}
use Rattle.lalrpop_nfa.specs.Walk.{leaves}
use Rattle.lalrpop_nfa.specs.Path.{test}
use Rattle.lalrpop_hir.proofs.Contained.{contains_first, contains_cases, contains_none, filter_in}
use Rattle.lalrpop_nfa.proofs.StateSetLemmas.{IsGoing, going_start, going_more, going_past, going_end, grown_tested, grown_untested, ends_test}
use Rattle.lalrpop_nfa.proofs.state_set.StateSet.add_read.Goals as goal

pub loop-test_edge-init : goal.loop-test_edge-init
loop-test_edge-init c =
    let all = c.args.nfa.now.edges.tests in
    let is = c.into_iter-test_edge-iterator.ensures.into_iter_gives ∙ c.edges-test_edge-items.ensures.edges in
    record {
      going =
          subst (λ rest. IsGoing c.args.from all rest (λ x. Covers x.label c.args.value) c.args.self.now c.args.self.now) (sym is)
          (going_start c.args.from all (λ x. Covers x.label c.args.value) c.args.self.now);
      tested = λ e. absurd cc;
      untested = λ e x k f w. subst (λ rest. Contains rest x) (sym is) (filter_in (leaves c.args.from) all x k (eq-eqb x.from c.args.from f));
    }

pub loop-test_edge-preserved-in-Continue-1 : goal.loop-test_edge-preserved-in-Continue-1
loop-test_edge-preserved-in-Continue-1 c =
    let all = c.args.nfa.now.edges.tests in
    let i = c.loop-test_edge.invariant in
    let s = c.in-Some.ensures.steps in
    let x = c.in-Some.test_edge.now in
    let covers = c.if-contains_u32.ensures.answer.0 refl in
    let inside = i.going.inside x (rw s (contains_first x c.next.new.self)) in
    record {
      going =
          going_more c.args.from all c.loop-test_edge.test_edge-iterator c.next.new.self (λ y. Covers y.label c.args.value) c.args.self.now c.loop-test_edge.self x c.insert.new.self i.going s
          covers c.in_ok-insert.ensures.grown;
      tested = λ e. (x.to, ends_test c.args.nfa.now.edges c.args.from c.args.value x.to (x, (inside.0, inside.1, covers, refl)));
      untested = λ e. absurd cc;
    }

pub loop-test_edge-preserved : goal.loop-test_edge-preserved
loop-test_edge-preserved c =
    let i = c.loop-test_edge.invariant in
    let s = c.in-Some.ensures.steps in
    let x = c.in-Some.test_edge.now in
    let not : ¬ Covers x.label c.args.value = λ h. cc (c.if-contains_u32.ensures.answer.1 h) in
    record {
      going =
          going_past c.args.from c.args.nfa.now.edges.tests c.loop-test_edge.test_edge-iterator c.next.new.self (λ y. Covers y.label c.args.value) c.args.self.now c.loop-test_edge.self x i.going
          s not;
      tested = i.tested;
      untested = λ e y k f w.
          ⊎_elim (λ (b : x ≡ y). absurd (not (subst (λ z. Covers z.label c.args.value) (sym b) w))) (λ (b : Contains c.next.new.self y). b)
          (contains_cases x c.next.new.self y (rw s at (i.untested e y k f w)));
    }

pub returns-then-is_tested : goal.returns-then-is_tested
returns-then-is_tested c =
    let i = c.loop-test_edge.invariant in
    grown_tested c.args.nfa.now.edges c.args.from c.args.value c.args.self.now c.loop-test_edge.self (i.tested c.if-is_tested.true)
    (going_end c.args.from c.args.nfa.now.edges.tests c.loop-test_edge.test_edge-iterator (λ y. Covers y.label c.args.value) c.args.self.now c.loop-test_edge.self i.going c.in-None.ensures.steps.0)

pub loop-other_edge-init : goal.loop-other_edge-init
loop-other_edge-init c =
    let old = c.loop-test_edge.self in
    subst (λ rest. IsGoing c.args.from c.args.nfa.now.edges.others rest (λ x. Unit {0}) old old)
    (sym (c.into_iter-other_edge-iterator.ensures.into_iter_gives ∙ c.edges-other_edge-items.ensures.edges))
    (going_start c.args.from c.args.nfa.now.edges.others (λ x. Unit {0}) old)

pub loop-other_edge-preserved : goal.loop-other_edge-preserved
loop-other_edge-preserved c =
    going_more c.args.from c.args.nfa.now.edges.others c.loop-other_edge.other_edge-iterator c.next-in-loop-other_edge.new.self (λ y. Unit {0}) c.loop-test_edge.self c.loop-other_edge.self
    c.in-Some-other_edge.other_edge.now c.insert-in-loop-other_edge.new.self c.loop-other_edge.invariant c.in-Some-other_edge.ensures.steps tt c.in_ok-insert-2.ensures.grown

pub returns : goal.returns
returns c =
    let e = c.args.nfa.now.edges in
    let i = c.loop-test_edge.invariant in
    let old = c.args.self.now in
    let mid = c.loop-test_edge.self in
    let new = c.loop-other_edge.self in
    grown_untested e c.args.from c.args.value old mid new
    (λ r q k cov. contains_none (test c.args.from r q) (rw c.in-None.ensures.steps.0 at (i.untested c.if-is_tested.false (test c.args.from r q) k refl cov)))
    (going_end c.args.from e.tests c.loop-test_edge.test_edge-iterator (λ y. Covers y.label c.args.value) old mid i.going c.in-None.ensures.steps.0)
    (going_end c.args.from e.others c.loop-other_edge.other_edge-iterator (λ y. Unit {0}) mid new c.loop-other_edge.invariant c.in-None-other_edge.ensures.steps.0)
