use Rattle.std.proofs.Common.{◌≡◌, ◌<◌, ◌≤◌, ◌+◌, ◌∙◌, ◌∷◌, ◌++◌, [], List, ℕ, length, slice_index, take, take_all, sym, ap, subst, arith}
use Rattle.std.specs.Prelude.{slice_get, Some, IsSomeAnd}
use Rattle.std.proofs.lemmas.List.{take_more}
use Rattle.lalrpop_hir.specs.Range.{Range}
use Rattle.lalrpop_dfa.specs.Dfa.{Row}
use Rattle.lalrpop_dfa.proofs.EdgeTargets.{at_place, the_some}
use Rattle.lalrpop_verdicts.specs.Internal.ClassRows.{AreJoined, AreNumbered, IsClassKind, IsNumberOf, LeadAlike, LeadsTo}
use Rattle.lalrpop_verdicts.proofs.ClassOrder.{edges_in_turn, test_in_turn}
use Rattle.lalrpop_verdicts.proofs.ClassWalks.{led_by_other, met_then, met_weaker, range_same, tests_kept, tests_push}
use Rattle.lalrpop_verdicts.proofs.JoinedTests.{joined_led, of_row}
use Rattle.lalrpop_verdicts.proofs.smallest.write_row.Goals as goal

pub number-requires-clause-within : goal.number-requires-clause-within
number-requires-clause-within c =
    let d = c.args.dfa.now in
    let p = c.args.state in
    let ts = c.deref-test-items.result.now in
    let k = c.loop-test.test-index in
    let t = c.loop-test-item.result in
    let at = at_place ts k t c.loop-test-test.true c.loop-test-item.is in
    let here : slice_get c.in_ok-edges.edges.items k ≡ Some t = ap (λ xs. slice_get xs k) (sym c.deref-test-items.ensures.value) ∙ at in
    let led = joined_led d p (slice_index c.deref.result.now) c.in_ok-edges.edges.items c.in_ok-edges.ensures.well_formed c.in_ok-edges.ensures.joined k t here in
    omega (arith, led.0, c.requires.same_length, ap length c.loop-test.invariant.classes)

pub loop-test-preserved : goal.loop-test-preserved
loop-test-preserved c =
    let d = c.args.dfa.now in
    let p = c.args.state in
    let classes = c.args.met.now.classes.items in
    let before = c.loop-test.met.states.items in
    let after = c.number.new.self.states.items in
    let ts = c.deref-test-items.result.now in
    let k = c.loop-test.test-index in
    let t = c.loop-test-item.result in
    let number = c.in_ok-number.number in
    let label = c.in_ok-clone.field-0 in
    let i = c.loop-test.invariant in
    let l : k < length ts = c.loop-test-test.true in
    let at = at_place ts k t l c.loop-test-item.is in
    let here : slice_get c.in_ok-edges.edges.items k ≡ Some t = ap (λ xs. slice_get xs k) (sym c.deref-test-items.ensures.value) ∙ at in
    let led : LeadsTo d p t.1 = (joined_led d p (slice_index c.deref.result.now) c.in_ok-edges.edges.items c.in_ok-edges.ensures.well_formed c.in_ok-edges.ensures.joined k t here).1 in
    let same_classes = c.in_ok-number.ensures.classes ∙ i.classes in
    let is : IsNumberOf classes after t.1 number = subst (λ (cs : List ℕ). IsNumberOf cs after t.1 number) same_classes c.in_ok-number.ensures.number in
    let (x, y, was, copied, ends) = c.in_ok-clone.ensures.cases in
    let same_label : label ≡ t.0 = range_same (record { start = x.start; end = x.end }) (record { start = y.start; end = y.end }) t.0 label was copied ends.0 ends.1 in
    let more : take (k + 1) ts ≡ take k ts ++ t ∷ [] = take_more ts k t l ∙ ap (λ y. take k ts ++ y ∷ []) (sym c.loop-test-item.is) in
    let kept : LeadAlike classes after (take k ts) c.loop-test.writer.tests = tests_kept (λ q. q ≡ t.1) classes before after c.in_ok-number.ensures.met (take k ts) c.loop-test.writer.tests i.tests in
    record {
      classes = same_classes;
      numbered = subst (λ (cs : List ℕ). AreNumbered cs c.number.new.self.numbers.items after) same_classes c.in_ok-number.ensures.numbered;
      met = met_then (LeadsTo d p) c.args.met.now.states.items before after i.met
          (met_weaker (λ q. q ≡ t.1) (LeadsTo d p) before after (λ q e. subst (LeadsTo d p) (sym e) led) c.in_ok-number.ensures.met);
      rows = c.in_ok-add_edge.ensures.rows ∙ i.rows;
      tests = rw (more, c.in_ok-add_edge.ensures.tests) (tests_push classes after (take k ts) c.loop-test.writer.tests t (label, number) kept same_label is);
      turn = rw c.in_ok-add_edge.ensures.tests (test_in_turn c.args.met.now.states.items before after c.loop-test.writer.tests (label, number) i.turn c.in_ok-number.ensures.turn);
    }

pub returns-clause-met : goal.returns-clause-met
returns-clause-met c =
    let d = c.args.dfa.now in
    let p = c.args.state in
    let classes = c.args.met.now.classes.items in
    let r = the_some _ _ c.state.ensures.at in
    let o : c.other_edge.result ≡ r.0.other = c.other_edge.ensures.other ∙ r.1.1.other in
    let led : LeadsTo d p c.other_edge.result = subst (LeadsTo d p) (sym o) (led_by_other d classes p r.0 r.1.0) in
    met_then (LeadsTo d p) c.args.met.now.states.items c.loop-test.met.states.items c.number-2.new.self.states.items c.loop-test.invariant.met
    (met_weaker (λ q. q ≡ c.other_edge.result) (LeadsTo d p) c.loop-test.met.states.items c.number-2.new.self.states.items (λ q e. subst (LeadsTo d p) (sym e) led) c.in_ok-other.ensures.met)

pub returns-clause-row : goal.returns-clause-row
returns-clause-row c =
    let d = c.args.dfa.now in
    let p = c.args.state in
    let classes = c.args.met.now.classes.items in
    let before = c.loop-test.met.states.items in
    let after = c.number-2.new.self.states.items in
    let ts = c.deref-test-items.result.now in
    let es = c.in_ok-edges.edges.items in
    let past : length ts ≤ c.loop-test.test-index = omega (arith, c.loop-test-test.false) in
    let us = c.loop-test.writer.tests in
    let i = c.loop-test.invariant in
    let r = the_some _ _ c.state.ensures.at in
    let o : c.other_edge.result ≡ r.0.other = c.other_edge.ensures.other ∙ r.1.1.other in
    let joined : AreJoined (slice_index classes) r.0.other r.0.tests es = of_row _ r.0 (λ x. AreJoined (slice_index classes) x.other x.tests es) r.1.0
    (subst (λ (cs : List ℕ). IsSomeAnd (slice_get d p) (λ (x : Row). AreJoined (slice_index cs) x.other x.tests es)) c.deref.ensures.value c.in_ok-edges.ensures.joined) in
    let same_classes = c.in_ok-other.ensures.classes ∙ i.classes in
    let all : LeadAlike classes before es us = subst (λ (vs : List (Range × ℕ)). LeadAlike classes before vs us) (take_all c.loop-test.test-index ts past ∙ c.deref-test-items.ensures.value) i.tests in
    let s : Row = record { kind = c.class_kind-kind.result; tests = us; other = c.in_ok-other.other; items = c.no_items.result } in
    let is : IsNumberOf classes after r.0.other c.in_ok-other.other =
    subst (λ q. IsNumberOf classes after q c.in_ok-other.other) o (subst (λ (cs : List ℕ). IsNumberOf cs after c.other_edge.result c.in_ok-other.other) same_classes c.in_ok-other.ensures.number) in
    let kind : IsClassKind d classes p c.class_kind-kind.result =
    subst (λ (cs : List ℕ). IsClassKind d cs p c.class_kind-kind.result) (c.deref-2.ensures.value ∙ same_classes) c.class_kind-kind.ensures in (
      s,
      c.in_ok-end_row.ensures.rows ∙ ap (λ (rs : List Row). rs ++ s ∷ []) i.rows,
      record {
        row = r.0;
        here = r.1.0;
        joined = es;
        are_joined = joined;
        tests = tests_kept (λ q. q ≡ c.other_edge.result) classes before after c.in_ok-other.ensures.met es us all;
        other = is;
        kind = kind;
      },
      edges_in_turn c.args.met.now.states.items before after us c.in_ok-other.other i.turn c.in_ok-other.ensures.turn,
    )
