use Rattle.std.proofs.Common.{◌≡◌, ◌⊎◌, inl, inr, ◌<◌, ◌≤◌, length, sym, ◌∙◌, subst, arith, ℕ, ◌+◌}
use Rattle.std.specs.Prelude.{slice_get, Some}
use Rattle.lalrpop_dfa.proofs.EdgeTargets.{at_place, the_some, tests_of}
use Rattle.lalrpop_dfa.proofs.Marking.{test_in}
use Rattle.lalrpop_dfa.specs.Internal.Ranks.{IsLeastInto, IsWanted}
use Rattle.lalrpop_dfa.proofs.LeastValues.{IsPassed, passed_next, least_by_test, least_between, least_fitting, none_at_all}
use Rattle.lalrpop_dfa.proofs.witness.least.least_value.Goals as goal
use Rattle.lalrpop_dfa.proofs.witness.least.least_value.Goals.{else-by_other-via-then-by_other+else-next-from, else-by_other-via-else-by_other}

pub returns-then-next-from-clause-least : goal.returns-then-next-from-clause-least
returns-then-next-from-clause-least c =
    let d = c.args.dfa.now in
    let p = c.args.state in
    let W : ℕ → Type 0 = IsWanted c.args.ranks.now c.args.least c.args.most in
    let ts = c.test_edges-test-items.result.now in
    let k = c.loop-test.test-index in
    let t = c.loop-test-item.result in
    let r = the_some _ _ c.state.ensures.at in
    let tests = tests_of d p r.0 ts r.1.0 c.test_edges-test-items.ensures.tests in
    let other = c.other_edge.ensures.other ∙ r.1.1.other in
    let h : IsPassed d W p r.0.tests k c.loop-test.next = subst (λ us. IsPassed d W p us k c.loop-test.next) tests c.loop-test.invariant in
    let here : slice_get r.0.tests k ≡ Some t = subst (λ us. slice_get us k ≡ Some t) tests (at_place ts k t c.loop-test-test.true c.loop-test-item.is) in
    let w : W r.0.other = subst W other (c.is_wanted-by_other.ensures.0 c.if-by_other.true) in
    least_between d W p r.0 r.1.0 (c.state.ensures.well_formed.ascending p r.0 r.1.0) k c.loop-test.next t h here
    (omega (arith, c.start.ensures.value, c.from.ensures, c.if-next-from.true)) (omega (arith, c.start.ensures.value, c.start.type_inv)) w

pub is_wanted-requires : goal.is_wanted-requires
is_wanted-requires c =
    let d = c.args.dfa.now in
    let p = c.args.state in
    let ts = c.test_edges-test-items.result.now in
    let k = c.loop-test.test-index in
    let t = c.loop-test-item.result in
    let r = the_some _ _ c.state.ensures.at in
    let tests = tests_of d p r.0 ts r.1.0 c.test_edges-test-items.ensures.tests in
    let here : slice_get r.0.tests k ≡ Some t = subst (λ us. slice_get us k ≡ Some t) tests (at_place ts k t c.loop-test-test.true c.loop-test-item.is) in
    let within : t.1 < length d = test_in d p r.0 k t c.state.ensures.well_formed r.1.0 here in
    omega (arith, within, c.requires.same_length)

pub returns-then-is_wanted-clause-least : goal.returns-then-is_wanted-clause-least
returns-then-is_wanted-clause-least c =
    let d = c.args.dfa.now in
    let p = c.args.state in
    let W : ℕ → Type 0 = IsWanted c.args.ranks.now c.args.least c.args.most in
    let ts = c.test_edges-test-items.result.now in
    let k = c.loop-test.test-index in
    let t = c.loop-test-item.result in
    let next = c.loop-test.next in
    let r = the_some _ _ c.state.ensures.at in
    let a = c.state.ensures.well_formed.ascending p r.0 r.1.0 in
    let tests = tests_of d p r.0 ts r.1.0 c.test_edges-test-items.ensures.tests in
    let other = c.other_edge.ensures.other ∙ r.1.1.other in
    let h : IsPassed d W p r.0.tests k next = subst (λ us. IsPassed d W p us k next) tests c.loop-test.invariant in
    let here : slice_get r.0.tests k ≡ Some t = subst (λ us. slice_get us k ≡ Some t) tests (at_place ts k t c.loop-test-test.true c.loop-test-item.is) in
    let not_between : ¬ W r.0.other ⊎ (t.0.start ≤ next) = elim c.else-by_other.branch [
      | else-by_other-via-then-by_other+else-next-from w ↦ inr (omega (arith, w.start.ensures.value, w.from.ensures, w.if-next-from.false))
      | else-by_other-via-else-by_other w ↦
          inl (λ v. let yes = c.is_wanted-by_other.ensures.1 (subst W (sym other) v) in let not = w.if-by_other.false in cc)
    ] in
    let w : W t.1 = c.is_wanted.ensures.0 c.if-is_wanted.true in
    subst (λ v. IsLeastInto d W p (Some v)) (sym c.start-then-is_wanted.ensures.value)
    (least_by_test d W p r.0 r.1.0 a k next t h here (omega (arith, c.start-then-is_wanted.ensures.value, c.start-then-is_wanted.type_inv)) not_between w)

pub loop-test-preserved : goal.loop-test-preserved
loop-test-preserved c =
    let d = c.args.dfa.now in
    let p = c.args.state in
    let W : ℕ → Type 0 = IsWanted c.args.ranks.now c.args.least c.args.most in
    let ts = c.test_edges-test-items.result.now in
    let k = c.loop-test.test-index in
    let t = c.loop-test-item.result in
    let next = c.loop-test.next in
    let r = the_some _ _ c.state.ensures.at in
    let a = c.state.ensures.well_formed.ascending p r.0 r.1.0 in
    let tests = tests_of d p r.0 ts r.1.0 c.test_edges-test-items.ensures.tests in
    let other = c.other_edge.ensures.other ∙ r.1.1.other in
    let h : IsPassed d W p r.0.tests k next = subst (λ us. IsPassed d W p us k next) tests c.loop-test.invariant in
    let here : slice_get r.0.tests k ≡ Some t = subst (λ us. slice_get us k ≡ Some t) tests (at_place ts k t c.loop-test-test.true c.loop-test-item.is) in
    let not_between : ¬ W r.0.other ⊎ (t.0.start ≤ next) = elim c.else-by_other.branch [
      | else-by_other-via-then-by_other+else-next-from w ↦ inr (omega (arith, w.start.ensures.value, w.from.ensures, w.if-next-from.false))
      | else-by_other-via-else-by_other w ↦
          inl (λ v. let yes = c.is_wanted-by_other.ensures.1 (subst W (sym other) v) in let not = w.if-by_other.false in cc)
    ] in
    let more : IsPassed d W p r.0.tests (k + 1) (t.0.end + 1) =
    passed_next d W p r.0 r.1.0 a k next t h here not_between (λ w. let yes = c.is_wanted.ensures.1 w in let not = c.if-is_wanted.false in cc) in
    let e : c.from-next.result ≡ t.0.end = c.from-next.ensures ∙ c.end.ensures.value in
    subst (λ v. IsPassed d W p ts (k + 1) (v + 1)) (sym e) (subst (λ us. IsPassed d W p us (k + 1) (t.0.end + 1)) (sym tests) more)

pub returns-then-by_other-2-clause-least : goal.returns-then-by_other-2-clause-least
returns-then-by_other-2-clause-least c =
    let d = c.args.dfa.now in
    let p = c.args.state in
    let W : ℕ → Type 0 = IsWanted c.args.ranks.now c.args.least c.args.most in
    let ts = c.test_edges-test-items.result.now in
    let next = c.loop-test.next in
    let r = the_some _ _ c.state.ensures.at in
    let a = c.state.ensures.well_formed.ascending p r.0 r.1.0 in
    let tests = tests_of d p r.0 ts r.1.0 c.test_edges-test-items.ensures.tests in
    let other = c.other_edge.ensures.other ∙ r.1.1.other in
    let all : c.loop-test.test-index ≡ length ts = omega (arith, c.loop-test-test.false, c.loop-test.auto.test-index-end) in
    let h : IsPassed d W p r.0.tests (length r.0.tests) next =
    subst (λ us. IsPassed d W p us (length us) next) tests (subst (λ k. IsPassed d W p ts k next) all c.loop-test.invariant) in
    let w : W r.0.other = subst W other (c.is_wanted-by_other.ensures.0 c.if-by_other-2.true) in
    least_fitting d W p r.0 r.1.0 a next h c.try_from.result c.ok.result c.try_from.ensures c.ok.ensures.value w

pub returns-else-by_other-2-clause-least : goal.returns-else-by_other-2-clause-least
returns-else-by_other-2-clause-least c =
    let d = c.args.dfa.now in
    let p = c.args.state in
    let W : ℕ → Type 0 = IsWanted c.args.ranks.now c.args.least c.args.most in
    let ts = c.test_edges-test-items.result.now in
    let next = c.loop-test.next in
    let r = the_some _ _ c.state.ensures.at in
    let a = c.state.ensures.well_formed.ascending p r.0 r.1.0 in
    let tests = tests_of d p r.0 ts r.1.0 c.test_edges-test-items.ensures.tests in
    let other = c.other_edge.ensures.other ∙ r.1.1.other in
    let all : c.loop-test.test-index ≡ length ts = omega (arith, c.loop-test-test.false, c.loop-test.auto.test-index-end) in
    let h : IsPassed d W p r.0.tests (length r.0.tests) next =
    subst (λ us. IsPassed d W p us (length us) next) tests (subst (λ k. IsPassed d W p ts k next) all c.loop-test.invariant) in
    none_at_all d W p r.0 r.1.0 a next h (λ v. let yes = c.is_wanted-by_other.ensures.1 (subst W (sym other) v) in let not = c.if-by_other-2.false in cc)
