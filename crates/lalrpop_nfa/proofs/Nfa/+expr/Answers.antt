use Rattle.std.proofs.Common.{inr, arith, rules, ap, ◌≢◌, ◌-◌, ◌∷◌}
use Rattle.std.proofs.lemmas.Result.{err_from_is_err_and, IfOk-weaker}
use Rattle.lalrpop_hir.specs.Parts.{trees}
use Rattle.lalrpop_hir.specs.Internal.Depth.{depth}
use Rattle.lalrpop_hir.specs.Internal.TreeFalls.{depth-le-greatest}
use Rattle.lalrpop_nfa.specs.Internal.Fragment.{fragment_of, before, copies, optional_copies, star_expr, concat_expr}
use Rattle.lalrpop_nfa.specs.Internal.Extends.{Extends}
use Rattle.lalrpop_nfa.specs.Graph.{Lists}
use Rattle.lalrpop_nfa.proofs.BuildLemmas.{noops_new, Extends-before, Extends-star_expr, Extends-plus_expr, Extends-optional_expr, Extends-alternation_expr, Extends-kinds, Extends-copies, Extends-optional_copies, below-last, below-front, fault-last, fault-front, moved, drop_past, first_fault-next, AreValid-next, Branched-more, repeat_more}
use Rattle.lalrpop_nfa.proofs.Nfa.+expr.Goals as goal

pub star_expr-push_noops-requires-clause-is_new : goal.star_expr-push_noops-requires-clause-is_new
star_expr-push_noops-requires-clause-is_new t c = let o = c.in_ok-state.ensures in
    noops_new c.args.self.now c.new_state.new.self c.expr.new.self c.in_ok-state.state o.number o.added o.bare c.in_ok-sub_entry.ensures.extended.kept

pub star_expr-returns-clause-any : goal.star_expr-returns-clause-any
star_expr-returns-clause-any t c = let o = c.in_ok-state.ensures in
    Extends-star_expr (fragment_of c.args.sub.now) c.args.target c.in_ok-state.state c.in_ok-sub_entry.sub_entry c.args.self.now c.new_state.new.self c.expr.new.self c.push_noops.new.self
    o.number o.added c.in_ok-sub_entry.ensures.extended c.in_ok-push_noops.ensures

pub star_expr-returns-clause-some : goal.star_expr-returns-clause-some
star_expr-returns-clause-some t c = let o = c.in_ok-state.ensures in
    Extends-plus_expr (fragment_of c.args.sub.now) c.args.target c.in_ok-state.state c.in_ok-sub_entry.sub_entry c.args.self.now c.new_state.new.self c.expr.new.self c.push_noops.new.self
    o.number o.added c.in_ok-sub_entry.ensures.extended c.in_ok-push_noops.ensures

pub copies-loop-preserved : goal.copies-loop-preserved
copies-loop-preserved t c = let o = c.in_ok-entry.ensures in record {
  compilable = inr (record { no_fault = o.no_fault; valid = o.valid });
  built = Extends-copies (fragment_of c.args.sub.now) c.loop.counter c.args.target c.loop.entry c.in_ok-entry.entry c.args.self.now c.loop.self c.expr.new.self c.loop.invariant.built o.extended;
}

pub optional_copies-loop-preserved : goal.optional_copies-loop-preserved
optional_copies-loop-preserved t c = let o = c.in_ok-entry.ensures in record {
  compilable = inr o.compilable;
  built = Extends-optional_copies (fragment_of c.args.sub.now) c.loop.counter c.args.target c.loop.entry c.in_ok-entry.entry c.args.self.now c.loop.self c.optional_expr.new.self c.loop.invariant.built o.extended;
}

pub optional_expr-push_noops-requires-clause-is_new : goal.optional_expr-push_noops-requires-clause-is_new
optional_expr-push_noops-requires-clause-is_new t c = ap (λ (e : Lists). e.noops) c.in_ok-state.ensures.bare

pub optional_expr-returns-clause-extended : goal.optional_expr-returns-clause-extended
optional_expr-returns-clause-extended t c = let o = c.in_ok-state.ensures in
    Extends-optional_expr (fragment_of c.args.sub.now) c.args.target c.in_ok-state.state c.in_ok-sub_entry.sub_entry c.args.self.now c.expr.new.self c.new_state.new.self c.push_noops.new.self
    c.in_ok-sub_entry.ensures.extended o.number o.added c.in_ok-push_noops.ensures

pub concat_expr-expr-requires : goal.concat_expr-expr-requires
concat_expr-expr-requires t c =
    let less = below-last _ _ _ c.in-Some.ensures.steps _ c.loop-part.invariant.below in
    omega (arith, less)

pub concat_expr-returns-in_err-entry-clause-err : goal.concat_expr-returns-in_err-entry-clause-err
concat_expr-returns-in_err-entry-clause-err t c =
    let p = err_from_is_err_and c.from_residual.result c.from_residual.ensures.1 in
    rw (p.1, p.2)
    (λ d. fault-last _ _ _ c.in-Some.ensures.steps _ _ (c.in_err-entry.ensures.err d) c.loop-part.invariant.no_fault)

pub concat_expr-loop-part-preserved : goal.concat_expr-loop-part-preserved
concat_expr-loop-part-preserved t c =
    let i = c.loop-part.invariant in
    let o = c.in_ok-entry.ensures in
    record {
      can_next = tt;
      is_finite = tt;
      below = below-front _ _ _ c.in-Some.ensures.steps _ i.below;
      no_fault = fault-front _ _ _ c.in-Some.ensures.steps _ o.no_fault i.no_fault;
      built = (
        c.in-Some.part.now ∷ i.built.0,
        moved _ _ _ c.in-Some.ensures.steps c.args.subs.now i.built.0 i.built.1,
        (o.valid, i.built.2),
        Extends-before (fragment_of c.in-Some.part.now) (concat_expr (trees i.built.0)) c.args.target c.loop-part.entry c.in_ok-entry.entry c.args.self.now c.loop-part.self c.expr.new.self i.built.3 o.extended,
      );
    }

pub alternation_expr-expr-requires : goal.alternation_expr-expr-requires
alternation_expr-expr-requires t c =
    let less = depth-le-greatest _ c.loop-sub.sub-index c.sub-item.result c.loop-sub-test.true in
    omega (arith, less, ap depth c.sub-item.is)

pub alternation_expr-loop-sub-preserved : goal.alternation_expr-loop-sub-preserved
alternation_expr-loop-sub-preserved t c =
    let i = c.loop-sub.invariant in
    let o = c.in_ok-expr.ensures in
    let all = c.args.subs.now in
    record {
      no_fault = first_fault-next all c.loop-sub.sub-index c.sub-item.result c.loop-sub-test.true c.sub-item.is o.no_fault i.no_fault;
      valid = AreValid-next all c.loop-sub.sub-index c.sub-item.result c.loop-sub-test.true c.sub-item.is o.valid i.valid;
      longer = (let n = Extends-kinds _ _ _ _ _ o.extended in omega arith);
      built = rw c.in_ok-push.ensures.items (Branched-more all c.loop-sub.sub-index c.sub-item.result c.loop-sub-test.true c.sub-item.is c.args.target c.new_state.new.self c.loop-sub.self c.expr.new.self c.loop-sub.entries.items c.in_ok-expr.field-0 i.built o.extended i.longer);
    }

pub alternation_expr-push_noops-requires-clause-is_new : goal.alternation_expr-push_noops-requires-clause-is_new
alternation_expr-push_noops-requires-clause-is_new t c = let o = c.in_ok-state.ensures in
    noops_new c.args.self.now c.new_state.new.self c.loop-sub.self c.in_ok-state.state o.number o.added o.bare c.loop-sub.invariant.built.kept

pub alternation_expr-returns-clause-extended : goal.alternation_expr-returns-clause-extended
alternation_expr-returns-clause-extended t c =
    let o = c.in_ok-state.ensures in
    let all = c.args.subs.now in
    Extends-alternation_expr (trees all) c.args.target c.in_ok-state.state c.args.self.now c.new_state.new.self c.loop-sub.self c.push_noops.new.self c.loop-sub.entries.items
    o.number o.added (rw (drop_past c.loop-sub.sub-index all c.loop-sub-test.false) at c.loop-sub.invariant.built) (rw c.deref.ensures.value at c.in_ok-push_noops.ensures)

pub repeat_expr-returns-in_ok-entry-in-Some-clause-extended : goal.repeat_expr-returns-in_ok-entry-in-Some-clause-extended
repeat_expr-returns-in_ok-entry-in-Some-clause-extended t c =
    let r = c.args.repetition.now in
    let x = fragment_of r.sub in
    let rest = optional_copies x (c.in-Some.max - r.min) in
    let a = rw (c.sub-sub.ensures.sub, c.min-min.ensures.value) at c.in_ok-entry-in-Some.ensures.extended in
    let b = rw (c.sub-sub.ensures.sub, c.min-min.ensures.value) at c.copies.ensures.extended in
    rw (← c.in-Some.ensures.value)
    (IfOk-weaker c.copies.result (Extends (copies x r.min) c.in_ok-entry-in-Some.entry c.optional_copies.new.self c.copies.new.self) (Extends (before (copies x r.min) rest) c.args.target c.args.self.now c.copies.new.self)
    (λ q h. Extends-before (copies x r.min) rest c.args.target c.in_ok-entry-in-Some.entry q c.args.self.now c.optional_copies.new.self c.copies.new.self a h) b)

pub repeat_expr-returns-in-1-clause-extended : goal.repeat_expr-returns-in-1-clause-extended
repeat_expr-returns-in-1-clause-extended t c = search rules

pub repeat_expr-returns-in_default-clause-extended : goal.repeat_expr-returns-in_default-clause-extended
repeat_expr-returns-in_default-clause-extended t c =
    let r = c.args.repetition.now in
    let x = fragment_of r.sub in
    let m = c.min-min.ensures.value in
    let not_0 : r.min ≢ 0 = λ e. omega arith in
    let not_1 : r.min ≢ 1 = λ e. omega arith in
    let a = rw c.sub-sub.ensures.sub at c.in_ok-state-in-None.ensures.any in
    let b = rw (c.sub-sub.ensures.sub, m) at c.copies-in_default.ensures.extended in
    rw (← c.in-None.ensures.value, repeat_more x r.min not_0 not_1)
    (IfOk-weaker c.copies-in_default.result (Extends (copies x r.min) c.in_ok-state-in-None.state c.star_expr.new.self c.copies-in_default.new.self) (Extends (before (copies x r.min) (star_expr x)) c.args.target c.args.self.now c.copies-in_default.new.self)
    (λ q h. Extends-before (copies x r.min) (star_expr x) c.args.target c.in_ok-state-in-None.state q c.args.self.now c.star_expr.new.self c.copies-in_default.new.self a h) b)
