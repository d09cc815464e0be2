use Rattle.std.proofs.Common.{not, [], get_or, sym, ap, ◌∙◌}
use Rattle.lalrpop_re.proofs.Steps.{not_true, not_false}
use Rattle.lalrpop_re.proofs.NameLaws.{repeated_at, first_at, distinct_more, seen_more}
use Rattle.lalrpop_re.proofs.names.first_repeated.Goals as goal

pub returns-then-not-is_new-clause-repeated : goal.returns-then-not-is_new-clause-repeated
returns-then-not-is_new-clause-repeated c =
    let met = not_true _ (sym c.in_ok-is_new.ensures.added ∙ c.if-not-is_new.true) in
    ap not (sym (repeated_at c.args.found.now c.loop-i.i _ c.loop-i-test.true (sym (c.loop-i.invariant.seen (get_or c.args.found.now c.loop-i.i (record { ref_ptr = (0, 0); now = [] }))) ∙ met)))

pub returns-then-not-is_new-clause-first : goal.returns-then-not-is_new-clause-first
returns-then-not-is_new-clause-first c =
    let met = not_true _ (sym c.in_ok-is_new.ensures.added ∙ c.if-not-is_new.true) in
    first_at c.args.found.now c.loop-i.i _ c.loop-i-test.true c.loop-i.invariant.distinct (sym (c.loop-i.invariant.seen (get_or c.args.found.now c.loop-i.i (record { ref_ptr = (0, 0); now = [] }))) ∙ met)

pub loop-i-preserved : goal.loop-i-preserved
loop-i-preserved c =
    let unmet = not_false _ (sym c.in_ok-is_new.ensures.added ∙ c.if-not-is_new.false) in
    record {
      seen = λ q. seen_more c.args.found.now c.loop-i.i _ q.now _ _ c.loop-i-test.true (c.in_ok-is_new.ensures.updates.0 q) (c.loop-i.invariant.seen q);
      distinct = distinct_more c.args.found.now c.loop-i.i _ c.loop-i-test.true c.loop-i.invariant.distinct (sym (c.loop-i.invariant.seen (get_or c.args.found.now c.loop-i.i (record { ref_ptr = (0, 0); now = [] }))) ∙ unmet);
    }
