use Rattle.std.proofs.Common.{◌≡◌, ◌+◌, ◌*◌, ◌≤◌, ◌⊎◌, ◌++◌, List, length, drop}
use Rattle.lalrpop_hir.specs.Tree.{Tree}
use Rattle.lalrpop_hir.specs.Parts.{trees}
use Rattle.lalrpop_hir.specs.Internal.Depth.{depth, greatest_depth}
use Rattle.lalrpop_hir.specs.Fault.{first_fault, last_fault}
use Rattle.lalrpop_nfa.specs.Internal.Valid.{AreValid}
use Rattle.lalrpop_nfa.specs.Internal.Fragment.{fragment_of, copies, optional_copies, concat_expr}
use Rattle.lalrpop_nfa.specs.Internal.Extends.{Extends, Branched, IsCompilable}
use Rattle.lalrpop_nfa.proofs.Nfa.+expr.Given as goal

abbrev pub decreases-expr : goal.decreases-expr
decreases-expr l = 2 * depth l.hir.now

abbrev pub decreases-repeat_expr : goal.decreases-repeat_expr
decreases-repeat_expr l = 2 * depth l.repetition.now.sub + 3

abbrev pub decreases-star_expr : goal.decreases-star_expr
decreases-star_expr l = 2 * depth l.sub.now + 1

abbrev pub decreases-copies : goal.decreases-copies
decreases-copies l = 2 * depth l.sub.now + 1

abbrev pub decreases-optional_copies : goal.decreases-optional_copies
decreases-optional_copies l = 2 * depth l.sub.now + 2

abbrev pub decreases-optional_expr : goal.decreases-optional_expr
decreases-optional_expr l = 2 * depth l.sub.now + 1

abbrev pub decreases-concat_expr : goal.decreases-concat_expr
decreases-concat_expr l = 2 * greatest_depth (trees l.subs.now) + 2

abbrev pub decreases-alternation_expr : goal.decreases-alternation_expr
decreases-alternation_expr l = 2 * greatest_depth (trees l.subs.now) + 2

abbrev pub invariant-copies-loop : goal.invariant-copies-loop
invariant-copies-loop l = record {
  compilable : (l.counter ≡ 0) ⊎ IsCompilable l.sub;
  built : Extends (copies (fragment_of l.sub) l.counter) l.fn.target l.fn.self l.self l.entry;
}

abbrev pub invariant-optional_copies-loop : goal.invariant-optional_copies-loop
invariant-optional_copies-loop l = record {
  compilable : (l.counter ≡ 0) ⊎ IsCompilable l.sub;
  built : Extends (optional_copies (fragment_of l.sub) l.counter) l.fn.target l.fn.self l.self l.entry;
}

abbrev pub invariant-concat_expr-loop-part : goal.invariant-concat_expr-loop-part
invariant-concat_expr-loop-part l = record {
  can_next : (goal.iterator-concat_expr-loop-part).can_next l.part-iterator;
  is_finite : (goal.iterator-concat_expr-loop-part).is_finite l.part-iterator;
  below : greatest_depth (trees l.part-iterator.iter.rest.now) ≤ greatest_depth (trees l.subs);
  no_fault : last_fault (trees l.part-iterator.iter.rest.now) ≡ last_fault (trees l.subs);
  built : (done : List Tree) × (l.subs ≡ l.part-iterator.iter.rest.now ++ done) × AreValid (trees done) × Extends (concat_expr (trees done)) l.fn.target l.fn.self l.self l.entry;
}

abbrev pub invariant-alternation_expr-loop-sub : goal.invariant-alternation_expr-loop-sub
invariant-alternation_expr-loop-sub l = record {
  no_fault : first_fault (trees (drop l.sub-index l.subs)) ≡ first_fault (trees l.subs);
  valid : AreValid (trees (drop l.sub-index l.subs)) → AreValid (trees l.subs);
  longer : length l.initial.self.kinds ≤ length l.self.kinds;
  built : Branched l.target (trees l.subs) (trees (drop l.sub-index l.subs)) l.initial.self l.self l.entries.items;
}
