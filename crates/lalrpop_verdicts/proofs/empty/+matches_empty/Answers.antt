use Rattle.std.proofs.Common.{◌≡◌, ◌↔◌, [], true, ap, sym, ◌∙◌, subst, arith}
use Rattle.std.specs.Str.{chars}
use Rattle.std.proofs.lemmas.Bool.{iff_false}
use Rattle.lalrpop_hir.specs.Tree.{literal}
use Rattle.lalrpop_hir.specs.Language.{Matches}
use Rattle.lalrpop_hir.specs.Level.{kind_tree}
use Rattle.lalrpop_hir.specs.Internal.Depth.{depth}
use Rattle.lalrpop_hir.specs.Internal.TreeFalls.{depth-le-greatest}
use Rattle.lalrpop_verdicts.proofs.EmptyMatches.{turns_decide, all_go_on, all_stop, literal_decides}
use Rattle.lalrpop_verdicts.proofs.empty.+matches_empty.Goals as goal

pub all_match_empty-matches_empty-requires : goal.all_match_empty-matches_empty-requires
all_match_empty-matches_empty-requires t c =
    let less = depth-le-greatest c.args.parts.now c.loop-part.part-index c.part-item.result c.loop-part-test.true in
    (omega (arith, less, ap depth c.part-item.is), tt)

pub some_match_empty-matches_empty-requires : goal.some_match_empty-matches_empty-requires
some_match_empty-matches_empty-requires t c =
    let less = depth-le-greatest c.args.parts.now c.loop-part.part-index c.part-item.result c.loop-part-test.true in
    (omega (arith, less, ap depth c.part-item.is), tt)

pub all_match_empty-returns-then-not-matches_empty : goal.all_match_empty-returns-then-not-matches_empty
all_match_empty-returns-then-not-matches_empty t c =
    let none = iff_false c.matches_empty.ensures.empty c.if-not-matches_empty.true in
    let stop = all_stop c.args.parts.now c.loop-part.part-index c.part-item.result c.loop-part-test.true c.part-item.is none c.loop-part.invariant in
    (λ e. cc, λ m. absurd (stop m))

pub all_match_empty-loop-part-preserved : goal.all_match_empty-loop-part-preserved
all_match_empty-loop-part-preserved t c =
    all_go_on c.args.parts.now c.loop-part.part-index c.part-item.result c.loop-part-test.true c.part-item.is
    (c.matches_empty.ensures.empty.0 c.if-not-matches_empty.false) c.loop-part.invariant

pub matches_empty-returns-in-Literal : goal.matches_empty-returns-in-Literal
matches_empty-returns-in-Literal t c =
    let text = c.as_str.result.now in
    let is = ap (λ bs. literal (chars bs)) c.as_str.ensures.value ∙ ap kind_tree (sym c.in-Literal.is) ∙ c.kind.ensures.level in
    record { empty = literal_decides c.args.tree.now text c.is_empty.result is c.as_str.utf8 c.is_empty.ensures }

pub matches_empty-returns-else-min-eq0 : goal.matches_empty-returns-else-min-eq0
matches_empty-returns-else-min-eq0 t c =
    let r = c.in-Repetition.repetition in
    let is = ap kind_tree (sym c.in-Repetition.is) ∙ c.kind.ensures.level in
    let part = subst (λ u. (c.matches_empty.result ≡ true) ↔ Matches u []) c.sub.ensures.sub c.matches_empty.ensures.empty in
    record {
      empty =
          turns_decide c.args.tree.now r.sub r.min r.max r.greedy c.matches_empty.result is c.min.ensures.ordered
          (λ e. c.if-min-eq0.false (c.min.ensures.value ∙ e)) part;
    }
