use Rattle.std.proofs.Common.{◌++◌, map, take, sym, ap, ◌∙◌, arith, append_assoc}
use Rattle.std.proofs.lemmas.List.{append-nil}
use Rattle.lalrpop_hir.specs.Parts.{trees}
use Rattle.lalrpop_hir.specs.Internal.Depth.{depth}
use Rattle.lalrpop_hir.specs.Internal.TreeFalls.{depth-le-greatest}
use Rattle.lalrpop_re.specs.GroupName.{names, all_names}
use Rattle.lalrpop_re.proofs.NameLaws.{all_names-take}
use Rattle.lalrpop_re.proofs.names.+names.Goals as goal

pub collect_all-loop-part-init : goal.collect_all-loop-part-init
unfolding all_names
collect_all-loop-part-init t c = sym (append-nil _)

pub collect_all-collect_names-requires : goal.collect_all-collect_names-requires
collect_all-collect_names-requires t c =
    let less = depth-le-greatest c.args.parts.now c.loop-part.part-index c.part-item.result c.loop-part-test.true in
    (omega (arith, less, ap depth c.part-item.is), tt)

pub collect_all-loop-part-preserved : goal.collect_all-loop-part-preserved
collect_all-loop-part-preserved t c =
    let more = all_names-take c.args.parts.now c.loop-part.part-index c.part-item.result c.loop-part-test.true in
    let before = ap (λ ns. ns ++ names c.part-item.result) c.loop-part.invariant in
    c.in_ok-collect_names.ensures ∙ before
    ∙ append_assoc (map (λ n. n.now) c.args.found.now.items) (all_names (trees (take c.loop-part.part-index c.args.parts.now))) (names c.part-item.result)
    ∙ ap (λ ns. map (λ n. n.now) c.args.found.now.items ++ ns) (ap (λ t. all_names (trees (take c.loop-part.part-index c.args.parts.now)) ++ names t) c.part-item.is ∙ sym more)
