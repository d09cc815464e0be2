use Rattle.std.proofs.Common.{◌+◌, ◌≤◌, [], ◌∷◌, ◌++◌, length, refl, rules, arith}
use Rattle.uses_rules.proofs.Counting.{count_more, room_for_one_more}
use Rattle.uses_rules.proofs.ModePieces.{piece_more, all_pieces}
use Rattle.uses_rules.proofs.cut_by_rules.piece_count.Goals as goal

pub loop-piece-init : goal.loop-piece-init
loop-piece-init c = ([], search rules)

pub overflow_add-count : goal.overflow_add-count
overflow_add-count c =
    let so_far = c.loop-piece.invariant in
    let given = c.in_ok-piece-items.ensures in
    let more = piece_more _ _ _ _ _ _ so_far.0 c.in-Ok.field-0 c.into_iter-piece-iterator.ensures.into_iter_gives so_far.1.0 c.in-Some.is c.next.ensures.steps c.in-Ok.is in
    let few = given.count _ _ (given.next _ _ more).0 in
    let room : c.loop-piece.count + 1 ≤ length c.args.text.now = room_for_one_more c.args.text.now so_far.0 c.in-Ok.field-0 c.loop-piece.count c.utf8.text few so_far.1.1 in
    omega arith

pub loop-piece-preserved : goal.loop-piece-preserved
loop-piece-preserved c =
    let so_far = c.loop-piece.invariant in
    let more = piece_more _ _ _ _ _ _ so_far.0 c.in-Ok.field-0 refl so_far.1.0 c.in-Some.is c.next.ensures.steps c.in-Ok.is in
    (so_far.0 ++ c.in-Ok.field-0 ∷ [], (more, count_more _ so_far.0 c.in-Ok.field-0 so_far.1.1))

pub returns : goal.returns
returns c =
    let so_far = c.loop-piece.invariant in
    let given = c.in_ok-piece-items.ensures in
    let all = all_pieces _ _ _ _ _ so_far.0 c.into_iter-piece-iterator.ensures.into_iter_gives so_far.1.0 c.in-None.is c.next.ensures.steps given.next in
    record { all = (so_far.0, (_, (given.pieces _ _ all.0 all.1, given.whole _ _ all.0 all.1, given.apart _ _ all.0 all.1, so_far.1.1))) }
