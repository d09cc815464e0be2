use Rattle.std.proofs.Common.{◌≡◌, ◌<◌, length, get_or, ap, arith, refl}
use Rattle.lalrpop_dfa.proofs.SetOrder.{alike_at, alike_left, alike_right, alike_none}
use Rattle.lalrpop_dfa.proofs.items.first_apart.Goals as goal

pub returns-then-left-index : goal.returns-then-left-index
returns-then-left-index c =
    let l : c.loop-index.index < length c.args.left.now = omega (arith, c.loop-index-test.true, c.min-both.ensures) in
    let r : c.loop-index.index < length c.args.right.now = omega (arith, c.loop-index-test.true, c.min-both.ensures) in
    alike_at c.args.left.now c.args.right.now c.loop-index.index c.requires.left c.requires.right c.loop-index.invariant (omega arith) (omega arith) c.min.result l r (omega (arith, c.min.ensures)) (omega (arith, c.min.ensures))

pub returns-then-both-left : goal.returns-then-both-left
returns-then-both-left c =
    let at : c.loop-index.index ≡ c.min-both.result = omega arith in
    alike_left c.args.left.now c.args.right.now c.loop-index.index c.requires.left c.requires.right c.loop-index.invariant (omega arith) (omega arith) (get_or c.args.left.now c.min-both.result 0) (omega arith) (omega arith)
    (omega (arith, ap (λ k. get_or c.args.left.now k 0) at))

pub returns-then-both-right : goal.returns-then-both-right
returns-then-both-right c =
    let at : c.loop-index.index ≡ c.min-both.result = omega arith in
    alike_right c.args.left.now c.args.right.now c.loop-index.index c.requires.left c.requires.right c.loop-index.invariant (omega arith) (omega arith) (get_or c.args.right.now c.min-both.result 0) (omega arith) (omega arith)
    (omega (arith, ap (λ k. get_or c.args.right.now k 0) at))

pub returns-else-both-right : goal.returns-else-both-right
returns-else-both-right c = alike_none 0 c.args.left.now c.args.right.now refl
