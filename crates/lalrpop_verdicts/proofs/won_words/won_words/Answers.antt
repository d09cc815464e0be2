use Rattle.std.proofs.Common.{ℕ, List, ◌≡◌, ◌<◌, Some, length, nat_cmp, slice_get, subst, sym}
use Rattle.std.specs.BTreeMap.{get}
use Rattle.lalrpop_verdicts.specs.Internal.Pairs.{ArePairs}
use Rattle.lalrpop_verdicts.specs.Internal.WonWords.{IsFirst, winner_at}
use Rattle.lalrpop_verdicts.specs.declared.pairs.Pair.{Pair}
use Rattle.lalrpop_verdicts.specs.declared.pairs.Follow.TheVariants.{LeftAlive}
use Rattle.lalrpop_verdicts.proofs.WonWordLaws.{walk_start, walk_within, walk_turn, walk_end}
use Rattle.lalrpop_verdicts.proofs.won_words.won_words.Goals as goal

pub loop-tree-init : goal.loop-tree-init
loop-tree-init c =
    let given = c.into_iter-tree-iterator.ensures.into_iter_gives in
    let firsts = subst (λ (xs : List Pair). (q : ℕ) → IsFirst (winner_at c.args.left.now c.args.right.now xs) (length xs) q (get nat_cmp c.in_ok-firsts.firsts q)) c.deref.ensures.value c.in_ok-firsts.ensures.firsts in
    walk_start c.args.left.now c.args.right.now c.in_ok-pairs.pairs.items c.in_ok-firsts.firsts c.into_iter-tree-iterator.result c.new-found.result.items given.0 c.new-found.ensures.items firsts given.5 given.6

pub word_to-requires-clause-within : goal.word_to-requires-clause-within
word_to-requires-clause-within c =
    subst (λ (xs : List Pair). c.in-Some.number.now < length xs) (sym c.deref-in-loop-tree.ensures.value)
    (walk_within c.args.left.now c.args.right.now c.in_ok-pairs.pairs.items c.loop-tree.tree-iterator c.loop-tree.found.items c.loop-tree.invariant (c.in-Some.tree.now, c.in-Some.number.now) c.next.new.self c.in-Some.ensures.steps)

pub loop-tree-preserved : goal.loop-tree-preserved
loop-tree-preserved c =
    let word = subst (λ (xs : List Pair). (h : ArePairs LeftAlive c.args.left.now c.args.right.now xs) → slice_get h.words c.in-Some.number.now ≡ Some c.in_ok-word.word.items) c.deref-in-loop-tree.ensures.value
    (λ h. c.in_ok-word.ensures.word LeftAlive c.args.left.now c.args.right.now h) in
    walk_turn c.args.left.now c.args.right.now c.in_ok-pairs.pairs.items c.loop-tree.tree-iterator c.loop-tree.found.items c.loop-tree.invariant (c.in-Some.tree.now, c.in-Some.number.now) c.next.new.self c.push.new.self.items c.new-by.result c.in_ok-word.word.items
    c.in-Some.ensures.steps c.new-by.ensures.value word c.in_ok-push.ensures.items

pub returns : goal.returns
returns c = record { words = λ stays. walk_end c.args.left.now c.args.right.now c.in_ok-pairs.pairs.items c.loop-tree.tree-iterator c.loop-tree.found.items c.loop-tree.invariant c.in-None.ensures.steps.0 c.in_ok-pairs.ensures.pairs stays }
