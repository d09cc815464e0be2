use Rattle.std.proofs.Common.{rules}
use Rattle.lalrpop_verdicts.specs.Internal.Pairs.{AreKnown, IsAdded}
use Rattle.lalrpop_verdicts.proofs.MetPairs.{added_old, added_new, known_push, met_now}
use Rattle.lalrpop_verdicts.proofs.pairs.Met.add_other.Goals as goal

new_pair : (c : goal.In_ok-push) → IsAdded c.args.self.now.pairs.items c.args.pair c.push.new.self.items
new_pair c =
    added_new c.args.self.now.states.keys c.args.self.now.pairs.items c.args.pair c.index-left.result c.index-right.result c.requires.known.known c.index-left.ensures.value c.index-right.ensures.value
    c.in_ok-insert.field-0 c.push.new.self.items c.in_ok-insert.ensures.added c.if-branch.true c.in_ok-push.ensures.items

old_pair : (c : goal.Else-branch) → IsAdded c.args.self.now.pairs.items c.args.pair c.args.self.now.pairs.items
old_pair c =
    added_old c.args.self.now.states.keys c.args.self.now.pairs.items c.args.pair c.index-left.result c.index-right.result c.requires.known.known c.index-left.ensures.value c.index-right.ensures.value
    c.in_ok-insert.field-0 c.in_ok-insert.ensures.added c.if-branch.false

pub returns-in_ok-push-clause-known : goal.returns-in_ok-push-clause-known
returns-in_ok-push-clause-known c =
    met_now c.args.self.now.states.keys c.args.self.now.pairs.items c.args.pair c.index-left.result c.index-right.result c.requires.known.known c.index-left.ensures.value c.index-right.ensures.value
    c.insert.new.self.keys c.push.new.self.items
    (known_push c.args.self.now.states.keys c.args.self.now.pairs.items c.args.pair c.index-left.result c.index-right.result c.requires.known.known c.index-left.ensures.value c.index-right.ensures.value
    c.insert.new.self.keys c.push.new.self.items (λ a. c.in_ok-insert.ensures.updates.0 a) c.in_ok-push.ensures.items)
    (new_pair c)

pub returns-in_ok-push-clause-added : goal.returns-in_ok-push-clause-added
returns-in_ok-push-clause-added c = new_pair c

pub returns-else-branch-clause-known : goal.returns-else-branch-clause-known
returns-else-branch-clause-known c =
    let known : AreKnown c.insert.new.self.keys c.args.self.now.pairs.items = search rules in
    met_now c.args.self.now.states.keys c.args.self.now.pairs.items c.args.pair c.index-left.result c.index-right.result c.requires.known.known c.index-left.ensures.value c.index-right.ensures.value
    c.insert.new.self.keys c.args.self.now.pairs.items known (old_pair c)

pub returns-else-branch-clause-added : goal.returns-else-branch-clause-added
returns-else-branch-clause-added c = old_pair c
