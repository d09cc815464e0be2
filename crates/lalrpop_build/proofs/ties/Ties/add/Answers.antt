use Rattle.std.proofs.Common.{inl, inr, refl, ◌∙◌, ◌++◌, ◌∷◌, [], ap}
use Rattle.lalrpop_hir.specs.Clashes.{Entry}
use Rattle.lalrpop_build.specs.Internal.BreadthFirst.{word}
use Rattle.lalrpop_build.proofs.TieSteps.{entry_word, pairs_more, pairs_same, pair_new, pair_old}
use Rattle.lalrpop_build.proofs.ties.Ties.add.Goals as goal

pub returns-in_ok-push-clause-added : goal.returns-in_ok-push-clause-added
returns-in_ok-push-clause-added c = inr (
  pair_new c.args.self.now.pairs c.args.self.now.clashes.items c.args.match0 c.args.match1 c.requires.pairs c.in_ok-insert.field-0 c.if-branch.true c.in_ok-insert.ensures.added,
  c.in_ok-push.ensures.items ∙ ap (λ (e : Entry). c.args.self.now.clashes.items ++ e ∷ []) (entry_word c.args.match0 c.args.match1 c.in_ok-word.word.items (word c.args.origins.now c.args.number) c.in_ok-word.ensures),
)

pub returns-in_ok-push-clause-pairs : goal.returns-in_ok-push-clause-pairs
returns-in_ok-push-clause-pairs c =
    pairs_more c.args.self.now.pairs c.insert.new.self c.args.self.now.clashes.items (record { match0 = c.args.match0; match1 = c.args.match1; word = c.in_ok-word.word.items }) c.requires.pairs c.in_ok-insert.ensures.updates
    c.push.new.self.items c.in_ok-push.ensures.items

pub returns-else-branch-clause-added : goal.returns-else-branch-clause-added
returns-else-branch-clause-added c = inl (pair_old c.args.self.now.pairs c.args.self.now.clashes.items c.args.match0 c.args.match1 c.requires.pairs c.in_ok-insert.field-0 c.if-branch.false c.in_ok-insert.ensures.added, refl)

pub returns-else-branch-clause-pairs : goal.returns-else-branch-clause-pairs
returns-else-branch-clause-pairs c =
    pairs_same c.args.self.now.pairs c.insert.new.self c.args.self.now.clashes.items (record { match0 = c.args.match0; match1 = c.args.match1; word = [] }) c.requires.pairs c.in_ok-insert.ensures.updates
    c.args.self.now.clashes.items (pair_old c.args.self.now.pairs c.args.self.now.clashes.items c.args.match0 c.args.match1 c.requires.pairs c.in_ok-insert.field-0 c.if-branch.false c.in_ok-insert.ensures.added) refl
