use Rattle.std.proofs.Common.{◌∙◌, arith}
use Rattle.lalrpop_rules.proofs.ModeRuns.{no_actions, some_actions}
use Rattle.lalrpop_rules.proofs.rule_lexer.actions_at.Goals as goal

pub returns-then-index-known : goal.returns-then-index-known
returns-then-index-known c = record {
  actions =
      c.deref.ensures.value
      ∙ some_actions (λ k. k.actions.items) c.args.known.now c.args.index c.index-known-index.result c.if-index-known.true;
}

pub returns : goal.returns
returns c = record { actions = no_actions (λ k. k.actions.items) c.args.known.now c.args.index (omega (arith, c.if-index-known.false)) }
