use Rattle.std.proofs.Common.{refl}
use Rattle.uses_rules.proofs.EditCosts.{whole_text}
use Rattle.uses_rules.proofs.edit_cost.cut_whole.Goals as goal

pub returns : goal.returns
returns c = record {
  cost =
      whole_text c.in_ok-lexed.lexed c.edit_counted.new.self c.args.lexer.now _ c.args.text.now c.in_ok-edit_counted.field-0 c.args.steps.now c.edit_counted.new.steps
      c.in_ok-lexed.ensures.lexed refl c.in_ok-edit_counted.ensures.edited c.in_ok-edit_counted.ensures.cost;
}
