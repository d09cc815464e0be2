use Rattle.std.proofs.Common.{ℕ, sym}
use Rattle.lalrpop_rule_file.specs.FileModes.{IsNumber}
use Rattle.lalrpop_rule_file.specs.Internal.Lines.{names_in}
use Rattle.lalrpop_rule_file.proofs.ModeNumbers.{is_there}
use Rattle.lalrpop_rule_file.proofs.Names.{added, add_old}
use Rattle.lalrpop_rule_file.proofs.Results.{if_not_some, if_some}
use Rattle.lalrpop_rule_file.proofs.modes.add_name.Goals as goal

pub returns-in_ok-push : goal.returns-in_ok-push
returns-in_ok-push c =
    let none = rw c.deref.ensures.value at c.number_of.ensures.none in
    record { added = added c.args.modes.now.items c.push.new.self.items c.args.name (if_not_some c.number_of.result c.if-is_none.ensures none) c.in_ok-push.ensures.items }

pub returns-else-is_none : goal.returns-else-is_none
returns-else-is_none c =
    let names = names_in c.args.modes.now.items in
    let some = rw c.deref.ensures.value at c.number_of.ensures.some in
    let found = if_some (λ (n : ℕ). IsNumber names c.args.name.now n) c.number_of.result c.if-is_none.ensures some in
    record { added = sym (add_old names c.args.name.now (is_there names c.args.name.now found.0 found.1)) }
