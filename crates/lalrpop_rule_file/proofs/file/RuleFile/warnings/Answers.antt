use Rattle.lalrpop_rule_file.specs.Internal.Found.{HasFound}
use Rattle.lalrpop_rule_file.proofs.FoundWarnings.{found_all, found_none}
use Rattle.lalrpop_rule_file.proofs.file.RuleFile.warnings.Goals as goal

pub returns : goal.returns
returns c =
    let file = c.args.self.now in
    let first : HasFound file 0 0 c.new-found.result.items = rw c.new-found.ensures.items (found_none file) in
    let before : HasFound file 4 0 c.add_modes_not_left.new.found.items =
    c.in_ok-add_modes_not_left.ensures (c.in_ok-add_modes_not_entered.ensures (c.in_ok-add_unused_parts.ensures (c.in_ok-add_no_rules.ensures first))) in
    let all : HasFound file 7 0 c.add_ends_passed.new.found.items = c.in_ok-add_ends_passed.ensures (c.in_ok-add_classes_outside.ensures (c.in_ok-add_texts_going_on.ensures before)) in
    record { all = found_all file c.add_ends_passed.new.found.items all; in_order = all.in_order }
